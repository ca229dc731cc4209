use mathlib.Core.Path.{ap, ◌∙◌}
use mathlib.Core.List.{[]}
use Prim.Native.Nat.{ℕ}
use Rattle.program_parser.specs.Reading.{answered}
use Rattle.program_operations.proofs.Suffixes.{suffixed-ok, suffixed-no}
use Rattle.program_operations.proofs.parts.suffix.Goals as goal

pub returns-then-r-ne0 : goal.returns-then-r-ne0
returns-then-r-ne0 c = suffixed-no 0 [] _ _ _ _ _ _ c.if-r-ne0.true

pub returns : goal.returns
returns c =
    suffixed-ok 0 [] _ _ _ _ _ _ _ _ c.if-r-ne0.false
    (c.ok.ensures ∙ ap (λ (i : ℕ). answered
    c.args.r.token i
    c.args.form)
    c.emit-count.ensures.0) c.emit-count.ensures.1
