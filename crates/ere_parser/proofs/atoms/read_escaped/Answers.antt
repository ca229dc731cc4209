-- `read_escaped`: the byte that the escape spells.
use mathlib.Core.Path.{sym, ap, ◌∙◌}
use mathlib.Core.List.{List}
use Prim.Native.Nat.{ℕ}
use Rattle.ere_meaning.specs.Tree.{only}
use Rattle.ere_grammar.specs.Read.{only_byte}
use Rattle.ere_byte_set.specs.Words.{in_class}
use Rattle.ere_bracket.proofs.Answers.{in-only}
use Rattle.ere_parser.proofs.Atomic.{reads-got}
use Rattle.ere_parser.proofs.atoms.read_escaped.Goals as goal

pub returns-in_err-b : goal.returns-in_err-b
unfolding only_byte
returns-in_err-b c = rw c.from_residual.ensures (ap only_byte (sym c.in_err-b.ensures.same))

pub returns : goal.returns
unfolding only_byte
returns c =
    let w = c.in_ok-b.ensures in
    let f = w.further in
    let b = c.in_ok-b.b in
    reads-got c.args.at _ _ (only b) (ap only_byte (sym w.same)) f.0 f.1
    (λ x h. ap (λ (w : List ℕ). in_class w x) c.single-words.ensures ∙ in-only b x h)
