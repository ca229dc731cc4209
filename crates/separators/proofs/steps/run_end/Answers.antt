-- `run_end` meets its contract: the blanks are the two bytes that are looked for.
use Prim.Native.Nat.{ℕ, ◌+◌}
use mathlib.Core.Path.{ap, ◌∙◌}
use mathlib.Core.Bool.{true, false}
use mathlib.Core.List.{[], ◌∷◌}
use lib.ListN.{drop}
use Rattle.splitting.specs.Separator.{blanks}
use Rattle.separators.proofs.Stepping.{run-kind}
use Rattle.separators.proofs.steps.run_end.Goals as goal

pub returns-then-blank : goal.returns-then-blank
unfolding blanks
returns-then-blank c =
    let a = c.args in
    c.past_two.ensures
    ∙ ap (λ (n : ℕ). a.at + n) (run-kind a.blank true (32 ∷ 9 ∷ []) (drop a.at a.text.now) c.if-blank.true)

pub returns : goal.returns
unfolding blanks
returns c =
    let a = c.args in
    c.first_of_two.ensures
    ∙ ap (λ (n : ℕ). a.at + n) (run-kind a.blank false (32 ∷ 9 ∷ []) (drop a.at a.text.now) c.if-blank.false)
