-- `leaves` meets its contract, by its tests.
use mathlib.Core.Path.{sym, ◌∙◌}
use mathlib.Core.Bool.{true≢false}
use borrow.Author.Tests.{eq-eqb, ne_eqb}
use mathlib.Core.Logic.{⊎_elim}
use Rattle.image_instructions.proofs.instructions.terminates.Goals as goal

pub returns-then-code-eq-NEXT : goal.returns-then-code-eq-NEXT
returns-then-code-eq-NEXT c = ⊎_elim (λ w. let zero = eq-eqb c.args.code 0 w.if-code-eq-END.true in rw zero (w.t-3-is ∙ zero)) (λ w. rw (ne_eqb c.args.code 0 w.if-code-eq-END.false, sym w.t-3-is ∙ c.if-code-eq-NEXT.true-raw) c.if-code-eq-NEXT.true-raw) c.if-code-eq-END.branch-raw

pub returns-else-code-eq-NEXT : goal.returns-else-code-eq-NEXT
returns-else-code-eq-NEXT c = ⊎_elim (λ w. absurd (true≢false (sym (w.t-3-is ∙ eq-eqb c.args.code 0 w.if-code-eq-END.true) ∙ c.if-code-eq-NEXT.false-raw))) (λ w. rw (ne_eqb c.args.code 0 w.if-code-eq-END.false, sym w.t-3-is ∙ c.if-code-eq-NEXT.false-raw)) c.if-code-eq-END.branch-raw
