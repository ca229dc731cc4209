-- `alike` meets its contract: each class of the set leads to `next`.
use mathlib.Core.Path.{◌≡◌, sym, subst, ◌∙◌}
use mathlib.Core.Logic.{⊎_elim}
use Prim.Native.Nat.{ℕ}
use native.Mathlib.Omega.{arith}
use borrow.Author.Rules.{rules}
use lib.ListN.{get_or}
use Rattle.lists.proofs.Digits.{bit-zero}
use Rattle.lists.proofs.Tests.{clash}
use Rattle.ere_search.specs.Walk.{step}
use Rattle.ere_shapes.proofs.Ranges.{class-more}
use Rattle.ere_shapes.proofs.leads.alike.Goals.{then-eq, else-eq}
use Rattle.ere_shapes.proofs.leads.alike.Goals as goal

pub loop-c-init : goal.loop-c-init
loop-c-init c = λ e h f. absurd (clash (sym f ∙ bit-zero e))

pub loop-c-preserved : goal.loop-c-preserved
loop-c-preserved c =
    let a = c.args in
    let l = c.loop-c in
    elim c.if-eq.branch [
      | then-eq w ↦
          let same : c.step.result ≡ a.next = search rules in
          λ e h f.
          ⊎_elim (l.invariant e h)
          (λ z. subst (λ (j : ℕ). step a.t.now a.s (get_or a.bytes.now j 0) ≡ a.next) (sym z) (sym c.step.ensures ∙ same))
          (class-more l.out l.c e (omega arith) (rw w.out-is at f))
      | else-eq w ↦ rw w.out-is l.invariant
    ]
