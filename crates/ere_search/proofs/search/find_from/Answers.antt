-- `find_from` meets its contract: no start below s has a match, if the table is sealed.
use borrow.Author.Count.{below_more}
use Prim.Native.Nat.{ℕ, suc, ◌-◌, ◌≤◌, ◌<◌}
use lib.ListN.{length}
use native.Mathlib.Omega.{arith}
use mathlib.Core.Path.{◌≡◌, refl, sym, ◌∙◌}
use Rattle.ere_search.proofs.Skips.{not-begun}
use Rattle.ere_search.proofs.Answers.{finds}
use Rattle.ere_search.proofs.search.find_from.Goals as goal
use Rattle.ere_search.proofs.search.find_from.Goals.{then-may_begin+else-n-gt0, else-may_begin}

-- the number of a match is its length and 1
of_number : (n : ℕ) → 0 < n → n ≡ suc (n - 1)
of_number n h = omega arith

none : (n : ℕ) → n ≤ 0 → n ≡ 0
none n h = omega arith

pub returns-then-n-gt0 : goal.returns-then-n-gt0
returns-then-n-gt0 c =
    finds _ _ _ _ _ (c.loop-s.s, refl, omega arith, sym c.longest_from-n.ensures ∙ of_number _ c.if-n-gt0.true, c.loop-s.invariant)

pub loop-s-preserved : goal.loop-s-preserved
loop-s-preserved c =
    below_more _ _ c.loop-s.invariant
    (elim c.if-may_begin.branch [
      | then-may_begin+else-n-gt0 w ↦ λ S. sym w.longest_from-n.ensures ∙ none _ w.if-n-gt0.false
      | else-may_begin w ↦
          not-begun _ _ _ _ _ _ _ c.may_be_empty-empty.ensures c.may_begin.ensures w.if-may_begin.false (omega arith)
          (omega arith)
    ])

pub returns-then-n-gt0-2 : goal.returns-then-n-gt0-2
returns-then-n-gt0-2 c =
    let e : c.loop-s.s ≡ length c.args.rest.now = omega arith in
    finds _ _ _ _ _
    (c.loop-s.s, rw e refl, omega arith, rw e (sym c.longest_from-n-2.ensures ∙ of_number _ c.if-n-gt0-2.true), c.loop-s.invariant)

pub returns : goal.returns
returns c =
    let e : c.loop-s.s ≡ length c.args.rest.now = omega arith in
    finds _ _ _ _ _ (below_more _ _ (rw e at c.loop-s.invariant) (λ S. sym c.longest_from-n-2.ensures ∙ none _ c.if-n-gt0-2.false))
