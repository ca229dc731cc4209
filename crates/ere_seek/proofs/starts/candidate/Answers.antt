-- `candidate` meets its contract: past blocks, if there are ranges, and then by bytes.
use mathlib.Core.Path.{sym, subst}
use mathlib.Core.Logic.{inl, inr, ⊎_elim}
use Prim.Native.Nat.{ℕ, ◌<◌}
use native.Mathlib.Omega.{arith}
use lib.ListN.{get_or}
use borrow.Author.Tests.{not-true}
use Rattle.lists.proofs.Tests.{and-true}
use Rattle.ere_automaton.specs.Scan.{ranges_of, Skipped}
use Rattle.ere_automaton.proofs.Ranging.{skipped-inside}
use Rattle.ere_seek.proofs.Bareness.{candidate-none, candidate-blocks}
use Rattle.ere_seek.proofs.starts.candidate.Goals as goal

pub returns-then-first-d : goal.returns-then-first-d
returns-then-first-d c = candidate-none _ _ _ _ c.requires.2

pub beginning-requires : goal.beginning-requires
beginning-requires c =
    let a = c.args in
    let p = c.requires in (
      p.0,
      ⊎_elim
          (λ w.
          omega (
            arith,
            w.s-is,
            skipped-inside (ranges_of a.d.now) a.x.now a.from w.next_block-s.result w.next_block-s.ensures
                p.2,
          ))
          (λ w. omega (arith, w.s-is, p.2))
          c.if-d-from.branch-raw,
    )

pub returns : goal.returns
returns c =
    let a = c.args in
    let d = a.d.now in
    let x = a.x.now in
    let bytes : (n : ℕ) → get_or x n 0 < 256 = λ n. (c.shared_slice_known-2-1.given n).fits in
    candidate-blocks d x bytes a.from c.if-d-from.s a.first _
    (⊎_elim (λ w. inl (not-true _ (and-true _ _ w.if-d-from.true).0, subst (Skipped (ranges_of d) x a.from) (sym w.s-is) w.next_block-s.ensures))
    (λ w. inr w.s-is) c.if-d-from.branch-raw)
    c.if-first-d.false c.beginning.ensures
