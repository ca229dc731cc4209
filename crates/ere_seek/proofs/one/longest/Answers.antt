-- `longest` meets its contract: the start is followed by pairs, if there are some, and then by bytes.
use mathlib.Core.Path.{refl, sym, subst}
use mathlib.Core.Logic.{⊎_elim}
use Prim.Native.Nat.{ℕ, ◌<◌}
use native.Mathlib.Omega.{arith}
use lib.ListN.{get_or}
use borrow.Author.Tests.{ne_eqb}
use Rattle.ere_seek.proofs.Following.{entry_ready, bounds-start, means-start, Going, going-paired}
use Rattle.ere_seek.proofs.Following.{longest-paired, longest-followed}
use Rattle.ere_seek.proofs.one.longest.Goals as goal
use Rattle.ere_seek.proofs.one.longest.Goals.{Joined-d-ne0}

-- where the rest is followed by bytes
going : (c : Joined-d-ne0)
    → let a = c.args in
    Going a.d.now a.x.now a.s a.first c.if-d-ne0.l
going c =
    let a = c.args in
    let p = c.requires in
    let d = a.d.now in
    let x = a.x.now in
    let bytes : (n : ℕ) → get_or x n 0 < 256 = λ n. (c.shared_slice_known-2-1.given n).fits in
    let M = means-start d x bytes a.s a.first _ c.entered.ensures refl refl in
    ⊎_elim
    (λ w.
    subst (Going d x a.s a.first) (sym w.l-is)
    (going-paired d x a.s a.first a.until _ w.by_two-l.result M w.by_two-l.ensures w.if-l-dead.false))
    (λ w.
    subst (Going d x a.s a.first) (sym w.l-is) (
      (entry_ready d a.first _ p.0 c.entered.ensures).state,
      bounds-start x a.s _ p.1 refl refl,
      M,
    ))
    c.if-d-ne0.branch-raw

pub overflow_cast-k : goal.overflow_cast-k
overflow_cast-k c = omega (arith, c.shared_slice_known-3-1.given 0)

pub overflow_cast-dead : goal.overflow_cast-dead
overflow_cast-dead c = omega (arith, c.shared_slice_known-4-1.given 3)

pub by_two-l-requires : goal.by_two-l-requires
by_two-l-requires c =
    let a = c.args in
    let p = c.requires in (
      record {
        ready = entry_ready a.d.now a.first _ p.0 c.entered.ensures;
        bounds = bounds-start a.x.now a.s _ p.1 refl refl;
        small = p.2;
      },
      ne_eqb _ _ c.if-d-ne0.true,
    )

pub returns-then-l-dead : goal.returns-then-l-dead
returns-then-l-dead c =
    let a = c.args in
    let bytes : (n : ℕ) → get_or a.x.now n 0 < 256 = λ n. (c.shared_slice_known-2-1.given n).fits in
    longest-paired a.d.now a.x.now a.s a.first a.until _ c.by_two-l.result
    (means-start a.d.now a.x.now bytes a.s a.first _ c.entered.ensures refl refl)
    c.by_two-l.ensures
    c.if-l-dead.true

pub by_one-requires : goal.by_one-requires
by_one-requires c =
    let g = going c in
    (record { ranged = c.requires.0; state = g.0; classes = refl }, g.1.to, g.1.inside)

pub returns : goal.returns
returns c =
    let a = c.args in
    longest-followed a.d.now a.x.now a.s a.first a.until _ _ (going (goal.at.returns c).Joined-d-ne0) c.by_one.ensures
