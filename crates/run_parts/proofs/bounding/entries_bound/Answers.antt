-- `entries_bound` meets its contract: a bound of the first i.
use native.Mathlib.Omega.{arith}
use mathlib.Core.Path.{◌≡◌, ap}
use mathlib.Core.List.{List}
use Prim.Native.Nat.{ℕ}
use native.Mathlib.Numerals.{add-one}
use Rattle.run_room.specs.Room.{entries_to}
use Rattle.run_parts.specs.Join.{texts_size}
use Rattle.run_parts.proofs.Bounded.{entries_none, entries-more}
use Rattle.run_parts.proofs.bounding.entries_bound.Goals as goal

pub loop-i-init : goal.loop-i-init
loop-i-init c = (omega arith, omega arith, λ (line : List ℕ). omega (arith, entries_none line c.args.work.now))

pub entry_bound-sum-requires : goal.entry_bound-sum-requires
entry_bound-sum-requires c = (c.requires.0, omega arith)

pub overflow_add-sum : goal.overflow_add-sum
overflow_add-sum c = omega (arith, c.loop-i.invariant.1, c.entry_bound-sum.ensures.0)

pub loop-i-preserved : goal.loop-i-preserved
loop-i-preserved c =
    let x = c.args.work.now in
    let i = c.loop-i.i in (
      omega arith,
      omega (arith, c.loop-i.invariant.1, c.entry_bound-sum.ensures.0),
      λ (line : List ℕ).
          let z = ap (λ (q : ℕ). texts_size (entries_to line x q)) (add-one i) in
          omega (arith, c.loop-i.invariant.2 line, c.entry_bound-sum.ensures.1 line, entries-more line x i),
    )

pub returns : goal.returns
returns c =
    let e : c.loop-i.i ≡ c.args.n = omega arith in (
      omega (arith, c.loop-i.invariant.1),
      λ (line : List ℕ).
          let z = ap (λ (q : ℕ). texts_size (entries_to line c.args.work.now q)) e in
          omega (arith, c.loop-i.invariant.2 line),
    )
