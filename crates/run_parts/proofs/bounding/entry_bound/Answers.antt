-- `entry_bound` meets its contract, by the kind in the entry's head.
use native.Mathlib.Omega.{arith}
use mathlib.Core.List.{List}
use Prim.Native.Nat.{ℕ}
use Rattle.run_room.specs.Room.{word_at}
use Rattle.run_parts.proofs.Bounded.{entry-number, entry_other}
use Rattle.run_parts.proofs.bounding.entry_bound.Goals as goal

pub returns-then-h-eq1 : goal.returns-then-h-eq1
unfolding word_at
returns-then-h-eq1 c =
    let a = c.args in
    (omega arith, λ (line : List ℕ). entry-number line a.work.now a.i c.get_word-h.result c.get_word-h.ensures c.if-h-eq1.true)

pub returns : goal.returns
unfolding word_at
returns c =
    let a = c.args in
    (omega arith, λ (line : List ℕ). entry_other line a.work.now a.i c.get_word-h.result c.get_word-h.ensures c.if-h-eq1.false)
