-- `next` meets its contract: the word lies in the row of s.
use Prim.Native.Nat.{ℕ, ◌+◌, ◌<◌}
use native.Mathlib.Omega.{arith}
use lib.ListN.{length}
use Rattle.ere_automaton.specs.Layout.{class_in}
use Rattle.ere_automaton.proofs.States.{next_fits}
use Rattle.ere_seek.proofs.states.next.Goals as goal
use Rattle.ere_seek.proofs.states.next.Goals.{Start}

abbrev index : Start → ℕ
index c = c.args.s + class_in c.args.d.now c.args.b

inside : (c : Start) → index c < length c.args.d.now
inside c =
    let a = c.args in
    next_fits a.d.now c.requires.0 a.s a.b c.requires.1 (omega arith)

pub overflow_cast-result-2 : goal.overflow_cast-result-2
overflow_cast-result-2 c = omega (arith, c.shared_slice_known-1.given (24 + c.args.b))

pub overflow_add-result-2 : goal.overflow_add-result-2
overflow_add-result-2 c = omega (arith, inside (goal.at.overflow_add-result-2 c).Start)

pub offset_bounds-d-s : goal.offset_bounds-d-s
offset_bounds-d-s c = omega (arith, inside (goal.at.offset_bounds-d-s c).Start)

pub bounds-d-s : goal.bounds-d-s
bounds-d-s c = omega (arith, inside (goal.at.bounds-d-s c).Start)

pub overflow_cast-result-3 : goal.overflow_cast-result-3
overflow_cast-result-3 c = omega (arith, c.shared_slice_known-2-1.given (index (goal.at.overflow_cast-result-3 c).Start))
