-- `accept_bits` meets its contract: the word is the last of the row that has no pairs.
use mathlib.Core.Path.{ap}
use Prim.Native.Nat.{ℕ, ◌+◌, ◌<◌}
use native.Mathlib.Omega.{arith}
use lib.ListN.{length, get_or}
use Rattle.ere_automaton.proofs.States.{end_fits}
use Rattle.ere_seek.proofs.states.accept_bits.Goals as goal
use Rattle.ere_seek.proofs.states.accept_bits.Goals.{Start}

fits : (c : Start) → c.args.s + c.args.k < length c.args.d.now
fits c = omega (arith, c.requires.classes, end_fits c.args.d.now c.args.s c.requires.state)

pub overflow_add-result : goal.overflow_add-result
overflow_add-result c = omega (arith, fits c)

pub offset_bounds-d-s : goal.offset_bounds-d-s
offset_bounds-d-s c = omega (arith, fits c)

pub bounds-d-s : goal.bounds-d-s
bounds-d-s c = omega (arith, fits (goal.at.bounds-d-s c).Start)

pub returns : goal.returns
returns c = let a = c.args in ap (λ (k : ℕ). get_or a.d.now (a.s + k) 0) c.requires.classes
