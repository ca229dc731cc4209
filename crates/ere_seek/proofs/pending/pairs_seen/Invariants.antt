-- `pairs_seen` meets its contract: s is the state after 2 j bytes, f the last place where nothing was pending.
use Prim.Native.Nat.{◌*◌}
use Rattle.ere_automaton.specs.Scan.{Ready}
use Rattle.ere_seek.specs.Pending.{Ran}
use Rattle.ere_seek.proofs.pending.pairs_seen.Given as goal

abbrev pub invariant-loop-j : goal.invariant-loop-j
invariant-loop-j l = (Ready l.d l.k l.s) × (Ran l.d l.x l.i (2 * l.j) l.initial.s l.initial.f l.s l.f)
