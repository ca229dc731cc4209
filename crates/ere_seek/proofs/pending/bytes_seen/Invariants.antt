-- `bytes_seen` meets its contract: s is the state at i, f the last place before it where nothing was pending.
use Prim.Native.Nat.{◌-◌, ◌≤◌}
use Rattle.ere_automaton.specs.Layout.{State}
use Rattle.ere_seek.specs.Pending.{Ran}
use Rattle.ere_seek.proofs.pending.bytes_seen.Given as goal

abbrev pub invariant-loop-i : goal.invariant-loop-i
invariant-loop-i l =
    (l.start ≤ l.i) × (State l.d l.s) × (Ran l.d l.x l.start (l.i - l.start) l.initial.s l.initial.f l.s l.f)
