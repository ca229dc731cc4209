-- `by_bytes` meets its contract: s is the state after the bytes up to i.
use Rattle.std.proofs.Common.{◌≡◌, ◌-◌, ◌≤◌}
use Rattle.ere_automaton.specs.Layout.{State}
use Rattle.ere_automaton.specs.Scan.{runs}
use Rattle.ere_automaton.proofs.blocks.by_bytes.Given as goal

abbrev pub invariant-loop-i : goal.invariant-loop-i
invariant-loop-i l = (l.from ≤ l.i) × (State l.d l.s) × (l.s ≡ runs l.d l.x l.from l.state (l.i - l.from))
