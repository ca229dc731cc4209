-- `pairs_to` meets its contract: s is the state after 2 j bytes.
use Rattle.std.proofs.Common.{◌≡◌, ◌*◌}
use Rattle.ere_automaton.specs.Layout.{State}
use Rattle.ere_automaton.specs.Scan.{runs}
use Rattle.ere_automaton.proofs.blocks.pairs_to.Given as goal

abbrev pub invariant-loop-j : goal.invariant-loop-j
invariant-loop-j l = (State l.d l.s) × (l.s ≡ runs l.d l.x l.from l.state (2 * l.j))
