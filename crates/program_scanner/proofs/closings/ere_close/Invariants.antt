-- `ere_close`: what is left of the text closes where the whole does.
use mathlib.Core.Path.{◌≡◌}
use mathlib.Core.Bool.{false}
use Prim.Native.Nat.{◌-◌}
use lib.ListN.{length, drop}
use Rattle.program_tokens.specs.Tokens.{ere_length}
use Rattle.program_scanner.specs.Closings.{ere_close}
use Rattle.program_scanner.proofs.closings.ere_close.Given as goal

abbrev pub invariant-loop-i : goal.invariant-loop-i
invariant-loop-i l = ere_close l.at (ere_length false (drop l.at l.s)) ≡ ere_close l.i (ere_length l.escaped (drop l.i l.s))

abbrev pub decreases-loop-i : goal.decreases-loop-i
decreases-loop-i l = length l.s - l.i
