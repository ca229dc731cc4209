-- `string_close`: what is left of the text closes where the whole does.
use mathlib.Core.Path.{◌≡◌}
use mathlib.Core.Bool.{false}
use Prim.Native.Nat.{◌-◌}
use lib.ListN.{length, drop}
use Rattle.program_tokens.specs.Tokens.{read_string}
use Rattle.program_scanner.specs.Closings.{string_close}
use Rattle.program_scanner.proofs.closings.string_close.Given as goal

abbrev pub invariant-loop-i : goal.invariant-loop-i
invariant-loop-i l =
    string_close l.s (read_string false (drop l.at l.s)) ≡ string_close l.s (read_string l.escaped (drop l.i l.s))

abbrev pub decreases-loop-i : goal.decreases-loop-i
decreases-loop-i l = length l.s - l.i
