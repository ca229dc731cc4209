-- `word_length`: the run is what was passed and what is left of it.
use mathlib.Core.Path.{◌≡◌}
use Prim.Native.Nat.{◌+◌, ◌-◌, ◌≤◌}
use lib.ListN.{length, drop}
use Rattle.lists.specs.Elements.{leading}
use Rattle.program_tokens.specs.Tokens.{is_word_byte}
use Rattle.program_scanner.proofs.bytes.word_length.Given as goal

abbrev pub invariant-loop-i : goal.invariant-loop-i
invariant-loop-i l = (l.at ≤ l.i) × (leading is_word_byte (drop l.at l.s) + l.at ≡ l.i + leading is_word_byte (drop l.i l.s))

abbrev pub decreases-loop-i : goal.decreases-loop-i
decreases-loop-i l = length l.s - l.i
