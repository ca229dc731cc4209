-- `put_text`: what is written, and what is left of the text after it, are the text.
use mathlib.Core.Path.{◌≡◌}
use Prim.Native.Nat.{◌+◌}
use lib.ListN.{length, drop}
use Rattle.varint.specs.Room.{with_all}
use Rattle.front_lines.proofs.put.put_text.Given as goal

abbrev pub invariant-loop-i : goal.invariant-loop-i
invariant-loop-i l = (length l.room ≡ length l.initial.room) × (with_all l.initial.room l.k l.text ≡ with_all l.room (l.k + l.i) (drop l.i l.text))
