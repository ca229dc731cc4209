-- `put_shown`: what is written, and what is left as it is spelled, are the list as it is spelled.
use mathlib.Core.Path.{◌≡◌}
use Prim.Native.Nat.{◌+◌, ◌*◌, ◌≤◌}
use lib.ListN.{length}
use Rattle.front_places.specs.Shown.{shown_byte}
use Rattle.front_lines.proofs.Putting.{Spelling}
use Rattle.front_lines.proofs.lines.put_shown.Given as goal

abbrev pub invariant-loop-b : goal.invariant-loop-b
invariant-loop-b l = (length l.room ≡ length l.initial.room) × (l.n ≤ l.k + 4 * l.b-index) × Spelling shown_byte l.initial.room l.k l.s l.room l.n l.b-index
