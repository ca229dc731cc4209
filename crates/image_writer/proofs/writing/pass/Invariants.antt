-- `pass` meets its contract: what it comes to is the same after each turn.
use mathlib.Core.Path.{◌≡◌}
use Prim.Native.Nat.{◌-◌}
use lib.ListN.{length}
use Rattle.image_format.specs.Numbers.{coded}
use Rattle.image_format.specs.Reading.{from_words}
use Rattle.image.proofs.Passing.{Going}
use Rattle.image_writer.proofs.writing.pass.Given as goal

abbrev pub invariant-loop-s : goal.invariant-loop-s
invariant-loop-s l =
    (Going from_words coded l.content l.initial.bytes 8 l.bytes l.s l.at l.k) × (length l.bytes ≡ length l.initial.bytes)

abbrev pub decreases-loop-s : goal.decreases-loop-s
decreases-loop-s l = length l.content - l.at
