-- `pass` meets its contract: what it comes to is the same after each turn.
use mathlib.Core.Path.{◌≡◌}
use mathlib.Core.List.{[], ◌∷◌}
use Prim.Native.Nat.{◌-◌}
use lib.ListN.{length}
use Rattle.image_format.specs.Reading.{from_bytes}
use Rattle.image.proofs.Passing.{Going}
use Rattle.image.proofs.reading.pass.Given as goal

abbrev pub invariant-loop-s : goal.invariant-loop-s
invariant-loop-s l =
    (Going from_bytes (λ n. n ∷ []) l.image l.initial.words 1 l.words l.s l.at l.k) × (length l.words ≡ length l.initial.words)

abbrev pub decreases-loop-s : goal.decreases-loop-s
decreases-loop-s l = length l.image - l.at
