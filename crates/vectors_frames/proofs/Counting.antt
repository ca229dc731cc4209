-- A law on tallies, by which a walk through a file ends.
use mathlib.Core.Path.{◌≡◌, ap}
use Prim.Native.Nat.{◌<◌}
use native.Mathlib.Omega.{arith}
use Rattle.vectors_frames.specs.declared.tally.Tally.{Tally}
use Rattle.vectors_frames.specs.declared.tally.Verdict.{Verdict}
use Rattle.vectors_frames.specs.declared.tally.Verdict.TheVariants.{Passed, Failed, Cut, End}
use Rattle.vectors_frames.specs.Tally.{after}

fewer : (t : Tally) (v : Verdict) → 0 < t.left → (after t v).left < t.left
fewer t Passed h = omega arith
fewer t Failed h = omega arith
fewer t Cut h = omega arith
fewer t End h = omega arith

-- each look leaves fewer
pub left-fewer : (t r : Tally) (v : Verdict) → r ≡ after t v → 0 < t.left → r.left < t.left
left-fewer t r v e h = omega (arith, fewer t v h, ap (λ (x : Tally). x.left) e)
