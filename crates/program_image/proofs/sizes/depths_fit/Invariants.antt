-- `depths_fit`: the instructions that are left say what all do.
use mathlib.Core.Path.{◌≡◌}
use Prim.Native.Nat.{◌≤◌}
use Rattle.program_image.specs.Fitting.{depths_fit}
use Rattle.program_image.proofs.Parts.{instructions_from}
use Rattle.program_image.proofs.sizes.depths_fit.Given as goal

abbrev pub invariant-loop-i : goal.invariant-loop-i
invariant-loop-i l =
    (l.i ≤ l.count) × (depths_fit (instructions_from l.section 0 l.count) ≡ depths_fit (instructions_from l.section l.i l.count))
