-- `constants_fit`: the entries that are left say what all do.
use mathlib.Core.Path.{◌≡◌}
use Prim.Native.Nat.{◌-◌, ◌≤◌}
use Rattle.program_image.proofs.Judged.{constants_fit}
use Rattle.program_image.proofs.sizes.constants_fit.Given as goal

abbrev pub invariant-loop-k : goal.invariant-loop-k
invariant-loop-k l = (l.k ≤ l.n) × (constants_fit l.s l.table 0 l.n ≡ constants_fit l.s l.table l.k (l.n - l.k))
