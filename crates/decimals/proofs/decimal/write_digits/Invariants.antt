-- `write_digits`: the digits from index i on stand, and those before it are the rest's.
use mathlib.Core.Path.{◌≡◌}
use Prim.Native.Nat.{◌+◌, ◌≤◌, ◌<◌}
use lib.ListN.{length, take, drop}
use Rattle.buffer.specs.Parts.{put}
use Rattle.decimals.specs.Decimal.{decimal_digits}
use Rattle.decimals.proofs.decimal.write_digits.Given as goal

abbrev pub invariant-loop-i : goal.invariant-loop-i
invariant-loop-i l =
    (l.i ≤ l.count)
    × (l.out ≡ put l.initial.out (l.at + l.i) (drop l.i (decimal_digits l.n)))
    × (length l.out ≡ length l.initial.out)
    × (0 < l.i → take l.i (decimal_digits l.n) ≡ decimal_digits l.rest)
