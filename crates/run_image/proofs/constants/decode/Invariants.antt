-- `decode` meets its contract. The loop's invariant: the first k words are those of the first k constants.
use mathlib.Core.Path.{◌≡◌}
use mathlib.Core.List.{List}
use Prim.Native.Nat.{◌-◌, ◌≤◌}
use lib.ListN.{length}
use Rattle.image_format.specs.Image.{Constant}
use Rattle.run_image.specs.Constants.{Listed}
use Rattle.run_image.proofs.Decoding.{WordsTo}
use Rattle.run_image.proofs.constants.decode.Given as goal

abbrev pub invariant-loop-k : goal.invariant-loop-k
invariant-loop-k l =
    (l.k ≤ l.n) × (length l.words ≡ length l.initial.words)
    × ((xs : List Constant) → Listed l.image l.index xs → WordsTo l.image l.words xs l.k)
