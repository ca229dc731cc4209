-- `copy_long` meets its contract: k bytes are copied, which is a multiple of a block.
use Prim.Native.Nat.{◌+◌, ◌%◌, ◌<◌}
use mathlib.Core.Path.{◌≡◌}
use lib.ListN.{length}
use Rattle.buffer.specs.Parts.{part, put}
use Rattle.run_room.proofs.blocks.copy_long.Given as goal

abbrev pub invariant-loop-k : goal.invariant-loop-k
invariant-loop-k l = (l.k % 16 ≡ 0) × (l.k < l.n + 16) × (length l.s ≡ length l.initial.s) × (l.s ≡ put l.initial.s l.to (part l.from l.k l.initial.s))
