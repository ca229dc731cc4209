-- `copy_over_long` meets its contract: k bytes are copied, which is a multiple of a block.
use Prim.Native.Nat.{◌+◌, ◌%◌, ◌<◌}
use mathlib.Core.Path.{◌≡◌}
use Rattle.buffer.specs.Parts.{part, put}
use Rattle.block_copy.proofs.copies.copy_over_long.Given as goal

abbrev pub invariant-loop-k : goal.invariant-loop-k
invariant-loop-k l = (l.k % 16 ≡ 0) × (l.k < l.n + 16) × (l.dst ≡ put l.initial.dst l.at (part l.from l.k l.src))
