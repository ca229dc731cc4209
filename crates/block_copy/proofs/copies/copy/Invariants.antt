-- `copy` meets its contract: k bytes are copied, and the last block, which begins in them or right after them, ends the
-- copy.
use Prim.Native.Nat.{◌≤◌}
use mathlib.Core.Path.{◌≡◌}
use lib.ListN.{take}
use Rattle.buffer.specs.Parts.{put}
use Rattle.block_copy.proofs.copies.copy.Given as goal

abbrev pub invariant-loop-k : goal.invariant-loop-k
invariant-loop-k l = (l.k ≤ l.last) × (l.dst ≡ put l.initial.dst l.at (take l.k l.src))
