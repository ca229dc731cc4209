-- `put_words` ends: each turn takes one word more, and has room for its line.
use mathlib.Core.Path.{◌≡◌}
use Prim.Native.Nat.{◌≤◌}
use lib.ListN.{length}
use Rattle.front_runs.proofs.contents.put_words.Given as goal

abbrev pub invariant-loop-word : goal.invariant-loop-word
invariant-loop-word l = (length l.room ≡ length l.initial.room) × (l.k ≤ l.size)
