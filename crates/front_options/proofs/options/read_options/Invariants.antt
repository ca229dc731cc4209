-- `read_options`: what is read so far, and the words that are left.
use mathlib.Core.Path.{◌≡◌}
use Prim.Native.Nat.{◌-◌, ◌≤◌}
use lib.ListN.{length, drop}
use Rattle.front_words.specs.Words.{words_of}
use Rattle.front_options.specs.Reading.{read_from, options_of}
use Rattle.front_options.proofs.options.read_options.Given as goal

abbrev pub invariant-loop-at : goal.invariant-loop-at
invariant-loop-at l = (l.at ≤ length l.block) × (l.k ≤ l.at) × (options_of (words_of l.block) ≡ read_from l.o l.k (words_of (drop l.at l.block)))

abbrev pub decreases-loop-at : goal.decreases-loop-at
decreases-loop-at l = length l.block - l.at
