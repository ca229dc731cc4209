-- `number_in`: what was passed, and the number among the words that are left.
use mathlib.Core.Path.{◌≡◌}
use Prim.Native.Nat.{◌+◌, ◌-◌, ◌≤◌}
use lib.ListN.{length, drop}
use Rattle.front_words.specs.Words.{words_of}
use Rattle.front_options.specs.Kinds.{number_in}
use Rattle.front_options.proofs.options.number_in.Given as goal

abbrev pub invariant-loop-at : goal.invariant-loop-at
invariant-loop-at l = (l.at ≤ length l.block) × (l.k ≤ l.at) × (number_in (words_of l.block) l.word ≡ l.k + number_in (words_of (drop l.at l.block)) l.word)

abbrev pub decreases-loop-at : goal.decreases-loop-at
decreases-loop-at l = length l.block - l.at
