-- `find_word` meets its contract: word k is the word of what is left of k, from where the walk is.
use mathlib.Core.Path.{◌≡◌}
use Prim.Native.Nat.{◌-◌, ◌≤◌}
use lib.ListN.{length, drop}
use Rattle.front_words.specs.Words.{words_of, word_in}
use Rattle.front_words.proofs.words.find_word.Given as goal

abbrev pub invariant-loop-passed : goal.invariant-loop-passed
invariant-loop-passed l = (l.at ≤ length l.block) × (word_in (words_of l.block) l.k ≡ word_in (words_of (drop l.at l.block)) (l.k - l._passed))
