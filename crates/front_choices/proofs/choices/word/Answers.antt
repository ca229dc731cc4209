-- `word`, by its number.
use native.Mathlib.Omega.{arith}
use mathlib.Core.Path.{◌≡◌, refl, ap, ◌∙◌}
use mathlib.Core.List.{List}
use Prim.Native.Nat.{ℕ, zero, suc, ◌-◌}
use Rattle.buffer.specs.Parts.{part}
use Rattle.front_words.specs.Words.{words_of, word_in}
use Rattle.front_choices.specs.Choices.{word_number}
use borrow.Author.Rules.{rules}
use Rattle.front_choices.proofs.choices.word.Goals as goal

-- a number that is not 0 is one more than the number from 0 on
numbered : (words : List (List ℕ)) (k : ℕ) → (k ≡ 0 → ⊥) → word_in words (k - 1) ≡ word_number words k
unfolding word_number
numbered words zero h = absurd (h refl)
numbered words (suc k) h = let e : suc k - 1 ≡ k = omega arith in ap (word_in words) e

pub returns-then-k-eq0 : goal.returns-then-k-eq0
unfolding word_number
returns-then-k-eq0 c = search rules

pub returns : goal.returns
unfolding part
returns c =
    let a = c.args in
    c.find_word-w.ensures.word ∙ numbered (words_of a.block.now) a.k c.if-k-eq0.false
