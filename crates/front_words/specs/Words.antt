-- Internal: cited by private contracts only. The words of a block of bytes: each is ended by a NUL, the last one by a
-- NUL or by the end of the block.
use Rattle.std.specs.Prelude.{ℕ, zero, suc, cond, List, [], ◌∷◌, eqb}

-- a byte before the first word
abbrev pub lengthened : ℕ → List (List ℕ) → List (List ℕ)
lengthened b [] = (b ∷ []) ∷ []
lengthened b (w ∷ ws) = (b ∷ w) ∷ ws

-- a byte before words: a NUL ends an empty word there
abbrev pub with_byte : ℕ → List (List ℕ) → List (List ℕ)
with_byte b ws = cond (eqb b 0) ([] ∷ ws) (lengthened b ws)

unfoldable pub words_of : List ℕ → List (List ℕ)
words_of [] = []
words_of (b ∷ l) = with_byte b (words_of l)

-- word k, the empty one where there are not so many
unfoldable pub word_in : List (List ℕ) → ℕ → List ℕ
word_in [] k = []
word_in (w ∷ ws) zero = w
word_in (w ∷ ws) (suc k) = word_in ws k
