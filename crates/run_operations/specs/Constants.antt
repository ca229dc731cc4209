-- Internal: cited by private contracts only. A constant as one word: a number's distance from the least number; or,
-- from `text_base` on, where in the image a text is, and its size.
use Rattle.std.specs.Prelude.{◌≡◌, List, ℕ, ◌+◌, ◌-◌, ◌/◌, ◌%◌, ◌^◌, ◌≤◌, ◌<◌, length}
use Rattle.edition.specs.Limits.{text_bytes, number_bound}
use Rattle.buffer.specs.Parts.{part}
use Rattle.number.specs.Range.{top}
use Rattle.image_format.specs.Image.{Constant, number, text}

abbrev pub text_base : ℕ
text_base = 2 ^ 60

abbrev pub place_in : ℕ → ℕ
place_in word = (word - text_base) / 65536

abbrev pub size_of : ℕ → ℕ
size_of word = (word - text_base) % 65536

-- a number, or a part of the image
pub record Fits (image : List ℕ) (word : ℕ) : Type 0 where
  pub range : word < text_base → word ≤ top
  pub inside : text_base ≤ word → place_in word + size_of word ≤ length image
  pub most : size_of word ≤ text_bytes

-- the word is that of a constant
abbrev pub Decodes : List ℕ → ℕ → Constant → Type 0
Decodes image word (number n) = (word ≡ number_bound + n) × (n ≤ number_bound)
Decodes image word (text l) = (text_base ≤ word) × (part (place_in word) (size_of word) image ≡ l)
