-- Internal: cited by private contracts only. A constant as one word: a number's distance from the least number; or,
-- from `text_base` on, where in the image a text is, and its size.
use Rattle.std.specs.Prelude.{◌≡◌, List, ℕ, ◌+◌, ◌-◌, ◌/◌, ◌%◌, ◌^◌, ◌≤◌, ◌<◌, length, get_or}
use Rattle.std.proofs.Math.Option.{some}
use Rattle.lists.specs.Elements.{nth}
use Rattle.edition.specs.Limits.{text_bytes, number_bound, constant_count}
use Rattle.buffer.specs.Parts.{part}
use Rattle.number.specs.Range.{top}
use Rattle.image_format.specs.Image.{Constant, number, text, image_bound}
use Rattle.semantics.specs.Checked.{Short}
use Rattle.image_index.specs.Lists.{Indexes}
use Rattle.image_index.specs.declared.indexes.Kind.TheVariants.{Constants}

abbrev pub text_base : ℕ
text_base = 2 ^ 60

-- the place and the size of a text
abbrev pub place_in : ℕ → ℕ
place_in word = (word - text_base) / 65536

abbrev pub size_in : ℕ → ℕ
size_in word = (word - text_base) % 65536

-- a number of the range, or a part of the image
pub record Fits (image : List ℕ) (word : ℕ) : Type 0 where
  pub range : word < text_base → word ≤ top
  pub inside : text_base ≤ word → place_in word + size_in word ≤ length image
  pub most : text_base ≤ word → size_in word ≤ text_bytes

-- the word is that of a constant
abbrev pub Decodes : List ℕ → ℕ → Constant → Type 0
Decodes image word (number n) = (word ≡ number_bound + n) × (n ≤ number_bound)
Decodes image word (text l) = (text_base ≤ word) × (part (place_in word) (size_in word) image ≡ l)

-- a constant and its word
abbrev pub Decoded : List ℕ → ℕ → Constant → Type 0
Decoded image word a = (Fits image word) × (Decodes image word a)

-- an index of constants that the check accepts
pub record Listed (image index : List ℕ) (xs : List Constant) : Type 0 where
  pub small : length image < image_bound
  pub few : length xs ≤ constant_count
  pub short : (n : ℕ) (a : Constant) → nth xs n ≡ some a → Short a
  pub edition : ℕ
  pub indexed : Indexes edition Constants image xs index

-- each constant's word is among these
abbrev pub Words : List ℕ → List ℕ → List Constant → Type 0
Words image words xs = (n : ℕ) (a : Constant) → nth xs n ≡ some a → Decoded image (get_or words n 0) a
