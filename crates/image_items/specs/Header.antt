-- Internal: cited by private contracts only. The numbers before the lists of an image, and the lists after them.
use Rattle.std.specs.Prelude.{◌≡◌, Option, Some, None, true, List, ℕ, ◌≤◌, length, drop}
use Rattle.std.proofs.Math.Option.{some}
use Rattle.lists.specs.Parsing.{parsed, Parser}
use Rattle.image_format.specs.Image.{Instruction, Image, known}
use Rattle.image_format.specs.Numbers.{take_number}
use Rattle.image_format.specs.Reading.{from_bytes, word_up_to, counted, constant, instruction, read_image}
use Rattle.image_items.specs.declared.header.Header.{Header}

-- ---- how the lists of an image follow each other

-- a list is at the front of bytes, and K holds of what it leaves
abbrev pub Follows : {A : Type 0} → Parser A → List A → (List ℕ → Type 0) → List ℕ → Type 0
Follows one xs K l = (t : List ℕ) × (counted from_bytes one l ≡ parsed xs t) × (K t)

-- three sections, and nothing after them
abbrev pub SectionsOf : ℕ → List Instruction → List Instruction → List Instruction → List ℕ → Type 0
SectionsOf edition begins records ends =
    Follows (instruction from_bytes edition) begins (
    Follows (instruction from_bytes edition) records (Follows (instruction from_bytes edition) ends (λ t. length t ≡ 0)))

module _ (i : Image) where
  abbrev pub SectionsIn : List ℕ → Type 0
  SectionsIn = SectionsOf i.edition i.begin i.main i.end

  abbrev pub ListsIn : List ℕ → Type 0
  ListsIn = Follows (constant from_bytes) i.constants
      (Follows (counted from_bytes (word_up_to 255)) i.eres SectionsIn)

-- the numbers before the lists
pub record IsHeader (l : List ℕ) (h : Header) : Type 0 where
  pub found : (i : Image) → read_image from_bytes l ≡ some i
      → (h.edition ≡ i.edition) × (h.users ≡ i.users) × (ListsIn i (drop h.at l))
  pub inside : h.at ≤ length l
  pub there : (t : List ℕ) × (take_number l ≡ parsed h.edition t) × (known h.edition ≡ true)
      × (take_number t ≡ parsed h.users (drop h.at l))

-- these, or there is no image
abbrev pub HeaderAt : List ℕ → Option Header → Type 0
HeaderAt l None = (i : Image) → read_image from_bytes l ≡ some i → ⊥
HeaderAt l (Some h) = IsHeader l h
