-- So many bytes taken off an image's.
use mathlib.Core.Path.{◌≡◌, refl, ap, ◌∙◌}
use mathlib.Core.List.{List, [], ◌∷◌}
use mathlib.Core.Option.{none}
use Prim.Native.Nat.{ℕ, zero, suc, ◌+◌, ◌-◌, ◌≤◌, ◌<◌}
use native.Mathlib.Omega.{arith}
use lib.ListN.{length, take, drop, get_or, length-drop}
use lib.Seq.{get_or-drop, drop-drop}
use borrow.Author.Tests.{le-leb}
use Rattle.lists.specs.Parsing.{parsed, many}
use Rattle.buffer.specs.Parts.{part}
use Rattle.image_format.specs.Reading.{word_up_to}

pub many-bytes : (n : ℕ) (l : List ℕ) → ((i : ℕ) → i < length l → get_or l i 0 < 256) → n ≤ length l → many (word_up_to 255) n l ≡ parsed (take n l) (drop n l)
unfolding many
many-bytes zero l b h = refl
many-bytes (suc n) [] b h = absurd (omega arith)
many-bytes (suc n) (x ∷ l) b h =
    rw (le-leb x 255 (let z = b 0 (omega arith) in omega arith), many-bytes n l (λ i g. b (suc i) (omega arith)) (omega arith))

pub many-missing : (n : ℕ) (l : List ℕ) → ((i : ℕ) → i < length l → get_or l i 0 < 256) → length l < n → many (word_up_to 255) n l ≡ none
unfolding many
many-missing zero l b h = absurd (omega arith)
many-missing (suc n) [] b h = refl
many-missing (suc n) (x ∷ l) b h =
    rw (le-leb x 255 (let z = b 0 (omega arith) in omega arith), many-missing n l (λ i g. b (suc i) (omega arith)) (omega arith))

module _ (l : List ℕ) (bytes : (i : ℕ) → i < length l → get_or l i 0 < 256) (at : ℕ) (h : at ≤ length l) where
  rest-bytes : (i : ℕ) → i < length (drop at l) → get_or (drop at l) i 0 < 256
  rest-bytes i g = let z = length-drop at l in rw (get_or-drop at l i 0) (bytes (at + i) (omega arith))

  pub take-bytes : (n : ℕ) → n ≤ length l - at → many (word_up_to 255) n (drop at l) ≡ parsed (part at n l) (drop (at + n) l)
  unfolding part
  take-bytes n g =
      many-bytes n (drop at l) rest-bytes (omega (arith, length-drop at l)) ∙ ap (parsed (take n (drop at l))) (drop-drop n at l)

  pub miss-bytes : (n : ℕ) → length l - at < n → many (word_up_to 255) n (drop at l) ≡ none
  miss-bytes n g = many-missing n (drop at l) rest-bytes (omega (arith, length-drop at l))
