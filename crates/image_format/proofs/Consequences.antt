-- What follows for bytes and content words: each is read where the other is written, and equal content is equal bytes.
use mathlib.Core.Path.{◌≡◌, refl, sym, ◌∙◌}
use mathlib.Core.Logic.{◌↔◌}
use mathlib.Core.List.{List}
use mathlib.Core.Option.{Option, some, none}
use Prim.Native.Nat.{ℕ}
use Rattle.lists.proofs.Options.{some_one, none-some}
use Rattle.image_format.specs.Image.{Image}
use Rattle.image_format.specs.Reading.{read_image, from_bytes, from_words}
use Rattle.image_format.specs.Writing.{bytes_of, content_of}
use Rattle.image_format.proofs.Sources.{bytes-agree, words-agree}
use Rattle.image_format.proofs.Images.{read-written, read_only}

-- an image that was read has its content, and its bytes are those that it was read from
pub reading-back : (b : List ℕ) (i : Image) → read_image from_bytes b ≡ some i → (read_image from_words (content_of i) ≡ some i) × (bytes_of i ≡ b)
reading-back b i h =
    let r = read_only bytes-agree b h in
    (read-written words-agree r.0, sym r.1)

-- content that was read has its bytes, and is the content of what was read
pub writing-back : (w : List ℕ) (i : Image) → read_image from_words w ≡ some i → (read_image from_bytes (bytes_of i) ≡ some i) × (content_of i ≡ w)
writing-back w i h =
    let r = read_only words-agree w h in
    (read-written bytes-agree r.0, sym r.1)

-- bytes with one content are the same bytes
pub same-content : (a b : List ℕ) (i j : Image) → read_image from_bytes a ≡ some i → read_image from_bytes b ≡ some j → content_of i ≡ content_of j → a ≡ b
same-content a b i j h k e =
    let x = reading-back a i h in
    let y = reading-back b j k in
    let same : i ≡ j = some_one x.0 (rw e y.0) in
    rw (← x.1, ← y.1, same)

-- content is refused exactly if no reading gives it
pub unwritable-exactly : (w : List ℕ)
    → (read_image from_words w ≡ none) ↔ ((b : List ℕ) (i : Image) → read_image from_bytes b ≡ some i → content_of i ≡ w → ⊥)
unwritable-exactly w = (λ h b i k e. none-some (sym h ∙ rw e at (reading-back b i k).0), λ h. by h (read_image from_words w) refl)
  where
    by : ((b : List ℕ) (i : Image) → read_image from_bytes b ≡ some i → content_of i ≡ w → ⊥) → (o : Option Image) → read_image from_words w ≡ o
        → read_image from_words w ≡ none
    by h none e = e
    by h (some i) e =
        let r = writing-back w i e in
        absurd (h (bytes_of i) i r.0 r.1)
