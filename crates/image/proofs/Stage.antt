-- What comes at a stage, off words or bytes.
use mathlib.Core.Path.{◌≡◌, refl, sym, ap, ◌∙◌}
use mathlib.Core.Bool.{Bool, true, false, cond}
use mathlib.Core.List.{List, [], ◌∷◌}
use mathlib.Core.Option.{none}
use Prim.Native.Nat.{ℕ, ◌+◌, ◌≤◌, ◌<◌}
use native.Mathlib.Omega.{arith}
use native.Mathlib.Numerals.{add-one}
use lib.ListN.{length, drop, get_or, drop_of_length-le}
use lib.Seq.{drop-cons}
use lib.Dec.{leb}
use borrow.Author.Tests.{le-leb, lt-leb, leb-true}
use Rattle.lists.proofs.Options.{some_one, none-some}
use Rattle.lists.specs.Parsing.{Parsed, parsed}
use Rattle.edition.specs.Limits.{number_bound}
use Rattle.image_format.specs.Numbers.{coded}
use Rattle.image_format.specs.Reading.{word_up_to, from_bytes, from_words}
use Rattle.image_stages.specs.Stages.{is_byte, most_at, taken_at, written_at}
use Rattle.varint.specs.Take.{TakesAt}
use Rattle.std.specs.Prelude.{Option as Answer, Some, None}
use Rattle.varint.proofs.Puts.{coded-short}
use Rattle.image.specs.Pass.{TakesStage}

-- ---- a word up to a bound

module _ (l : List ℕ) (at most : ℕ) where
  pub up-taken : at < length l → get_or l at 0 ≤ most → word_up_to most (drop at l) ≡ parsed (get_or l at 0) (drop (at + 1) l)
  up-taken h b = rw (add-one at, drop-cons l at 0 h, le-leb (get_or l at 0) most b)

  pub up-over : at < length l → most < get_or l at 0 → word_up_to most (drop at l) ≡ none
  up-over h b = rw (drop-cons l at 0 h, lt-leb (get_or l at 0) most b)

  pub up-out : length l ≤ at → word_up_to most (drop at l) ≡ none
  up-out h = ap (word_up_to most) (drop_of_length-le l {i = at} h)

up-most : (most : ℕ) (l : List ℕ) (v : ℕ) (t : List ℕ) → word_up_to most l ≡ parsed v t → v ≤ most
up-most most [] v t h = absurd (none-some h)
up-most most (w ∷ l) v t h = by (leb w most) refl h
  where
    by : (x : Bool) → leb w most ≡ x → cond x (parsed w l) none ≡ parsed v t → v ≤ most
    by true e h = omega (arith, leb-true w most e, ap (λ (g : Parsed ℕ). g.value) (some_one refl h))
    by false e h = absurd (none-some h)

module _ (stage : ℕ) where
  -- words come at each stage up to a bound
  pub words-at : (l : List ℕ) → taken_at from_words stage l ≡ word_up_to (most_at stage) l
  words-at l = by (is_byte stage)
    where
      by : (x : Bool) → cond x (word_up_to 255 l) (word_up_to number_bound l) ≡ word_up_to (cond x 255 number_bound) l
      by true = refl
      by false = refl

  pub words-most : (l : List ℕ) (at v n : ℕ) → TakesStage from_words l stage at (Some (v, n)) → v ≤ most_at stage
  words-most l at v n h = up-most (most_at stage) (drop at l) v (drop n l) (sym (words-at (drop at l)) ∙ h.0)

  -- of bytes a number comes but for a text byte
  pub number_at : (l : List ℕ) (at : ℕ) (r : Answer (ℕ × ℕ)) → is_byte stage ≡ false → TakesAt l at r
      → TakesStage from_bytes l stage at r
  number_at l at (Some r) e h = (rw e h.0, h.1, h.2)
  number_at l at None e h = rw e h

  -- ---- how it is written

  pub word-written : (v : ℕ) → written_at (λ n. n ∷ []) stage v ≡ v ∷ []
  word-written v = by (is_byte stage)
    where
      by : (x : Bool) → cond x (v ∷ []) (v ∷ []) ≡ v ∷ []
      by true = refl
      by false = refl

  pub bytes-written : (v : ℕ) → length (written_at coded stage v) ≤ 8
  bytes-written v = by (is_byte stage)
    where
      by : (x : Bool) → length (cond x (v ∷ []) (coded v)) ≤ 8
      by true = omega arith
      by false = coded-short v
