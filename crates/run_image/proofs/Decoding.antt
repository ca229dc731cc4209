-- A constant that an index tells, as a word: the number, or the place and the size of the text.
use mathlib.Core.Path.{◌≡◌, refl, sym, subst, ◌∙◌}
use mathlib.Core.Bool.{Bool, true, false, cond}
use mathlib.Core.List.{List}
use mathlib.Core.Option.{Option, some, none}
use Prim.Native.Nat.{ℕ, ◌+◌, ◌-◌, ◌*◌, ◌≤◌, ◌<◌}
use native.Mathlib.Omega.{arith}
use lib.ListN.{length, drop, get_or, set}
use lib.Seq.{get_or-set_same, get_or-set_other}
use lib.Dec.{eqb, ltb}
use borrow.Author.Tests.{eqb-true, eqb-false, ltb-true, ltb-false}
use Rattle.lists.proofs.Many.{same_item}
use Rattle.lists.proofs.Elements.{nth-none}
use Rattle.lists.proofs.Options.{none-some}
use Rattle.lists.specs.Elements.{nth}
use Rattle.lists.specs.Parsing.{Parsed, parsed, bind, succeed}
use Rattle.edition.specs.Limits.{text_bytes, number_bound}
use Rattle.buffer.specs.Parts.{part}
use Rattle.buffer.proofs.Parts.{length_part}
use Rattle.image_format.specs.Image.{Constant, number, text}
use Rattle.image_format.specs.Numbers.{take_number}
use Rattle.image_format.specs.Reading.{from_bytes, constant, constant_of}
use Rattle.image_format.proofs.Numbers.{number-only}
use Rattle.semantics.specs.Checked.{Short}
use Rattle.semantics.proofs.Tables.{nth-some}
use Rattle.image_items.specs.Stands.{Stands, a_text, Inside, Within, constant_of as constant_in}
use Rattle.std.specs.Prelude.{Option as Answer, Some, None, IsSome}
use Rattle.image_items.specs.declared.items.Text.{Text}
use Rattle.image_items.specs.declared.items.Constant.TheVariants.{Number, Text as TextRead}
use Rattle.image_items.specs.declared.items.Found.{Found}
use Rattle.run_image.specs.Constants.{text_base, place_in, size_in, Decoded, Listed, Words}

-- ---- a word

pub number-decoded : (image : List ℕ) (v : ℕ) → v ≤ number_bound → Decoded image (number_bound + v) (number v)
number-decoded image v h = (
  record { range = λ g. omega arith; inside = λ g. absurd (omega arith); most = λ g. absurd (omega arith) },
  (refl, h),
)

abbrev pub word_of : ℕ → ℕ → ℕ
word_of start n = text_base + 65536 * start + n

module _ (start n : ℕ) (h : n < 65536) where
  place-of : place_in (word_of start n) ≡ start
  place-of = omega arith

  size_of : size_in (word_of start n) ≡ n
  size_of = omega arith

pub text-decoded : (image : List ℕ) (start n : ℕ) → start + n ≤ length image → n ≤ text_bytes
    → Decoded image (word_of start n) (text (part start n image))
text-decoded image start n h m =
    let p = place-of start n (omega arith) in
    let s = size_of start n (omega arith) in (
      record { range = λ g. absurd (omega arith); inside = λ g. omega arith; most = λ g. omega arith },
      (omega arith, rw (p, s)),
    )

-- ---- a constant that was read

-- its number is at most 2^53
number_small : (l : List ℕ) (v : ℕ) (t : List ℕ) → constant from_bytes l ≡ parsed (number v) t → v ≤ number_bound
number_small l v t = by (take_number l)
  where
    numbers : (m : List ℕ) (o : Option (Parsed ℕ)) → take_number m ≡ o
        → bind o (λ n. succeed (number n)) ≡ parsed (number v) t → v ≤ number_bound
    numbers m none e h = absurd (none-some h)
    numbers m (some g) e h =
        let item : number g.value ≡ number v = same_item refl h in
        let same : g.value ≡ v = cc in
        subst (λ (n : ℕ). n ≤ number_bound) same (number-only m g e).0

    texts : (o : Option (Parsed (List ℕ))) → bind o (λ bs. succeed (text bs)) ≡ parsed (number v) t → v ≤ number_bound
    texts none h = absurd (none-some h)
    texts (some g) h =
        let item : text g.value ≡ number v = same_item refl h in
        let z : ◌≡◌ {A = ℕ} 0 1 = cc in
        absurd (omega arith)

    kinds : (m : List ℕ) (a b : Bool)
        → cond a (bind (take_number m) (λ n. succeed (number n)))
        (cond b (bind (a_text m) (λ bs. succeed (text bs))) none)
        ≡ parsed (number v) t
        → v ≤ number_bound
    kinds m true b h = numbers m (take_number m) refl h
    kinds m false true h = texts (a_text m) h
    kinds m false false h = absurd (none-some h)

    by : (o : Option (Parsed ℕ)) → bind o (constant_of from_bytes) ≡ parsed (number v) t → v ≤ number_bound
    by none h = absurd (none-some h)
    by (some g) h = kinds g.rest (eqb g.value 0) (eqb g.value 1) h

module _ {image index : List ℕ} {xs : List Constant} (y : Listed image index xs) (k : ℕ) (h : k < length index) where
  -- its place is in the image
  pub constant-inside : k < length xs → get_or index k 0 ≤ length image
  constant-inside below =
      let a = nth-some xs k below in
      let s = (y.indexed k a.0 a.1 h).1 in
      omega (arith, s.forward, s.inside)

  module _ (a : Constant) (e : nth xs k ≡ some a) where
    told : Stands (constant from_bytes) image (get_or index k 0) a (y.indexed k a e h).0
    told = (y.indexed k a e h).1

    -- it is there: an answer that there is none would be wrong
    pub constant-there : (o : Answer Found) → (o ≡ None → constant from_bytes (drop (get_or index k 0) image) ≡ none)
        → IsSome o
    constant-there None c = absurd (none-some (sym (c refl) ∙ told.taken))
    constant-there (Some r) c = refl

    module _ (r : Found)
        (f : Stands (constant from_bytes) image (get_or index k 0) (constant_in image r.constant) r.end) where
      constant-same : constant_in image r.constant ≡ a
      constant-same = same_item f.taken told.taken

      -- as a number
      module _ (n : ℕ) (z : r.constant ≡ Number n) where
        is-number : number n ≡ a
        is-number = rw z at constant-same

        pub value-small : n ≤ number_bound
        value-small =
            number_small (drop (get_or index k 0) image) n (drop (y.indexed k a e h).0 image) (rw is-number told.taken)

        pub decoded-number : Decoded image (number_bound + n) a
        decoded-number = subst (Decoded image (number_bound + n)) is-number (number-decoded image n value-small)

      -- or as a text, as long as a text may be
      module _ (w : Within image r.constant) (t : Text) (z : r.constant ≡ TextRead t) where
        is-text : text (part t.start (t.end - t.start) image) ≡ a
        is-text = rw z at constant-same

        text-inside : Inside image t
        text-inside = rw z at w

        inside : t.start + (t.end - t.start) ≤ length image
        inside = omega (arith, text-inside.0, text-inside.1)

        size_small : t.end - t.start ≤ text_bytes
        size_small =
            let n = length_part t.start (t.end - t.start) image inside in
            let m = subst Short (sym is-text) (y.short k a e) in
            omega arith

        pub decoded-text : Decoded image (word_of t.start (t.end - t.start)) a
        decoded-text =
            subst (Decoded image (word_of t.start (t.end - t.start))) is-text
            (text-decoded image t.start (t.end - t.start) inside size_small)

-- ---- words

-- the words of the first k constants
abbrev pub WordsTo : List ℕ → List ℕ → List Constant → ℕ → Type 0
WordsTo image words xs k = (n : ℕ) (a : Constant) → n < k → nth xs n ≡ some a → Decoded image (get_or words n 0) a

pub words-none : (image words : List ℕ) (xs : List Constant) → WordsTo image words xs 0
words-none image words xs n a h = absurd (omega arith)

pub words_more : (image words : List ℕ) (xs : List Constant) (k w : ℕ) → k < length words → WordsTo image words xs k
    → ((a : Constant) → nth xs k ≡ some a → Decoded image w a) → WordsTo image (set words k w) xs (k + 1)
words_more image words xs k w room old new n a h e = by (eqb n k) refl
  where
    by : (b : Bool) → eqb n k ≡ b → Decoded image (get_or (set words k w) n 0) a
    by true g =
        let same = eqb-true n k g in
        rw (same, get_or-set_same words k w 0 room) (new a (rw same at e))
    by false g =
        let other = eqb-false n k g in
        rw (get_or-set_other words k n w 0 other) (old n a (omega arith) e)

pub words-all : (image words : List ℕ) (xs : List Constant) (k : ℕ) → length xs ≤ k → WordsTo image words xs k
    → Words image words xs
words-all image words xs k h old n a e = by (ltb n (length xs)) refl
  where
    by : (b : Bool) → ltb n (length xs) ≡ b → Decoded image (get_or words n 0) a
    by true g = old n a (omega (arith, ltb-true)) e
    by false g = absurd (none-some (sym (nth-none xs n (omega (arith, ltb-false))) ∙ e))
