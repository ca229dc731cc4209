-- Laws on the table of words and operators as rows.
use mathlib.Core.Path.{◌≡◌, refl, ap, ◌∙◌}
use mathlib.Core.Bool.{Bool, true, false, cond, ◌&&◌}
use mathlib.Core.List.{List, [], ◌∷◌}
use Prim.Native.Nat.{ℕ, ◌+◌, ◌≤◌, ◌<◌}
use lib.Dec.{eqb, leb}
use lib.ListN.{length, get_or, drop, drop_of_length-le}
use lib.Seq.{drop-cons}
use borrow.Author.Tests.{leb-true}
use native.Mathlib.Numerals.{add-one}
use native.Mathlib.Omega.{arith}
use Rattle.std.proofs.Common.{Bor, map}
use Rattle.std.specs.Cmp.Lexicographic.{pointwise}
use Rattle.lists.specs.Elements.{all}
use Rattle.lists.proofs.Tests.{and-true, and-false}
use Rattle.program_tokens.specs.Kinds.{Kind, user_name, rank}
use Rattle.program_tokens.specs.Words.{Word, words, same_bytes, kind_in, word_kind}
use Rattle.program_scanner.specs.Spellings.{Row, rows_of, rank_in}

-- the rows give a spelling the number of the kind that the table gives it
pub rank-in : (edition : ℕ) (other : Kind) (w : List ℕ) (l : List Word)
    → rank_in edition (rank other) w (rows_of l) ≡ rank (kind_in edition other w l)
unfolding rank_in rows_of kind_in
rank-in edition other w [] = refl
rank-in edition other w (x ∷ l) = rw (rank-in edition other w l) (go (leb x.since edition && same_bytes w x.spelling))
  where
    go : (b : Bool) → cond b (rank x.kind) (rank (kind_in edition other w l)) ≡ rank (cond b x.kind (kind_in edition other w l))
    go true = refl
    go false = refl

-- two texts are equal byte by byte
pub same-bytes : (l m : List ℕ) → pointwise eqb l m ≡ same_bytes l m
unfolding same_bytes
same-bytes [] [] = refl
same-bytes [] (c ∷ m) = refl
same-bytes (b ∷ l) [] = refl
same-bytes (b ∷ l) (c ∷ m) = rw (same-bytes l m)

-- a row as the code has it
abbrev pub Coded : Type 0
Coded = Bor (List ℕ) × ℕ × ℕ

abbrev pub told : List Coded → List Row
told = map (λ r. (r.0.now, r.1, r.2))

-- one row, and the rows after it
module _ (edition other : ℕ) (w : List ℕ) (t : List Coded) (i : ℕ) (d : Coded) (h : i < length t) where
  abbrev Here : Coded
  Here = get_or t i d

  row-at : (same : Bool) → same ≡ pointwise eqb w Here.0.now
      → rank_in edition other w (told (drop i t)) ≡ cond (leb Here.2 edition && same) Here.1 (rank_in edition other w (told (drop (i + 1) t)))
  unfolding rank_in
  row-at same e =
      ap (λ (l : List Coded). rank_in edition other w (told l)) (drop-cons t i d h)
      ∙ rw (← same-bytes w Here.0.now, ← e, add-one i)

  pub row-found : (same : Bool) → same ≡ pointwise eqb w Here.0.now → (leb Here.2 edition && same) ≡ true
      → rank_in edition other w (told (drop i t)) ≡ Here.1
  row-found same e f = row-at same e ∙ rw f

  pub row-passed : (same : Bool) → same ≡ pointwise eqb w Here.0.now → (leb Here.2 edition && same) ≡ false
      → rank_in edition other w (told (drop i t)) ≡ rank_in edition other w (told (drop (i + 1) t))
  row-passed same e f = row-at same e ∙ rw f

-- past the last row
pub rows-end : (edition other : ℕ) (w : List ℕ) (t : List Coded) (i : ℕ) → length t ≤ i → rank_in edition other w (told (drop i t)) ≡ other
unfolding rank_in
rows-end edition other w t i h = ap (λ (l : List Coded). rank_in edition other w (told l)) (drop_of_length-le t {i = i} h)

-- ---- long words

other_length : (l m : List ℕ) → length m < length l → same_bytes l m ≡ false
unfolding same_bytes
other_length [] m h = absurd (omega arith)
other_length (b ∷ l) [] h = refl
other_length (b ∷ l) (c ∷ m) h = rw (other_length l m (omega arith)) (and-false (eqb b c))

-- a spelling that is longer than all of a table's has no row
pub kind-long : (edition : ℕ) (other : Kind) (w : List ℕ) (l : List Word) (n : ℕ) → n < length w
    → all (λ (x : Word). leb (length x.spelling) n) l ≡ true → kind_in edition other w l ≡ other
unfolding kind_in
kind-long edition other w [] n h g = refl
kind-long edition other w (x ∷ l) n h g =
    let both = and-true (leb (length x.spelling) n) (all (λ (y : Word). leb (length y.spelling) n) l) g in
    let short = leb-true (length x.spelling) n both.0 in
    rw (other_length w x.spelling (omega arith), and-false (leb x.since edition)) (kind-long edition other w l n h both.1)

-- no word of the table is longer than 8 bytes
pub word-long : (edition : ℕ) (w : List ℕ) → 8 < length w → rank (word_kind edition w) ≡ 7
unfolding rank
word-long edition w h = ap rank (kind-long edition user_name w words 8 h refl)
