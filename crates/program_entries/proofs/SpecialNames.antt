-- The names of the special variables: told by their length and their first two bytes, and by the kinds of words.
use mathlib.Core.Path.{◌≡◌, refl, sym, subst, ◌∙◌}
use mathlib.Core.Bool.{Bool, true, false, not, cond, ◌&&◌, ◌||◌}
use mathlib.Core.List.{List, [], ◌∷◌}
use mathlib.Core.Logic.{⊎_elim}
use Prim.Native.Nat.{ℕ, zero, suc, ◌+◌, ◌-◌, ◌≤◌, ◌<◌}
use native.Mathlib.Omega.{arith}
use lib.ListN.{length, get_or, take, length-drop}
use lib.Seq.{get_or-drop, get_or-take, length-take-le}
use lib.Dec.{eqb, leb}
use borrow.Author.Tests.{le-leb, not-true}
use Rattle.lists.specs.Elements.{all}
use Rattle.lists.proofs.Tests.{clash, or_cases, and-true}
use Rattle.program_tokens.specs.Kinds.{Kind, user_name, among, rank}
use Rattle.program_tokens.specs.Words.{Word, words, same_bytes, kind_in, word_kind}
use Rattle.program_tokens.specs.Tokens.{is_letter, begins_with}
use Rattle.program_numbering.specs.Names.{has, number_of}
use Rattle.program_numbering.specs.Numbering.{special_names}
use Rattle.program_numbering.proofs.Numbers.{Each, same-equal}
use Rattle.program_tables.specs.Texts.{between}
use Rattle.program_entries.specs.Named.{special_kinds, IsSpecial, special_number}

-- what holds of each of a list's texts holds of a text that the list has
found : (P : List ℕ → Type 0) (l : List (List ℕ)) (w : List ℕ) → Each P l → has same_bytes l w ≡ true → P w
unfolding has
found P [] w each h = absurd (clash (sym h))
found P (v ∷ l) w each h =
    ⊎_elim (λ e. subst P (sym (same-equal w v e)) each.0) (λ e. found P l w each.1 e)
    (or_cases (same_bytes w v) (has same_bytes l w) h)

-- ---- by length and bytes

abbrev pub by_bytes : ℕ → ℕ → ℕ → ℕ
by_bytes n first second =
    cond (eqb n 2) (cond (eqb first 70) 2 (cond (eqb second 70) 0 1))
    (cond (eqb n 3) (cond (eqb second 70) 3 4) (cond (eqb n 6) 5 6))

abbrev Told : List ℕ → Type 0
Told w = (number_of same_bytes special_names w ≡ by_bytes (length w) (get_or w 0 0) (get_or w 1 0)) × (1 < length w)

each-told : Each Told special_names
unfolding number_of same_bytes
each-told = (
  (refl, omega arith),
  (
    (refl, omega arith),
    (
      (refl, omega arith),
      (
        (refl, omega arith),
        (
          (refl, omega arith),
          ((refl, omega arith), ((refl, omega arith), tt)),
        ),
      ),
    ),
  ),
)

between-length : (s : List ℕ) (a n : ℕ) → a + n ≤ length s → length (between s a (a + n)) ≡ n
between-length s a n h =
    let left : length (take (a + n) s) - a ≡ n = omega (arith, length-take-le (a + n) s h) in
    length-drop a (take (a + n) s) ∙ left

between-at : (s : List ℕ) (a n i : ℕ) → i < n → get_or (between s a (a + n)) i 0 ≡ get_or s (a + i) 0
between-at s a n i h = get_or-drop a (take (a + n) s) i 0 ∙ get_or-take (a + n) s (a + i) 0 (omega arith)

module _ (s : List ℕ) (a n : ℕ) (p : IsSpecial s a n) where
  told : Told (between s a (a + n))
  told = found Told special_names (between s a (a + n)) each-told p.special

  sized : length (between s a (a + n)) ≡ n
  sized = between-length s a n p.inside

  pub special-long : 1 < n
  special-long = omega (arith, told.1, sized)

  pub special-by : special_number s a n ≡ by_bytes n (get_or s a 0) (get_or s (a + 1) 0)
  special-by =
      let none : a + 0 ≡ a = omega arith in
      told.0
      ∙ rw (
        sized,
        between-at s a n 0 (omega (arith, special-long)),
        between-at s a n 1 (omega (arith, special-long)),
        none,
      )

-- ---- by the kinds of words

-- a word of the table that has a special variable's kind is one
abbrev RightKind : Word → Bool
RightKind x = not (among special_kinds x.kind) || has same_bytes special_names x.spelling

choose : {A : Type 0} (P : A → Type 0) (b : Bool) (x y : A) → (b ≡ true → P x) → (b ≡ false → P y) → P (cond b x y)
choose P true x y p q = p refl
choose P false x y p q = q refl

kind-plain : (edition : ℕ) (w : List ℕ) (l : List Word) → has same_bytes special_names w ≡ false
    → all RightKind l ≡ true → among special_kinds (kind_in edition user_name w l) ≡ false
unfolding kind_in among rank
kind-plain edition w [] h each = refl
kind-plain edition w (x ∷ l) h each =
    let both = and-true (RightKind x) (all RightKind l) each in
    choose (λ (k : Kind). among special_kinds k ≡ false) (leb x.since edition && same_bytes w x.spelling) x.kind
    (kind_in edition user_name w l)
    (λ e.
    let same = same-equal w x.spelling (and-true (leb x.since edition) (same_bytes w x.spelling) e).1 in
    let other : has same_bytes special_names x.spelling ≡ false =
    subst (λ (v : List ℕ). has same_bytes special_names v ≡ false) same h in
    ⊎_elim (λ g. not-true (among special_kinds x.kind) g) (λ g. absurd (clash (sym g ∙ other)))
    (or_cases (not (among special_kinds x.kind)) (has same_bytes special_names x.spelling) both.0))
    (λ e. kind-plain edition w l h both.1)

special-kind : (edition : ℕ) (w : List ℕ) → 1 ≤ edition → has same_bytes special_names w ≡ true
    → among special_kinds (word_kind edition w) ≡ true
unfolding kind_in same_bytes among rank
special-kind edition w first h =
    let known : leb 1 edition ≡ true = le-leb 1 edition first in
    found (λ v. among special_kinds (word_kind edition v) ≡ true) special_names w
    (rw known, (rw known, (rw known, (rw known, (rw known, (rw known, (rw known, tt))))))) h

table-right : all RightKind words ≡ true
unfolding has same_bytes among rank
table-right = refl

-- the kind of a word says whether it is a special variable
pub kind-special : (edition : ℕ) (w : List ℕ) → 1 ≤ edition
    → among special_kinds (word_kind edition w) ≡ has same_bytes special_names w
kind-special edition w first = go (has same_bytes special_names w) refl
  where
    go : (b : Bool) → has same_bytes special_names w ≡ b → among special_kinds (word_kind edition w) ≡ b
    go true e = special-kind edition w first e
    go false e = kind-plain edition w words e table-right

-- a text that begins with no letter is no special variable
begins-letter : (w : List ℕ) → has same_bytes special_names w ≡ true → begins_with is_letter w ≡ true
unfolding begins_with
begins-letter w h =
    found (λ v. begins_with is_letter v ≡ true) special_names w
    (refl, (refl, (refl, (refl, (refl, (refl, (refl, tt))))))) h

pub other-plain : (b : ℕ) (l : List ℕ) (n : ℕ) → is_letter b ≡ false
    → has same_bytes special_names (take n (b ∷ l)) ≡ false
unfolding has same_bytes begins_with
other-plain b l zero e = refl
other-plain b l (suc n) e = go (has same_bytes special_names (b ∷ take n l)) refl
  where
    go : (x : Bool) → has same_bytes special_names (b ∷ take n l) ≡ x → x ≡ false
    go true h = absurd (clash (sym (begins-letter (b ∷ take n l) h) ∙ e))
    go false h = refl
