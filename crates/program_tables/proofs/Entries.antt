-- Laws on tables of entries.
use mathlib.Core.Path.{◌≡◌, refl, sym, ap, subst, ◌∙◌}
use mathlib.Core.Bool.{Bool, true, false, cond, ◌&&◌}
use mathlib.Core.List.{List, [], ◌∷◌, ◌++◌}
use Prim.Native.Nat.{ℕ, zero, suc, ◌+◌, ◌-◌, ◌*◌, ◌≤◌, ◌<◌}
use native.Mathlib.Numerals.{add-one}
use native.Mathlib.Omega.{arith}
use lib.ListN.{length, get_or, set}
use lib.Dec.{eqb}
use lib.ListN.{length-set}
use lib.Seq.{get_or-set_same, get_or-set_other}
use borrow.Author.Tests.{eq-eqb, ne_eqb, lt-ltb, le-ltb, eqb-true, eqb-false}
use Rattle.program_tokens.specs.Words.{same_bytes}
use Rattle.image_format.specs.Image.{Constant, number, text}
use Rattle.program_numbering.specs.Names.{number_of}
use Rattle.program_numbering.specs.Numbering.{same_constant}
use Rattle.program_tables.specs.declared.tables.Entry.{Entry}
use Rattle.program_tables.specs.Texts.{value_in}
use Rattle.program_tables.specs.Tables.{entry_in, meant, InsideText, AllInside, entries_from, with_entry}

-- ---- two entries

module _ (s : List ℕ) (escapes : Bool) (a b : Entry) where
  pub number_same : a.stop ≡ 0
      → same_constant (meant s escapes a) (meant s escapes b) ≡ (eqb b.stop 0 && eqb a.value b.value)
  unfolding same_constant meant
  number_same e = rw (eq-eqb a.stop 0 e) (go (eqb b.stop 0))
    where
      go : (x : Bool)
          → same_constant (number a.value)
          (cond x (number b.value) (text (value_in s escapes b.value b.stop)))
          ≡ (x && eqb a.value b.value)
      go true = refl
      go false = refl

  pub text-number : (a.stop ≡ 0 → ⊥) → b.stop ≡ 0 → same_constant (meant s escapes a) (meant s escapes b) ≡ false
  unfolding same_constant meant
  text-number d e = rw (ne_eqb a.stop 0 d, eq-eqb b.stop 0 e)

  pub text_same : (a.stop ≡ 0 → ⊥) → (b.stop ≡ 0 → ⊥)
      → same_constant (meant s escapes a) (meant s escapes b)
      ≡ same_bytes (value_in s escapes a.value a.stop) (value_in s escapes b.value b.stop)
  unfolding same_constant meant
  text_same d e = rw (ne_eqb a.stop 0 d, ne_eqb b.stop 0 e)

-- ---- the first that is equal

module _ (s : List ℕ) (escapes : Bool) (table : List ℕ) (q : Constant) where
  abbrev pub Number : ℕ → ℕ → ℕ
  Number k n = number_of same_constant (entries_from s escapes table k n) q

  number_step : (k n : ℕ)
      → Number k (suc n) ≡ cond (same_constant q (meant s escapes (entry_in table k))) 0 (suc (Number (suc k) n))
  unfolding number_of entries_from
  number_step k n = refl

  one_left : (k n : ℕ) → k < n → n - k ≡ suc (n - (k + 1))
  one_left k n h = omega arith

  pub number-starts : (n : ℕ) → Number 0 n ≡ Number 0 (n - 0)
  number-starts n =
      let same : n ≡ n - 0 = omega arith in
      ap (Number 0) same

  pub number-found : (k n : ℕ) → k < n → same_constant q (meant s escapes (entry_in table k)) ≡ true
      → Number k (n - k) ≡ 0
  number-found k n h e = ap (Number k) (one_left k n h) ∙ (number_step k (n - (k + 1)) ∙ rw e)

  pub number_more : (k n : ℕ) → k < n → same_constant q (meant s escapes (entry_in table k)) ≡ false
      → Number k (n - k) ≡ suc (Number (k + 1) (n - (k + 1)))
  number_more k n h e = ap (Number k) (one_left k n h) ∙ (number_step k (n - (k + 1)) ∙ rw (e, add-one k))

  pub number-none : (k n : ℕ) → n ≤ k → Number k (n - k) ≡ 0
  unfolding number_of entries_from
  number-none k n h =
      let none : n - k ≡ 0 = omega arith in
      rw none

-- ---- one entry more

module _ (s : List ℕ) (escapes : Bool) where
  -- entries that are equal in both tables
  entries-same : (t u : List ℕ) (k n : ℕ) → ((j : ℕ) → j < k + n → entry_in u j ≡ entry_in t j)
      → entries_from s escapes u k n ≡ entries_from s escapes t k n
  unfolding entries_from
  entries-same t u k zero h = refl
  entries-same t u k (suc n) h =
      rw (h k (omega arith), entries-same t u (suc k) n (λ j g. h j (omega (arith, g))))

  -- the last of them apart
  entries-last : (t : List ℕ) (k n : ℕ)
      → entries_from s escapes t k (suc n) ≡ entries_from s escapes t k n ++ (meant s escapes (entry_in t (k + n)) ∷ [])
  unfolding entries_from
  entries-last t k zero =
      let same : k + 0 ≡ k = omega arith in
      rw same
  entries-last t k (suc n) =
      let same : k + suc n ≡ suc k + n = omega arith in
      rw (entries-last t (suc k) n, same)

module _ (t : List ℕ) (n : ℕ) (e : Entry) (fits : 2 * n + 1 < length t) where
  abbrev Stored : List ℕ
  Stored = set (set t (2 * n) e.value) (2 * n + 1) e.stop

  pub stored : with_entry t n e ≡ Stored
  unfolding with_entry
  stored = rw (lt-ltb (2 * n + 1) (length t) fits)

  stored_other : (j : ℕ) → j < 2 * n → get_or Stored j 0 ≡ get_or t j 0
  stored_other j h =
      get_or-set_other (set t (2 * n) e.value) (2 * n + 1) j e.stop 0 (λ g. absurd (omega (arith, h, g)))
      ∙ get_or-set_other t (2 * n) j e.value 0 (λ g. absurd (omega (arith, h, g)))

  first_word : get_or Stored (2 * n) 0 ≡ e.value
  first_word =
      get_or-set_other (set t (2 * n) e.value) (2 * n + 1) (2 * n) e.stop 0 (λ g. absurd (omega (arith, g)))
      ∙ get_or-set_same t (2 * n) e.value 0 (omega (arith, fits))

  second_word : get_or Stored (2 * n + 1) 0 ≡ e.stop
  second_word =
      get_or-set_same (set t (2 * n) e.value) (2 * n + 1) e.stop 0
      (omega (arith, fits, length-set t (2 * n) e.value))

  -- the entries before it are as they were, and the new one is there
  pub entry_kept : (k : ℕ) → k < n → entry_in (with_entry t n e) k ≡ entry_in t k
  entry_kept k h = rw (stored, stored_other (2 * k) (omega (arith, h)), stored_other (2 * k + 1) (omega (arith, h)))

  pub entry-added : entry_in (with_entry t n e) n ≡ e
  entry-added = rw (stored, first_word, second_word)

  pub entries-added : (s : List ℕ) (escapes : Bool)
      → entries_from s escapes (with_entry t n e) 0 (suc n)
      ≡ entries_from s escapes t 0 n ++ (meant s escapes e ∷ [])
  entries-added s escapes =
      let none : 0 + n ≡ n = omega arith in
      entries-last s escapes (with_entry t n e) 0 n
      ∙ rw (none, entry-added, entries-same s escapes t (with_entry t n e) 0 n (λ j h. entry_kept j (omega (arith, h))))

  pub inside-added : (s : List ℕ) → AllInside s t n → InsideText s e → AllInside s (with_entry t n e) (suc n)
  inside-added s all one k h = go (eqb k n) refl
    where
      go : (x : Bool) → eqb k n ≡ x → InsideText s (entry_in (with_entry t n e) k)
      go true g =
          subst (λ (j : ℕ). InsideText s (entry_in (with_entry t n e) j)) (sym (eqb-true k n g))
          (subst (InsideText s) (sym entry-added) one)
      go false g =
          let below : k < n = omega (arith, h, eqb-false k n g) in
          subst (InsideText s) (sym (entry_kept k below)) (all k below)

pub no_room : (t : List ℕ) (n : ℕ) (e : Entry) → length t ≤ 2 * n + 1 → with_entry t n e ≡ t
unfolding with_entry
no_room t n e h = rw (le-ltb (2 * n + 1) (length t) h)

-- what a table is, by whether the entry is new
module _ (t u : List ℕ) {k n : ℕ} {v : List ℕ} where
  pub entered-new : v ≡ u → k ≡ n → v ≡ cond (eqb k n) u t
  entered-new h e = rw (eq-eqb k n e) h

  pub entered-old : v ≡ t → (k ≡ n → ⊥) → v ≡ cond (eqb k n) u t
  entered-old h d = rw (ne_eqb k n d) h
