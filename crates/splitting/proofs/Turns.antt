-- The fields one after the other: each turn goes on by a byte at least, so the turns are enough.
use mathlib.Core.Path.{◌≡◌, refl, sym, ap, subst, ◌∙◌}
use mathlib.Core.Bool.{true, false}
use mathlib.Core.Logic.{⊎_elim}
use mathlib.Core.List.{List, [], ◌∷◌}
use Prim.Native.Nat.{ℕ, zero, suc, ◌+◌, ◌-◌, ◌≤◌, ◌<◌}
use native.Mathlib.Omega.{arith}
use native.Mathlib.Nat.{eq-zero-or-pos}
use native.Mathlib.Decide.{dec_le, dec_lt}
use lib.ListN.{length, get_or, drop, length-drop}
use lib.Seq.{get_or-drop, drop-cons}
use borrow.Author.Tests.{lt-ltb, le-leb, le-ltb, lt-leb, eq-eqb, ne_eqb}
use Rattle.lists.proofs.Leading.{leading-on, leading_le, leading-stops}
use Rattle.lists.specs.Elements.{leading}
use Rattle.buffer.specs.First.{first_byte}
use Rattle.buffer.proofs.First.{first-byte-most}
use Rattle.ere_meaning.specs.Tree.{Class, accepts, Ere}
use Rattle.ere_meaning.specs.Meaning.{Match, found, nowhere, BestFrom}
use Rattle.ere_meaning.specs.Search.{best_from}
use Rattle.ere_meaning.proofs.Answers.{best-from}
use Rattle.splitting.specs.Separator.{Separator, blank, byte, ere}
use Rattle.splitting.specs.Field.{Span, span, Next, field, none, Goes, is_in, until_separator, next_field, follow, fields_in, fields_from, fields_of}
use Rattle.splitting.specs.Meaning.{Ordered}
use Rattle.splitting.proofs.Runs.{not_in}

-- A test is true, or is not, by the fact that it tests. Both kinds of tests are listed, and both facts are given where
-- both hold, so that the laws on a turn below hang on what is tested and not on how.
ruleset holds = (lt-ltb, le-leb)

ruleset fails = (le-ltb, lt-leb)

module _ (text : List ℕ) where
  -- the byte at which the blanks end is the first of a field
  pub word_more : (set : List ℕ) (at : ℕ) → at + leading (is_in true set) (drop at text) < length text
      → let s = at + leading (is_in true set) (drop at text) in
      leading (is_in false set) (drop s text) ≡ suc (leading (is_in false set) (drop (suc s) text))
  word_more set at h =
      let n = leading (is_in true set) (drop at text) in
      let l = length-drop at text in
      let e = sym (get_or-drop at text n 0) in
      let s = leading-stops (is_in true set) (drop at text) (omega arith) in
      ap (leading (is_in false set)) (drop-cons text (at + n) 0 h)
      ∙ leading-on (is_in false set) (get_or text (at + n) 0) (drop (suc (at + n)) text) (not_in set (get_or text (at + n) 0) (rw e s))

  pub word_some : (set : List ℕ) (at : ℕ) → at + leading (is_in true set) (drop at text) < length text
      → 0 < leading (is_in false set) (drop (at + leading (is_in true set) (drop at text)) text)
  word_some set at h = omega (arith, word_more set at h)

  -- ---- what a turn answers

  pub blank-field : (set : List ℕ) (at : ℕ) → at + leading (is_in true set) (drop at text) < length text
      → let s = at + leading (is_in true set) (drop at text) in
      next_field text (blank set) at ≡ field (span s (leading (is_in false set) (drop s text))) (s + leading (is_in false set) (drop s text))
  unfolding next_field
  blank-field set at h = let k : at + leading (is_in true set) (drop at text) ≤ length text = omega arith in simp holds

  -- only blanks are left
  pub blank-past : (set : List ℕ) (at : ℕ) → length text ≤ at + leading (is_in true set) (drop at text) → next_field text (blank set) at ≡ none
  unfolding next_field
  blank-past set at h = simp fails

  -- at the text's end is a field still
  pub byte-field : (b at : ℕ) → at ≤ length text
      → next_field text (byte b) at ≡ field (span at (first_byte b (drop at text))) (suc (at + first_byte b (drop at text)))
  unfolding next_field
  byte-field b at h = simp holds

  -- the separator is the best of those that are not empty
  pub ere-field : (e : Ere Class) (at : ℕ) → at ≤ length text
      → (m : Match) × (BestFrom accepts text e at 1 m) × (next_field text (ere e) at ≡ until_separator at (length text) m)
  unfolding next_field
  ere-field e at h = (best_from accepts text e at 1, best-from accepts text e at 1, simp holds)

  -- after the end is no field
  pub next_past : (s : Separator) (at : ℕ) → length text < at → next_field text s at ≡ none
  unfolding next_field
  next_past (blank set) at h = blank-past set at (omega arith)
  next_past (byte b) at h = let k : length text ≤ at = omega arith in simp fails
  next_past (ere e) at h = let k : length text ≤ at = omega arith in simp fails

  -- ---- it goes on

  blank-goes : (set : List ℕ) (at : ℕ) → at + leading (is_in true set) (drop at text) < length text → Goes at (length text) (next_field text (blank set) at)
  blank-goes set at h =
      let s = at + leading (is_in true set) (drop at text) in
      let l = length-drop s text in
      let m = leading_le (is_in false set) (drop s text) in
      let w = word_some set at h in
      rw (blank-field set at h) (omega arith, omega arith, omega arith, omega arith, omega arith)

  byte-goes : (b at : ℕ) → at ≤ length text → Goes at (length text) (next_field text (byte b) at)
  byte-goes b at h =
      let l = length-drop at text in
      let m = first-byte-most b (drop at text) in
      rw (byte-field b at h) (omega arith, omega arith, omega arith, omega arith, omega arith)

  up-to-goes : (e : Ere Class) (at : ℕ) → at ≤ length text → (m : Match) → BestFrom accepts text e at 1 m → Goes at (length text) (until_separator at (length text) m)
  up-to-goes e at h (found s n) x = (omega arith, omega (arith, x.0.0), omega (arith, x.1), omega (arith, x.1, x.2), omega (arith, x.0.0))
  up-to-goes e at h nowhere x = (omega arith, omega arith, omega arith, omega arith, omega arith)

  ere-goes : (e : Ere Class) (at : ℕ) → at ≤ length text → Goes at (length text) (next_field text (ere e) at)
  ere-goes e at h = let r = ere-field e at h in rw r.2 (up-to-goes e at h r.0 r.1)

  past-goes : (s : Separator) (at : ℕ) → next_field text s at ≡ none → Goes at (length text) (next_field text s at)
  past-goes s at h = rw h tt

  pub goes : (s : Separator) (at : ℕ) → Goes at (length text) (next_field text s at)
  goes (blank set) at =
      elim (dec_lt (at + leading (is_in true set) (drop at text)) (length text)) [
        | yes h ↦ blank-goes set at h
        | no n ↦ past-goes (blank set) at (blank-past set at (omega arith))
      ]
  goes (byte b) at = elim (dec_le at (length text)) [ yes h ↦ byte-goes b at h | no n ↦ past-goes (byte b) at (next_past (byte b) at (omega arith)) ]
  goes (ere e) at = elim (dec_le at (length text)) [ yes h ↦ ere-goes e at h | no n ↦ past-goes (ere e) at (next_past (ere e) at (omega arith)) ]

  module _ (s : Separator) where
    -- more turns than are needed change nothing
    same_from : (n m : ℕ) (o : Next) (at : ℕ) → Goes at (length text) o
        → ((b : ℕ) → at < b → fields_in text s n b ≡ fields_in text s m b) → follow text (fields_in text s n) o ≡ follow text (fields_in text s m) o
    same_from n m (field f b) at g h = ap (λ (l : List Span). f ∷ l) (h b g.3)
    same_from n m none at g h = refl

    enough : (n m at : ℕ) → length text < n + at → length text < m + at → fields_in text s n at ≡ fields_in text s m at
    unfolding fields_in
    enough zero zero at h g = refl
    enough zero (suc m) at h g = rw (next_past s at (omega arith))
    enough (suc n) zero at h g = rw (next_past s at (omega arith))
    enough (suc n) (suc m) at h g =
        same_from n m (next_field text s at) at (goes s at) (λ b z. enough n m b (omega arith) (omega arith))

    pub fields-more : (at b : ℕ) (f : Span) → next_field text s at ≡ field f b → fields_from text s at ≡ f ∷ fields_from text s b
    unfolding fields_from fields_in
    fields-more at b f h = by (suc (length text) - at) refl
      where
        g : Goes at (length text) (field f b)
        g = subst (Goes at (length text)) h (goes s at)

        by : (n : ℕ) → suc (length text) - at ≡ n → fields_in text s n at ≡ f ∷ fields_in text s (suc (length text) - b) b
        by zero e = absurd (omega (arith, g.0, g.1))
        by (suc n) e = ap (follow text (fields_in text s n)) h ∙ ap (λ (l : List Span). f ∷ l) (enough n (suc (length text) - b) b (omega (arith, g.3)) (omega (arith, g.4)))

    pub fields-none : (at : ℕ) → next_field text s at ≡ none → fields_from text s at ≡ []
    unfolding fields_from fields_in
    fields-none at h = by (suc (length text) - at)
      where
        by : (n : ℕ) → fields_in text s n at ≡ []
        by zero = refl
        by (suc n) = ap (follow text (fields_in text s n)) h

    -- ---- the whole record

    pub fields-of : 0 < length text → fields_of text s ≡ fields_from text s 0
    unfolding fields_of
    fields-of h = rw (ne_eqb (length text) 0 (λ e. omega arith))

    -- "An empty record has no fields."
    pub fields-empty : length text ≡ 0 → fields_of text s ≡ []
    unfolding fields_of
    fields-empty h = rw (eq-eqb (length text) 0 h)

    -- ---- in order

    -- those from b on come after any place before b
    ordered-in : (n at b : ℕ) → at ≤ b → at ≤ length text → Ordered (length text) at (fields_in text s n b)
    unfolding fields_in
    ordered-in zero at b h k = k
    ordered-in (suc n) at b h k = by (next_field text s b) (goes s b) (ordered-in n)
      where
        by : (o : Next) → Goes b (length text) o → ((at b : ℕ) → at ≤ b → at ≤ length text → Ordered (length text) at (fields_in text s n b))
            → Ordered (length text) at (follow text (fields_in text s n) o)
        by (field f c) g r = (omega (arith, g.0), r (f.start + f.size) c g.2 g.1)
        by none g r = k

    pub ordered : Ordered (length text) 0 (fields_of text s)
    unfolding fields_from
    ordered =
        ⊎_elim (λ z. rw (fields-empty z) (omega arith)) (λ h. rw (fields-of h) (ordered-in (suc (length text) - 0) 0 0 (omega arith) (omega arith)))
        (eq-zero-or-pos (length text))
