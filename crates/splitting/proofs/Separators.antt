-- Fields that spans of an ERE separate: the fields are those that the relation says, and there are no others.
use mathlib.Core.Path.{◌≡◌, refl, sym, ap₂, subst}
use mathlib.Core.List.{List, ◌∷◌}
use Prim.Native.Nat.{ℕ, zero, suc, ◌+◌, ◌-◌, ◌≤◌, ◌<◌}
use native.Mathlib.Decide.{dec_lt}
use native.Mathlib.Omega.{arith}
use lib.ListN.{length, get_or}
use Rattle.ere_meaning.specs.Tree.{Class, accepts, Ere}
use Rattle.ere_meaning.specs.Meaning.{Spans, Match, found, nowhere, BestFrom}
use Rattle.ere_meaning.proofs.Answers.{best-one}
use Rattle.splitting.specs.Separator.{ere}
use Rattle.splitting.specs.Field.{Span, span, until_separator, next_field, fields_from, fields_of}
use Rattle.splitting.specs.Meaning.{EreSplit, last, more}
use Rattle.splitting.proofs.Turns.{ere-field, next_past, fields-more, fields-none, fields-of}

-- where field k starts and ends
abbrev pub start_of : List Span → ℕ → ℕ
start_of fs k = (get_or fs k (span 0 0)).start

abbrev pub end_of : List Span → ℕ → ℕ
end_of fs k = start_of fs k + (get_or fs k (span 0 0)).size

module _ (e : Ere Class) (text : List ℕ) where
  -- ---- the fields are so split

  ere-turn : (at : ℕ) → at ≤ length text → (m : Match) → BestFrom accepts text e at 1 m → next_field text (ere e) at ≡ until_separator at (length text) m
      → ((b : ℕ) → at < b → b ≤ length text → EreSplit e text b (fields_from text (ere e) b)) → EreSplit e text at (fields_from text (ere e) at)
  ere-turn at h (found s n) x q r =
      rw (fields-more text (ere e) at (s + n) (span at (s - at)) q) (more x (r (s + n) (omega (arith, x.1, x.2)) x.0.0))
  ere-turn at h nowhere x q r =
      rw (fields-more text (ere e) at (suc (length text)) (span at (length text - at)) q, fields-none text (ere e) (suc (length text)) (next_past text (ere e) (suc (length text)) (omega arith)))
      (last h x)

  ere-from : (n at : ℕ) → length text < at + n → at ≤ length text → EreSplit e text at (fields_from text (ere e) at)
  ere-from zero at h k = absurd (omega arith)
  ere-from (suc n) at h k = let r = ere-field text e at k in ere-turn at k r.0 r.1 r.2 (λ b l m. ere-from n b (omega arith) m)

  pub ere-split : 0 < length text → EreSplit e text 0 (fields_of text (ere e))
  ere-split h = rw (fields-of text (ere e) h) (ere-from (suc (length text)) 0 (omega arith) (omega arith))

  -- ---- and only so

  found-no-nowhere : {s n : ℕ} → found s n ≡ nowhere → ⊥
  found-no-nowhere q = let z : ◌≡◌ {A = ℕ} 0 1 = cc in omega arith

  pub ere-one : {at : ℕ} {fs gs : List Span} → EreSplit e text at fs → EreSplit e text at gs → fs ≡ gs
  ere-one (last h x) (last k y) = refl
  ere-one (last {at} h x) (more {s} {n} y r) = absurd (found-no-nowhere (best-one accepts text e at 1 (found s n) nowhere y x))
  ere-one (more {at} {s} {n} x p) (last k y) = absurd (found-no-nowhere (best-one accepts text e at 1 (found s n) nowhere x y))
  ere-one (more {at} {s} {n} x p) (more {s = i} {n = j} {fs} y r) =
      let z = best-one accepts text e at 1 (found s n) (found i j) x y in
      let a : s ≡ i = cc in
      let b : n ≡ j = cc in
      let c : i + j ≡ s + n = omega arith in
      ap₂ (λ (k : ℕ) (l : List Span). span at (k - at) ∷ l) a (ere-one p (subst (λ (k : ℕ). EreSplit e text k fs) c r))

  -- ---- the separators

  -- From `from` on, the text from s up to j is the separator: a span of at least one byte, no other such span starts
  -- before it, and none that starts with it is longer.
  pub record Separates (from s j : ℕ) : Type 0 where
    pub some : s < j
    pub spans : Spans accepts text e s j
    pub leftmost : (i k : ℕ) → from ≤ i → i < k → Spans accepts text e i k → s ≤ i
    pub longest : (k : ℕ) → Spans accepts text e s k → k ≤ j

  separates : (at s n : ℕ) → BestFrom accepts text e at 1 (found s n) → Separates at s (s + n)
  separates at s n x =
      record {
        some = omega (arith, x.2);
        spans = x.0;
        leftmost = λ i k h l y. x.3 i k h (omega arith) y;
        longest = λ k y. elim (dec_lt s k) [ yes l ↦ x.4 k (omega arith) y | no l ↦ omega arith ];
      }

  -- there is a field, and the first starts where the fields start
  pub first_field : {at : ℕ} {fs : List Span} → EreSplit e text at fs → (0 < length fs) × (start_of fs 0 ≡ at)
  first_field (last h x) = (omega arith, refl)
  first_field (more x p) = (omega arith, refl)

  -- From the end of each field but the last up to the start of the next is a separator: the one from the field's start
  -- on.
  pub separators : {at : ℕ} {fs : List Span} → EreSplit e text at fs
      → (k : ℕ) → suc k < length fs → Separates (start_of fs k) (end_of fs k) (start_of fs (suc k))
  separators (last h x) k l = absurd (omega arith)
  separators (more {at} {s} {n} {fs} x p) zero l =
      let a : s ≡ at + (s - at) = omega (arith, x.1) in
      subst (λ (i : ℕ). Separates at i (start_of fs 0)) a (subst (Separates at s) (sym (first_field p).1) (separates at s n x))
  separators (more x p) (suc k) l = separators p k (omega arith)

  -- From the start of the last field on no span of at least one byte is left, and the field goes up to the text's end.
  pub last-field : {at : ℕ} {fs : List Span} → EreSplit e text at fs → (k : ℕ) → suc k ≡ length fs
      → (end_of fs k ≡ length text) × ((i j : ℕ) → start_of fs k ≤ i → i < j → Spans accepts text e i j → ⊥)
  last-field (last h x) zero l = (omega arith, λ i j g m y. x i j g (omega arith) y)
  last-field (last h x) (suc k) l = absurd (omega arith)
  last-field (more x p) zero l = absurd (omega (arith, (first_field p).0))
  last-field (more x p) (suc k) l = last-field p k (omega arith)
