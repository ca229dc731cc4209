-- Laws on blanks and comments, byte by byte.
use mathlib.Core.Path.{◌≡◌, ap, ◌∙◌}
use mathlib.Core.Bool.{Bool, true, false, not, cond, ◌||◌}
use mathlib.Core.List.{List}
use Prim.Native.Nat.{ℕ, suc, ◌+◌, ◌≤◌, ◌<◌}
use native.Mathlib.Numerals.{add-one}
use lib.Dec.{eqb}
use lib.ListN.{length, get_or, drop, drop_of_length-le}
use lib.Seq.{drop-cons}
use borrow.Author.Tests.{eq-eqb, ne_eqb, not-true, not-false}
use Rattle.numeral.specs.Form.{is_blank}
use Rattle.program_tokens.specs.Tokens.{skipped}

module _ (s : List ℕ) (i : ℕ) (c : Bool) where
  -- one step of `skipped`, at a byte of the text
  skipped_at : i < length s
      → skipped c (drop i s)
      ≡ cond (eqb (get_or s i 0) 10) 0
      (cond ((c || eqb (get_or s i 0) 35) || is_blank (get_or s i 0)) (suc (skipped (c || eqb (get_or s i 0) 35) (drop (suc i) s))) 0)
  unfolding skipped
  skipped_at h = ap (skipped c) (drop-cons s i 0 h)

  pub skipped-newline : i < length s → get_or s i 0 ≡ 10 → skipped c (drop i s) ≡ 0
  skipped-newline h e = skipped_at h ∙ rw (eq-eqb _ 10 e)

  pub skipped-stop : i < length s → (get_or s i 0 ≡ 10 → ⊥) → (blank : Bool) → blank ≡ is_blank (get_or s i 0)
      → not ((c || eqb (get_or s i 0) 35) || blank) ≡ true → skipped c (drop i s) ≡ 0
  skipped-stop h n blank b e =
      skipped_at h ∙ rw (ne_eqb _ 10 n, ← b, not-true ((c || eqb (get_or s i 0) 35) || blank) e)

  pub skipped-more : i < length s → (get_or s i 0 ≡ 10 → ⊥) → (blank : Bool) → blank ≡ is_blank (get_or s i 0)
      → not ((c || eqb (get_or s i 0) 35) || blank) ≡ false
      → skipped c (drop i s) ≡ suc (skipped (c || eqb (get_or s i 0) 35) (drop (i + 1) s))
  skipped-more h n blank b e =
      skipped_at h ∙ rw (ne_eqb _ 10 n, ← b, not-false ((c || eqb (get_or s i 0) 35) || blank) e, add-one i)

  pub skipped-end : length s ≤ i → skipped c (drop i s) ≡ 0
  unfolding skipped
  skipped-end h = ap (skipped c) (drop_of_length-le s {i = i} h)
