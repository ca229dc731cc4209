-- A number's text: its number is the number, it looks numeric, has no needless zero and at most 17 bytes.
use mathlib.Core.Path.{◌≡◌, refl, sym, ap, ◌∙◌}
use mathlib.Core.Bool.{Bool, true, false}
use mathlib.Core.List.{List, [], ◌∷◌, ◌++◌, append-nil}
use Prim.Native.Nat.{ℕ, suc, ◌+◌, ◌≤◌, ◌<◌}
use native.Mathlib.Omega.{arith}
use lib.IntN.{ℤ, pos, negsuc}
use lib.ListN.{length, get_or, drop, length-append, get_or-append}
use borrow.Author.Tests.{le-leb, ne_eqb, le-ltb}
use Rattle.lists.specs.Elements.{All, empty, cons, leading}
use Rattle.edition.specs.Limits.{number_bound}
use Rattle.number.specs.Range.{InRange, number}
use Rattle.numeral.specs.Form.{Maybe, absent, present, Numeral, Looks, is_blank, is_digit, is_sign, whole_digits, after_blanks, looks_numeric, is_negative}
use Rattle.numeral.specs.Judgement.{digits_value, value_after, nonzero_digit, with_sign, judged, prefix_number, number_of}
use Rattle.decimals.specs.Decimal.{decimal_digits, decimal_text, Spells, digit, longer}
use Rattle.numeral.proofs.Runs.{digit-range}
use Rattle.numeral.proofs.Values.{value-append}
use Rattle.numeral.proofs.Prefixes.{fraction-none}
use Rattle.decimals.proofs.Decimals.{digits-spelled, digits-small, length-bound}
use Rattle.numeral.proofs.Judging.{number-judged}
use Rattle.numeral.proofs.Numerals.{whole-alone, point-past, numeral-alone, numeral-some}
use Rattle.numeral.proofs.Look.{all_append, all-at, run_none, no-blank-at, true-looks}

-- ---- what `Spells` says of digits

spelled-value : {n : ℕ} {l : List ℕ} → Spells n l → digits_value l ≡ n
unfolding value_after
spelled-value (digit h) = omega arith
spelled-value (longer {n = n} {d = d} {l = l} h s k) =
    value-append l ((48 + d) ∷ []) 0 ∙ omega (arith, spelled-value s)

one-digit : (d : ℕ) → d < 10 → is_digit (48 + d) ≡ true
one-digit d h = simp (le-leb 48 (48 + d) (omega arith), le-leb (48 + d) 57 (omega arith))

spelled-all : {n : ℕ} {l : List ℕ} → Spells n l → All is_digit l
spelled-all (digit {n = n} h) = cons (one-digit n h) empty
spelled-all (longer {d = d} h s k) = all_append (spelled-all s) (cons (one-digit d k) empty)

spelled-some : {n : ℕ} {l : List ℕ} → Spells n l → 0 < length l
spelled-some (digit h) = omega arith
spelled-some (longer {d = d} {l = l} h s k) = omega (arith, length-append l ((48 + d) ∷ []))

spelled-first : {n : ℕ} {l : List ℕ} → Spells n l → get_or l 0 0 ≡ 48 → n ≡ 0
spelled-first (digit h) e = omega arith
spelled-first (longer {d = d} {l = l} h s k) e =
    absurd (omega (arith, spelled-first s (sym (get_or-append l ((48 + d) ∷ []) 0 0 (spelled-some s)) ∙ e)))

-- ---- of a number's digits

pub digits_value_lem : (n : ℕ) → digits_value (decimal_digits n) ≡ n
digits_value_lem n = spelled-value (digits-spelled n)

digits-all : (n : ℕ) → All is_digit (decimal_digits n)
digits-all n = spelled-all (digits-spelled n)

digits-some : (n : ℕ) → 0 < length (decimal_digits n)
digits-some n = spelled-some (digits-spelled n)

-- a first digit 0 is the only one
pub no-needless-zero : (n : ℕ) → get_or (decimal_digits n) 0 0 ≡ 48 → decimal_digits n ≡ 48 ∷ []
no-needless-zero n e =
    let z = spelled-first (digits-spelled n) e in
    ap decimal_digits z ∙ digits-small 0 (omega arith)

-- ---- of a number's text

no-blanks : {m : List ℕ} → Numeral m → leading is_blank m ≡ 0
no-blanks {m} f = ap (leading is_blank) (sym (append-nil m)) ∙ run_none is_blank m [] (numeral-some f) (no-blank-at f 0 (numeral-some f))

-- a digit is no minus
digits-not-minus : (n : ℕ) → is_negative (decimal_digits n) ≡ false
digits-not-minus n =
    ne_eqb (get_or (decimal_digits n) 0 0) 45 (λ e. omega (arith, digit-range (get_or (decimal_digits n) 0 0) (all-at (digits-all n) 0 (digits-some n))))

-- a text of a sign and the digits of n
module _ (g : List ℕ) (n : ℕ) (sign : Maybe is_sign g) where
  text-form : Numeral (g ++ decimal_digits n)
  text-form = numeral-alone g (decimal_digits n) sign (digits-all n) (digits-some n)

  text-looks : Looks (g ++ decimal_digits n)
  text-looks =
      record {
        before = [];
        numeral = g ++ decimal_digits n;
        after = [];
        spelled = sym (append-nil (g ++ decimal_digits n));
        blank_before = empty;
        blank-after = empty;
        form = text-form;
      }

  text-judged : n ≤ number_bound → number_of (g ++ decimal_digits n) ≡ number (with_sign (is_negative (g ++ decimal_digits n)) n)
  unfolding number_of after_blanks judged nonzero_digit
  text-judged h =
      let t = g ++ decimal_digits n in
      let w = whole-alone g (decimal_digits n) sign (digits-all n) (digits-some n) in
      let p = point-past g (decimal_digits n) sign (digits-all n) (digits-some n) in
      let v : digits_value (whole_digits t) ≡ n = ap digits_value w ∙ digits_value_lem n in
      ap (λ (k : ℕ). prefix_number (drop k t)) (no-blanks text-form)
      ∙ number-judged t
      ∙ simp (fraction-none t p, v, le-ltb number_bound n h)

pub text-numeral : (z : ℤ) → Numeral (decimal_text z)
unfolding decimal_text
text-numeral (pos n) = text-form [] n absent
text-numeral (negsuc n) = text-form (45 ∷ []) (suc n) (present refl)

-- a number's text looks numeric
pub text-looks-numeric : (z : ℤ) → looks_numeric (decimal_text z) ≡ true
unfolding decimal_text
text-looks-numeric (pos n) = true-looks (decimal_digits n) (text-looks [] n absent)
text-looks-numeric (negsuc n) = true-looks (45 ∷ decimal_digits (suc n)) (text-looks (45 ∷ []) (suc n) (present refl))

-- the number of a number's text is the number
pub text-number : (z : ℤ) → InRange z → number_of (decimal_text z) ≡ number z
unfolding decimal_text
text-number (pos n) h = text-judged [] n absent h.within ∙ ap (λ (b : Bool). number (with_sign b n)) (digits-not-minus n)
text-number (negsuc n) h = text-judged (45 ∷ []) (suc n) (present refl) h.within

-- and it has 17 bytes at the most
pub text-length : (z : ℤ) → InRange z → length (decimal_text z) ≤ 17
unfolding decimal_text
text-length (pos n) h = omega (arith, length-bound n h.within)
text-length (negsuc n) h = omega (arith, length-bound (suc n) h.within)
