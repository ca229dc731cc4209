-- The judgement by values that were cut off is the judgement of the digits.
use mathlib.Core.Path.{◌≡◌, refl, sym, ap, ◌∙◌}
use mathlib.Core.Bool.{Bool, true, false, cond}
use mathlib.Core.List.{List, [], ◌∷◌}
use Prim.Native.Nat.{ℕ, suc, ◌+◌, ◌≤◌, ◌<◌, min}
use native.Mathlib.Decide.{dec_le, ℕ_discrete}
use native.Mathlib.Omega.{arith}
use lib.IntN.{pos}
use lib.ListN.{length, take, drop}
use lib.Dec.{eqb, ltb}
use borrow.Author.Tests.{lt-ltb, le-ltb, eq-eqb, ne_eqb, eqb-true}
use Rattle.lists.specs.Elements.{All, empty, cons, leading}
use Rattle.edition.specs.Limits.{number_bound}
use Rattle.edition.specs.Outcomes.{number_out_of_range, number_not_whole}
use Rattle.number.specs.Range.{number, stop}
use Rattle.numeral.specs.Form.{is_digit, is_negative, digits_from, whole_digits, fraction_digits, has_point, point_at, prefix_length}
use Rattle.numeral.specs.Judgement.{appended, value_after, digits_value, nonzero_digit, with_sign, judged, prefix_number}
use Rattle.numeral.specs.Capped.{capped, judged_by}
use Rattle.numeral.proofs.Runs.{digit-range}
use Rattle.numeral.proofs.Prefixes.{fraction-none, prefix-pointed, prefix-unpointed}

-- ---- runs are of their kind

module _ (kind : ℕ → Bool) where
  run_by : (b : Bool) (x : ℕ) (t : List ℕ) → kind x ≡ b → All kind (take (leading kind t) t) → All kind (take (cond b (suc (leading kind t)) 0) (x ∷ t))
  run_by true x t e h = cons e h
  run_by false x t e h = empty

  pub run-all : (t : List ℕ) → All kind (take (leading kind t) t)
  unfolding leading
  run-all [] = empty
  run-all (x ∷ t) = run_by (kind x) x t refl (run-all t)

pub digits-all : (a : ℕ) (t : List ℕ) → All is_digit (digits_from a t)
unfolding digits_from
digits-all a t = run-all is_digit (drop a t)

fraction-by : (b : Bool) (t : List ℕ) → All is_digit (cond b (digits_from (point_at t + 1) t) [])
fraction-by true t = digits-all (point_at t + 1) t
fraction-by false t = empty

pub fraction-all : (t : List ℕ) → All is_digit (fraction_digits t)
unfolding fraction_digits
fraction-all t = fraction-by (has_point t) t

-- ---- a nonzero digit is a value above 0

value_grows : (t : List ℕ) (v : ℕ) → v ≤ value_after v t
unfolding value_after
value_grows [] v = omega arith
value_grows (x ∷ t) v = omega (arith, value_grows t (appended v x))

nonzero-by : (x : ℕ) (t : List ℕ) → 48 ≤ x → Dec (x ≡ 48) → ltb 0 (digits_value t) ≡ nonzero_digit t
    → ltb 0 (value_after (appended 0 x) t) ≡ cond (eqb x 48) (nonzero_digit t) true
nonzero-by x t h (yes e) ih =
    let z : appended 0 x ≡ 0 = omega arith in
    ap (λ (v : ℕ). ltb 0 (value_after v t)) z ∙ ih ∙ simp (eq-eqb x 48 e)
nonzero-by x t h (no ne) ih =
    let k : 0 < value_after (appended 0 x) t = omega (arith, value_grows t (appended 0 x)) in
    lt-ltb 0 (value_after (appended 0 x) t) k ∙ simp (ne_eqb x 48 ne)

pub nonzero-value : {t : List ℕ} → All is_digit t → ltb 0 (digits_value t) ≡ nonzero_digit t
unfolding nonzero_digit value_after
nonzero-value empty = refl
nonzero-value (cons {a = x} {l = t} d a) = nonzero-by x t (digit-range x d).0 (ℕ_discrete x 48) (nonzero-value a)

-- ---- cutting off changes no judgement

module _ (negative : Bool) (w f : ℕ) where
  pub judged-over : number_bound < w → judged_by negative w f ≡ stop number_out_of_range
  unfolding judged_by
  judged-over h = simp (lt-ltb number_bound w h)

  pub judged-broken : w ≤ number_bound → 0 < f → judged_by negative w f ≡ stop number_not_whole
  unfolding judged_by
  judged-broken h k = simp (le-ltb number_bound w h, lt-ltb 0 f k)

  pub judged-whole : w ≤ number_bound → f ≡ 0 → judged_by negative w f ≡ number (with_sign negative w)
  unfolding judged_by
  judged-whole h k = simp (le-ltb number_bound w h, k)

capped_same : (w : ℕ) → w ≤ number_bound → capped w ≡ w
unfolding capped
capped_same w h = omega arith

capped-over : (w : ℕ) → number_bound < w → number_bound < capped w
unfolding capped
capped-over w h = omega arith

capped-test : (f : ℕ) → ltb 0 (capped f) ≡ ltb 0 f
unfolding capped
capped-test f = elim (ℕ_discrete f 0) [ yes e ↦ ap (λ (n : ℕ). ltb 0 (min n (number_bound + 1))) e ∙ ap (ltb 0) (sym e) | no ne ↦ lt-ltb 0 (min f (number_bound + 1)) (omega arith) ∙ sym (lt-ltb 0 f (omega arith)) ]

pub capped-judged : (negative : Bool) (w f : ℕ) → judged_by negative (capped w) (capped f) ≡ judged_by negative w f
unfolding judged_by
capped-judged negative w f =
    elim (dec_le w number_bound) [ yes h ↦ rw (capped_same w h, capped-test f) | no h ↦ judged-over negative (capped w) (capped f) (capped-over w (omega arith)) ∙ sym (judged-over negative w f (omega arith)) ]

-- ---- a text's number

judged-is : (negative : Bool) (whole fraction : List ℕ) → All is_digit fraction → judged negative whole fraction ≡ judged_by negative (digits_value whole) (digits_value fraction)
unfolding judged judged_by
judged-is negative whole fraction a = rw (← (nonzero-value a))

nothing-of : (t : List ℕ) → length t ≡ 0 → t ≡ []
nothing-of [] h = refl
nothing-of (x ∷ t) h = absurd (omega arith)

-- without a prefix there is no digit
sized-by : (b : Bool) (n p : ℕ) → eqb n 0 ≡ b → cond b 0 p ≡ 0 → (0 < n → 0 < p) → n ≡ 0
sized-by true n p e h k = eqb-true n 0 e
sized-by false n p e h k = elim (ℕ_discrete n 0) [ yes z ↦ z | no ne ↦ absurd (omega (arith, k (omega arith))) ]

no-prefix-by : (t : List ℕ) (b : Bool) → has_point t ≡ b → prefix_length t ≡ 0 → length (whole_digits t) + length (fraction_digits t) ≡ 0
unfolding point_at
no-prefix-by t true e h = sized-by _ _ _ refl (sym (prefix-pointed t e) ∙ h) (λ k. omega arith)
no-prefix-by t false e h =
    let z = ap length (fraction-none t e) in
    let w : length (whole_digits t) ≡ 0 = sized-by _ _ _ refl (sym (prefix-unpointed t e) ∙ h) (λ k. omega arith) in
    omega arith

pub no_prefix : (t : List ℕ) → prefix_length t ≡ 0 → length (whole_digits t) + length (fraction_digits t) ≡ 0
no_prefix t h = no-prefix-by t (has_point t) refl h

-- either sign of 0 is 0
zero-whole : (negative : Bool) (whole fraction : List ℕ) → length whole + length fraction ≡ 0 → judged negative whole fraction ≡ number (pos 0)
unfolding judged value_after nonzero_digit
zero-whole true whole fraction h = rw (nothing-of whole (omega arith), nothing-of fraction (omega arith))
zero-whole false whole fraction h = rw (nothing-of whole (omega arith), nothing-of fraction (omega arith))

number_by : (t : List ℕ) → Dec (prefix_length t ≡ 0) → prefix_number t ≡ judged (is_negative t) (whole_digits t) (fraction_digits t)
unfolding prefix_number
number_by t (yes e) = simp (eq-eqb (prefix_length t) 0 e) (sym (zero-whole (is_negative t) (whole_digits t) (fraction_digits t) (no_prefix t e)))
number_by t (no ne) = simp (ne_eqb (prefix_length t) 0 ne)

-- no digit is 0 too, so the case without a prefix needs no judgement of its own
pub number-judged : (t : List ℕ) → prefix_number t ≡ judged (is_negative t) (whole_digits t) (fraction_digits t)
number-judged t = number_by t (ℕ_discrete (prefix_length t) 0)

-- what the code judges by is a text's number
pub prefix-judged : (t : List ℕ) {negative : Bool} {w f : ℕ} → negative ≡ is_negative t → w ≡ capped (digits_value (whole_digits t))
    → f ≡ capped (digits_value (fraction_digits t)) → judged_by negative w f ≡ prefix_number t
prefix-judged t en ew ef =
    rw (en, ew, ef)
    (capped-judged (is_negative t) (digits_value (whole_digits t)) (digits_value (fraction_digits t))
    ∙ sym (judged-is (is_negative t) (whole_digits t) (fraction_digits t) (fraction-all t))
    ∙ sym (number-judged t))
