-- The longest prefix: what `prefix_length` takes is a numeral, and no longer prefix is one.
use mathlib.Core.Path.{◌≡◌, refl, sym, ap, ap₂, subst, ◌∙◌}
use mathlib.Core.Bool.{Bool, true, false, cond, false≢true}
use mathlib.Core.List.{List, [], ◌∷◌, ◌++◌, append_assoc, append-nil}
use Prim.Native.Nat.{ℕ, ◌+◌, ◌≤◌, ◌<◌}
use native.Mathlib.Decide.{ℕ_discrete}
use native.Mathlib.Numerals.{add-one}
use native.Mathlib.Omega.{arith}
use lib.ListN.{length, get_or, take, drop, length-append, take-append-drop, get_or-eq_default}
use lib.Seq.{get_or_at, take-add, take-suc, take_at, drop_at, length-take-le}
use lib.Dec.{eqb}
use borrow.Author.Tests.{eq-eqb, ne_eqb, eqb-true, eqb-false}
use Rattle.lists.proofs.Leading.{leading_le}
use Rattle.lists.specs.Elements.{All, empty, cons, leading}
use Rattle.numeral.specs.Form.{Maybe, absent, present, Fraction, unpointed, pointed, Numeral, is_blank, is_digit, is_sign, digits_from, sign_length, whole_digits, point_at, has_point, fraction_digits, prefix_length}
use Rattle.numeral.proofs.Runs.{digit-range}
use Rattle.numeral.proofs.Prefixes.{inside, length_digits, fraction-some, prefix-unpointed, prefix-pointed}
use Rattle.numeral.proofs.Judging.{digits-all}

-- ---- runs in longer texts

pub leading-append : (kind : ℕ → Bool) {a : List ℕ} (b : List ℕ) → All kind a → leading kind (a ++ b) ≡ length a + leading kind b
unfolding leading
leading-append kind b empty = omega arith
leading-append kind b (cons {a = x} {l = a} e h) = rw e (omega (arith, leading-append kind b h))

-- a digit is no sign, no point and no blank
pub digit-no-sign : (x : ℕ) → is_digit x ≡ true → is_sign x ≡ false
digit-no-sign x h =
    let r = digit-range x h in
    simp (ne_eqb x 43 (λ e. omega arith), ne_eqb x 45 (λ e. omega arith))

pub digit-no-blank : (x : ℕ) → is_digit x ≡ true → is_blank x ≡ false
digit-no-blank x h =
    let r = digit-range x h in
    simp (ne_eqb x 32 (λ e. omega arith), ne_eqb x 9 (λ e. omega arith))

-- ---- the prefix is a numeral

module _ (t : List ℕ) where
  sign-by : (b : Bool) → is_sign (get_or t 0 0) ≡ b → Maybe is_sign (take (cond b 1 0) t)
  sign-by true e =
      subst (Maybe is_sign) (sym (take-suc t 0 0 (inside t 0 (λ z. false≢true (sym (ap is_sign z) ∙ e))))) (present e)
  sign-by false e = absent

  sign-form : Maybe is_sign (take (sign_length t) t)
  unfolding sign_length
  sign-form = sign-by (is_sign (get_or t 0 0)) refl

  -- the digits from an index on are what is there
  digits-there : (a : ℕ) → take (length (digits_from a t)) (drop a t) ≡ digits_from a t
  unfolding digits_from
  digits-there a = ap (λ (n : ℕ). take n (drop a t)) (length_digits t a)

  front : take (point_at t) t ≡ take (sign_length t) t ++ whole_digits t
  unfolding point_at whole_digits
  front = take-add (sign_length t) (length (digits_from (sign_length t) t)) t ∙ ap (λ (l : List ℕ). take (sign_length t) t ++ l) (digits-there (sign_length t))

  whole-all : All is_digit (whole_digits t)
  unfolding whole_digits
  whole-all = digits-all (sign_length t) t

  with-point : has_point t ≡ true → take (point_at t + 1) t ≡ take (sign_length t) t ++ whole_digits t ++ (46 ∷ [])
  unfolding has_point
  with-point h =
      let e : get_or t (point_at t) 0 ≡ 46 = eqb-true _ _ h in
      ap (λ (n : ℕ). take n t) (add-one (point_at t))
      ∙ take-suc t (point_at t) 0 (inside t (point_at t) (λ z. omega arith))
      ∙ ap₂ (λ (l : List ℕ) (b : ℕ). l ++ (b ∷ [])) front e

  sized-some : (b : Bool) (n p : ℕ) → eqb n 0 ≡ b → 0 < cond b 0 p → (0 < n) × (cond b 0 p ≡ p)
  sized-some true n p e h = absurd (omega arith)
  sized-some false n p e h = (elim (ℕ_discrete n 0) [ yes z ↦ absurd (eqb-false n 0 e z) | no ne ↦ omega arith ], refl)

  numeral-by : (b : Bool) → has_point t ≡ b → 0 < prefix_length t → Numeral (take (prefix_length t) t)
  numeral-by true e h =
      let f = fraction-some t e in
      let d = length (whole_digits t) + length (fraction_digits t) in
      let s = sized-some (eqb d 0) d (point_at t + 1 + length (fraction_digits t)) refl (rw (prefix-pointed t e) at h) in
      record {
        sign = take (sign_length t) t;
        whole = whole_digits t;
        point = 46 ∷ [];
        fraction = fraction_digits t;
        spelled =
            ap (λ (n : ℕ). take n t) (prefix-pointed t e ∙ s.1)
            ∙ take-add (point_at t + 1) (length (fraction_digits t)) t
            ∙ ap₂ ◌++◌ (with-point e) (ap (λ (l : List ℕ). take (length l) (drop (point_at t + 1) t)) f ∙ digits-there (point_at t + 1) ∙ sym f);
        signed = sign-form;
        digits = whole-all;
        fractional = pointed (subst (All is_digit) (sym f) (digits-all (point_at t + 1) t));
        some = s.0;
      }
  numeral-by false e h =
      let w = length (whole_digits t) in
      let s = sized-some (eqb w 0) w (point_at t) refl (rw (prefix-unpointed t e) at h) in
      record {
        sign = take (sign_length t) t;
        whole = whole_digits t;
        point = [];
        fraction = [];
        spelled = ap (λ (n : ℕ). take n t) (prefix-unpointed t e ∙ s.1) ∙ front ∙ simp append-nil;
        signed = sign-form;
        digits = whole-all;
        fractional = unpointed;
        some = omega (arith, s.0);
      }

  -- a prefix that is taken has the form
  pub prefix-numeral : 0 < prefix_length t → Numeral (take (prefix_length t) t)
  prefix-numeral h = numeral-by (has_point t) refl h

-- ---- no longer prefix is one

-- a numeral's parts with anything after them
abbrev spell : List ℕ → List ℕ → List ℕ → List ℕ → List ℕ → List ℕ
spell sign whole point fraction rest = sign ++ (whole ++ (point ++ (fraction ++ rest)))

-- the first byte tells whether there is a sign
no_sign : {w p f : List ℕ} (rest : List ℕ) → All is_digit w → Fraction p f → 0 < length w + length f → is_sign (get_or (w ++ (p ++ (f ++ rest))) 0 0) ≡ false
no_sign rest (cons {a = x} e a) f h = digit-no-sign x e
no_sign rest empty (pointed a) h = refl
no_sign rest empty unpointed h = absurd (omega arith)

sign-counted : {g w p f : List ℕ} (rest : List ℕ) → Maybe is_sign g → All is_digit w → Fraction p f → 0 < length w + length f
    → sign_length (spell g w p f rest) ≡ length g
unfolding sign_length
sign-counted rest absent d f h = rw (no_sign rest d f h)
sign-counted rest (present e) d f h = rw e

module _ (a t : List ℕ) where
  -- the digits after a front of known length
  pub digits-behind : (n : ℕ) → length a ≡ n → digits_from n (a ++ t) ≡ take (leading is_digit t) t
  unfolding digits_from
  digits-behind n e = ap (λ (u : List ℕ). take (leading is_digit u) u) (drop_at a t n e)

-- the whole part: no shorter than a numeral's digits, and just those where another byte comes after them
module _ {whole : List ℕ} (d : All is_digit whole) (v : List ℕ) where
  run-from : leading is_digit (whole ++ v) ≡ length whole + leading is_digit v
  run-from = leading-append is_digit v d

  run_length : length (take (leading is_digit (whole ++ v)) (whole ++ v)) ≡ length whole + leading is_digit v
  run_length = length-take-le _ (whole ++ v) (leading_le is_digit (whole ++ v)) ∙ run-from

  pub run_is : leading is_digit v ≡ 0 → take (leading is_digit (whole ++ v)) (whole ++ v) ≡ whole
  run_is z = take_at whole v _ (sym (run-from ∙ omega arith))

-- a text with digits has a prefix as far as the place of a point
to-point : (t : List ℕ) (b : Bool) → has_point t ≡ b → 0 < length (whole_digits t) → point_at t ≤ prefix_length t
to-point t true e h = rw (prefix-pointed t e) (simp (ne_eqb (length (whole_digits t) + length (fraction_digits t)) 0 (λ z. omega arith)) (omega arith))
to-point t false e h = rw (prefix-unpointed t e) (simp (ne_eqb (length (whole_digits t)) 0 (λ z. omega arith)) (omega arith))

module _ (g w rest : List ℕ) (d : All is_digit w) where
  module _ (s : sign_length (g ++ (w ++ rest)) ≡ length g) where
    whole-there : whole_digits (g ++ (w ++ rest)) ≡ take (leading is_digit (w ++ rest)) (w ++ rest)
    unfolding whole_digits
    whole-there = digits-behind g (w ++ rest) (sign_length (g ++ (w ++ rest))) (sym s)

    -- digits alone
    pub plain-prefix : 0 < length w → length g + length w ≤ prefix_length (g ++ (w ++ rest))
    unfolding point_at
    plain-prefix h =
        let t = g ++ (w ++ rest) in
        let n : length (whole_digits t) ≡ length w + leading is_digit rest = ap length whole-there ∙ run_length d rest in
        omega (arith, to-point t (has_point t) refl (omega arith))

-- digits, a point, and digits after it
module _ (g w f rest : List ℕ) (d : All is_digit w) (df : All is_digit f) (s : sign_length (g ++ (w ++ (46 ∷ (f ++ rest)))) ≡ length g) where
  abbrev text : List ℕ
  text = g ++ (w ++ (46 ∷ (f ++ rest)))

  no_run : leading is_digit (46 ∷ (f ++ rest)) ≡ 0
  unfolding leading
  no_run = refl

  whole_is : whole_digits text ≡ w
  whole_is = whole-there g w (46 ∷ (f ++ rest)) d s ∙ run_is d (46 ∷ (f ++ rest)) no_run

  point-is : point_at text ≡ length (g ++ w)
  unfolding point_at
  point-is = ap₂ ◌+◌ s (ap length whole_is) ∙ sym (length-append g w)

  point-there : has_point text ≡ true
  unfolding has_point
  point-there =
      eq-eqb _ _
      (ap (λ (l : List ℕ). get_or l (point_at text) 0) (sym (append_assoc g w (46 ∷ (f ++ rest))))
      ∙ get_or_at (g ++ w) 46 (f ++ rest) 0 (point_at text) (sym point-is))

  behind : text ≡ (g ++ w ++ (46 ∷ [])) ++ (f ++ rest)
  behind = sym (append_assoc g w (46 ∷ (f ++ rest))) ∙ sym (append_assoc (g ++ w) (46 ∷ []) (f ++ rest))

  fraction-there : fraction_digits text ≡ take (leading is_digit (f ++ rest)) (f ++ rest)
  fraction-there =
      let e : length (g ++ w ++ (46 ∷ [])) ≡ point_at text + 1 = length-append (g ++ w) (46 ∷ []) ∙ ap (λ (n : ℕ). n + 1) (sym point-is) in
      fraction-some text point-there
      ∙ ap (digits_from (point_at text + 1)) behind
      ∙ digits-behind (g ++ w ++ (46 ∷ [])) (f ++ rest) (point_at text + 1) e

  pub pointed-prefix : 0 < length w + length f → length g + length w + 1 + length f ≤ prefix_length text
  pointed-prefix h =
      let n : length (fraction_digits text) ≡ length f + leading is_digit rest = ap length fraction-there ∙ run_length df rest in
      let m = ap length whole_is in
      let p = length-append g w in
      rw (prefix-pointed text point-there)
      (simp (ne_eqb (length (whole_digits text) + length (fraction_digits text)) 0 (λ z. omega arith)) (omega (arith, point-is)))

longest-by : {g w p f : List ℕ} (rest : List ℕ) → Maybe is_sign g → All is_digit w → Fraction p f → 0 < length w + length f
    → length (g ++ w ++ p ++ f) ≤ prefix_length (spell g w p f rest)
longest-by {g} {w} rest s d unpointed h =
    let e : length (g ++ w ++ [] ++ []) ≡ length g + length w = simp (append-nil, length-append) in
    omega (arith, plain-prefix g w rest d (sign-counted rest s d unpointed h) (omega arith))
longest-by {g} {w} {f = f} rest s d (pointed a) h =
    let e : length (g ++ w ++ (46 ∷ []) ++ f) ≡ length g + length w + 1 + length f = simp length-append in
    omega (arith, pointed-prefix g w f rest d a (sign-counted rest s d (pointed a) h) h)

-- a numeral that a text begins with is no longer than the prefix that is taken
pub prefix-longest : (m rest : List ℕ) → Numeral m → length m ≤ prefix_length (m ++ rest)
prefix-longest m rest n =
    let e : m ++ rest ≡ spell n.sign n.whole n.point n.fraction rest = ap (λ (l : List ℕ). l ++ rest) n.spelled ∙ simp append_assoc in
    let h = longest-by rest n.signed n.digits n.fractional n.some in
    omega (arith, ap length n.spelled, ap prefix_length e)

-- a numeral has a byte
pub numeral-some : {m : List ℕ} → Numeral m → 0 < length m
numeral-some {m} n =
    let e : length (n.sign ++ n.whole ++ n.point ++ n.fraction) ≡ length n.sign + length n.whole + length n.point + length n.fraction = simp length-append in
    omega (arith, ap length n.spelled, n.some)

-- the same of the first n bytes of a text
pub no_longer : (t : List ℕ) (n : ℕ) → n ≤ length t → Numeral (take n t) → n ≤ prefix_length t
no_longer t n h m =
    omega (arith, prefix-longest (take n t) (drop n t) m, length-take-le n t h, ap prefix_length (take-append-drop n t))

-- a text has no prefix that is a numeral exactly if none is taken
pub none-taken : (t : List ℕ) (n : ℕ) → n ≤ length t → prefix_length t ≡ 0 → Numeral (take n t) → ⊥
none-taken t n h z m =
    omega (arith, no_longer t n h m, length-take-le n t h, numeral-some m)

-- ---- a text of a sign and digits alone

module _ (g w : List ℕ) (sign : Maybe is_sign g) (d : All is_digit w) (h : 0 < length w) where
  alone : w ++ [] ≡ w
  alone = append-nil w

  sign-alone : sign_length (g ++ (w ++ [])) ≡ length g
  sign-alone = sign-counted [] sign d unpointed (omega arith)

  whole_by : whole_digits (g ++ (w ++ [])) ≡ w
  unfolding leading
  whole_by = whole-there g w [] d sign-alone ∙ run_is d [] refl

  pub whole-alone : whole_digits (g ++ w) ≡ w
  whole-alone = ap (λ (l : List ℕ). whole_digits (g ++ l)) (sym alone) ∙ whole_by

  pub point-past : has_point (g ++ w) ≡ false
  unfolding has_point point_at
  point-past =
      let s : sign_length (g ++ w) ≡ length g = ap (λ (l : List ℕ). sign_length (g ++ l)) (sym alone) ∙ sign-alone in
      let m = ap length whole-alone in
      let e : length (g ++ w) ≤ sign_length (g ++ w) + length (whole_digits (g ++ w)) = omega (arith, length-append g w) in
      ap (λ (b : ℕ). eqb b 46) (get_or-eq_default (g ++ w) 0 {n = sign_length (g ++ w) + length (whole_digits (g ++ w))} e)

  pub numeral-alone : Numeral (g ++ w)
  numeral-alone =
      record {
        sign = g;
        whole = w;
        point = [];
        fraction = [];
        spelled = sym (simp append-nil);
        signed = sign;
        digits = d;
        fractional = unpointed;
        some = omega arith;
      }
