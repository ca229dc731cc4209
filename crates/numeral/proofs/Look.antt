-- The numeric look: `looks_numeric` is true exactly of the texts that look numeric.
use mathlib.Core.Path.{◌≡◌, refl, sym, ap, ap₂, subst, ◌∙◌}
use mathlib.Core.Bool.{Bool, true, false, cond, not, false≢true, true≢false}
use mathlib.Core.List.{List, [], ◌∷◌, ◌++◌, append_assoc}
use Prim.Native.Nat.{ℕ, zero, suc, ◌+◌, ◌<◌}
use native.Mathlib.Decide.{dec_le}
use native.Mathlib.Omega.{arith}
use lib.ListN.{length, get_or, take, drop, length-append, length-drop, take-append-drop}
use lib.Seq.{take_all, drop_at, get_or-take, get_or-append-add, length-take-le}
use lib.Dec.{eqb}
use borrow.Author.Tests.{eq-eqb, ne_eqb, eqb-true, eqb-false, not-true}
use Rattle.lists.specs.Elements.{All, empty, cons, leading}
use Rattle.numeral.specs.Form.{Maybe, absent, present, Fraction, unpointed, pointed, Numeral, Looks, is_blank, is_digit, is_sign, prefix_length, after_blanks, blank_after, looks_numeric}
use Rattle.numeral.proofs.Prefixes.{prefix-inside}
use Rattle.numeral.proofs.Judging.{run-all}
use Rattle.numeral.proofs.Numerals.{leading-append, digit-no-blank, prefix-numeral, prefix-longest, numeral-some}

-- ---- texts of one kind

pub all_append : {kind : ℕ → Bool} {a b : List ℕ} → All kind a → All kind b → All kind (a ++ b)
all_append empty q = q
all_append (cons e p) q = cons e (all_append p q)

all_map : {kind other : ℕ → Bool} {a : List ℕ} → ((x : ℕ) → kind x ≡ true → other x ≡ true) → All kind a → All other a
all_map f empty = empty
all_map f (cons {a = x} e p) = cons (f x e) (all_map f p)

pub all-at : {kind : ℕ → Bool} {a : List ℕ} → All kind a → (i : ℕ) → i < length a → kind (get_or a i 0) ≡ true
all-at empty i h = absurd (omega arith)
all-at (cons e p) zero h = e
all-at (cons e p) (suc i) h = all-at p i (omega arith)

module _ (kind : ℕ → Bool) where
  pub run-whole : {a : List ℕ} → All kind a → leading kind a ≡ length a
  unfolding leading
  run-whole empty = refl
  run-whole (cons e p) = rw e (ap suc (run-whole p))

  whole_run : (a : List ℕ) → leading kind a ≡ length a → All kind a
  whole_run a e = subst (All kind) (take_all (leading kind a) a (omega arith)) (run-all kind a)

  pub run_none : (a b : List ℕ) → 0 < length a → kind (get_or a 0 0) ≡ false → leading kind (a ++ b) ≡ 0
  unfolding leading
  run_none [] b h e = absurd (omega arith)
  run_none (x ∷ a) b h e = rw e

-- ---- a numeral has no blank

abbrev is_no_blank : ℕ → Bool
is_no_blank x = not (is_blank x)

sign-no-blank : (x : ℕ) → is_sign x ≡ true → is_no_blank x ≡ true
sign-no-blank x h = no-blank-by (eqb x 43) refl h
  where
    no-blank-by : (b : Bool) → eqb x 43 ≡ b → cond b true (eqb x 45) ≡ true → is_no_blank x ≡ true
    no-blank-by true e k = ap is_no_blank (eqb-true x 43 e)
    no-blank-by false e k = ap is_no_blank (eqb-true x 45 k)

sign_clear : {g : List ℕ} → Maybe is_sign g → All is_no_blank g
sign_clear absent = empty
sign_clear (present {b = x} e) = cons (sign-no-blank x e) empty

digits-clear : {w : List ℕ} → All is_digit w → All is_no_blank w
digits-clear d = all_map (λ x e. ap not (digit-no-blank x e)) d

fraction-clear : {p f : List ℕ} → Fraction p f → All is_no_blank (p ++ f)
fraction-clear unpointed = empty
fraction-clear (pointed a) = cons refl (digits-clear a)

numeral-clear : {m : List ℕ} → Numeral m → All is_no_blank m
numeral-clear n =
    subst (All is_no_blank) (sym (n.spelled ∙ append_assoc (n.sign ++ n.whole) n.point n.fraction))
    (all_append (all_append (sign_clear n.signed) (digits-clear n.digits)) (fraction-clear n.fractional))

pub no-blank-at : {m : List ℕ} → Numeral m → (i : ℕ) → i < length m → is_blank (get_or m i 0) ≡ false
no-blank-at n i h = not-true _ (all-at (numeral-clear n) i h)

-- ---- what looks numeric

parted : (b : Bool) (n : ℕ) (x : Bool) → eqb n 0 ≡ b → cond b false x ≡ true → (n ≡ 0 → ⊥) × (x ≡ true)
parted true n x e h = absurd (false≢true h)
parted false n x e h = (eqb-false n 0 e, h)

pub looks-true : (t : List ℕ) → looks_numeric t ≡ true → Looks t
unfolding looks_numeric blank_after after_blanks
looks-true t h =
    let k = leading is_blank t in
    let u = drop k t in
    let n = prefix_length u in
    let p = parted (eqb n 0) n (eqb (n + leading is_blank (drop n u)) (length u)) refl h in
    let s : n + leading is_blank (drop n u) ≡ length u = eqb-true _ _ p.1 in
    let pos : 0 < n = omega (arith, p.0) in
    record {
      before = take k t;
      numeral = take n u;
      after = drop n u;
      spelled =
          sym (take-append-drop k t)
          ∙ ap (λ (l : List ℕ). take k t ++ l) (sym (take-append-drop n u))
          ∙ sym (append_assoc (take k t) (take n u) (drop n u));
      blank_before = run-all is_blank t;
      blank-after = whole_run is_blank (drop n u) (omega (arith, length-drop n u));
      form = prefix-numeral u pos;
    }

-- a numeral with nothing but blanks after it is the prefix that is taken
module _ (m after : List ℕ) (n : Numeral m) (blanks : All is_blank after) where
  not-longer : length m < prefix_length (m ++ after) → ⊥
  not-longer h =
      let u = m ++ after in
      let p = prefix_length u in
      let l = length-append m after in
      let b = prefix-inside u in
      let z : length m + 0 ≡ length m = omega arith in
      let e : get_or (take p u) (length m) 0 ≡ get_or after 0 0 =
      get_or-take p u (length m) 0 h ∙ ap (λ (i : ℕ). get_or u i 0) (sym z) ∙ get_or-append-add m after 0 0 in
      let c = no-blank-at (prefix-numeral u (omega arith)) (length m) (omega (arith, length-take-le p u b)) in
      true≢false (sym (all-at blanks 0 (omega arith)) ∙ ap is_blank (sym e) ∙ c)

  taken : prefix_length (m ++ after) ≡ length m
  taken = elim (dec_le (length m + 1) (prefix_length (m ++ after))) [ yes h ↦ absurd (not-longer (omega arith)) | no h ↦ omega (arith, prefix-longest m after n) ]

  pub blank-after : blank_after (prefix_length (m ++ after)) (m ++ after) ≡ true
  unfolding blank_after
  blank-after =
      let s = numeral-some n in
      let r : leading is_blank (drop (length m) (m ++ after)) ≡ length after = ap (leading is_blank) (drop_at m after (length m) refl) ∙ run-whole is_blank blanks in
      let f : length m + leading is_blank (drop (length m) (m ++ after)) ≡ length (m ++ after) = omega (arith, length-append m after) in
      rw taken (simp (ne_eqb (length m) 0 (λ z. omega arith), eq-eqb _ _ f))

pub true-looks : (t : List ℕ) → Looks t → looks_numeric t ≡ true
unfolding looks_numeric after_blanks
true-looks t l =
    let u = l.numeral ++ l.after in
    let e : t ≡ l.before ++ u = l.spelled ∙ append_assoc l.before l.numeral l.after in
    let z : leading is_blank u ≡ 0 = run_none is_blank l.numeral l.after (numeral-some l.form) (no-blank-at l.form 0 (numeral-some l.form)) in
    let k : leading is_blank t ≡ length l.before = ap (leading is_blank) e ∙ leading-append is_blank u l.blank_before ∙ omega arith in
    let d : drop (leading is_blank t) t ≡ u = ap₂ drop k e ∙ drop_at l.before u (length l.before) refl in
    ap (λ (v : List ℕ). blank_after (prefix_length v) v) d ∙ blank-after l.numeral l.after l.form l.blank-after
