-- Lists of texts, as entries mean them: the same numbers as the texts themselves have.
use mathlib.Core.Path.{◌≡◌, refl, sym, ap, ◌∙◌}
use mathlib.Core.Bool.{Bool, true, false, cond, ◌||◌}
use mathlib.Core.List.{List, [], ◌∷◌, ◌++◌, map, map-append, append_assoc}
use Prim.Native.Nat.{ℕ, zero, suc, ◌+◌, ◌<◌}
use native.Mathlib.Omega.{arith}
use Rattle.lists.proofs.Tests.{clash}
use Rattle.image_format.specs.Image.{Constant, number, text}
use Rattle.program_tokens.specs.Words.{same_bytes}
use Rattle.program_tokens.specs.Tokens.{Token}
use Rattle.program_tree.specs.Tree.{Program}
use Rattle.program_reader.specs.Read.{ok}
use Rattle.program_reader.specs.Programs.{read_program}
use Rattle.program_numbering.specs.Names.{has, with_new, number_of, users_among, names_in_program, users_of}
use Rattle.program_numbering.specs.Numbering.{special_names, same_constant}
use Rattle.program_numbering.proofs.Numbers.{has_right, number-below}
use Rattle.program_names.proofs.Order.{names-in-order}
use Rattle.program_entries.specs.Named.{variable_of}
use Rattle.program_entries.specs.Variables.{specials, variables_of}
use Rattle.program_image.specs.Written.{text_of}
use Rattle.program_numberer.proofs.Lists.{number-left, number-right}

abbrev pub texts : List (List ℕ) → List Constant
texts l = map text l

pub texts-back : (l : List (List ℕ)) → map text_of (texts l) ≡ l
unfolding text_of
texts-back [] = refl
texts-back (a ∷ l) = ap (λ (m : List (List ℕ)). a ∷ m) (texts-back l)

has-texts : (l : List (List ℕ)) (a : List ℕ) → has same_constant (texts l) (text a) ≡ has same_bytes l a
unfolding has same_constant
has-texts [] a = refl
has-texts (b ∷ l) a = ap (λ (x : Bool). same_bytes a b || x) (has-texts l a)

pub number-texts : (l : List (List ℕ)) (a : List ℕ) → number_of same_constant (texts l) (text a) ≡ number_of same_bytes l a
unfolding number_of same_constant
number-texts [] a = refl
number-texts (b ∷ l) a = ap (λ (n : ℕ). cond (same_bytes a b) 0 (suc n)) (number-texts l a)

-- ---- texts after a list that has none

module _ (before : List Constant) (other : (k : List Constant) (a : List ℕ)
    → has same_constant (before ++ k) (text a) ≡ has same_constant k (text a)) where
  one-added : (x : Bool) (l : List (List ℕ)) (a : List ℕ)
      → cond x (before ++ texts l) ((before ++ texts l) ++ (text a ∷ [])) ≡ before ++ texts (cond x l (l ++ (a ∷ [])))
  one-added true l a = refl
  one-added false l a =
      append_assoc before (texts l) (text a ∷ [])
      ∙ ap (λ (k : List Constant). before ++ k) (sym (map-append text l (a ∷ [])))

  pub new-texts : (m l : List (List ℕ))
      → with_new same_constant (before ++ texts l) (texts m) ≡ before ++ texts (with_new same_bytes l m)
  unfolding with_new
  new-texts [] l = refl
  new-texts (a ∷ m) l =
      let x : Bool = has same_bytes l a in
      let same : has same_constant (before ++ texts l) (text a) ≡ x = other (texts l) a ∙ has-texts l a in
      let list : cond (has same_constant (before ++ texts l) (text a)) (before ++ texts l)
      ((before ++ texts l) ++ (text a ∷ []))
      ≡ before ++ texts (cond x l (l ++ (a ∷ []))) =
      ap (λ (y : Bool). cond y (before ++ texts l) ((before ++ texts l) ++ (text a ∷ []))) same ∙ one-added x l a in
      ap (λ (k : List Constant). with_new same_constant k (texts m)) list ∙ new-texts m (cond x l (l ++ (a ∷ [])))

-- ---- EREs

pub new-eres : (m : List (List ℕ)) → with_new same_constant [] (texts m) ≡ texts (with_new same_bytes [] m)
new-eres m = new-texts [] (λ k a. refl) m []

-- ---- variables

special-no-text : (k : List Constant) (a : List ℕ)
    → has same_constant (specials ++ k) (text a) ≡ has same_constant k (text a)
unfolding has same_constant
special-no-text k a = refl

-- the variables of a text that was read
pub variables-are : (edition : ℕ) (s : List ℕ) (p : Program) (t : Token) → read_program edition s ≡ ok p t
    → variables_of edition s ≡ specials ++ texts (users_of edition p)
unfolding variables_of users_of
variables-are edition s p t e =
    ap (λ (m : List (List ℕ)). with_new same_constant specials (texts m)) (names-in-order edition s p t e)
    ∙ new-texts specials special-no-text (users_among edition (names_in_program p)) []

module _ (l : List Constant) where
  special-number : (k : ℕ) → k < 7 → number_of same_constant (specials ++ l) (number k) ≡ k
  unfolding number_of same_constant
  special-number zero h = refl
  special-number (suc zero) h = refl
  special-number (suc (suc zero)) h = refl
  special-number (suc (suc (suc zero))) h = refl
  special-number (suc (suc (suc (suc zero)))) h = refl
  special-number (suc (suc (suc (suc (suc zero))))) h = refl
  special-number (suc (suc (suc (suc (suc (suc zero)))))) h = refl
  special-number (suc (suc (suc (suc (suc (suc (suc k))))))) h = absurd (omega (arith, h))

  special-has : (k : ℕ) → k < 7 → has same_constant (specials ++ l) (number k) ≡ true
  unfolding has same_constant
  special-has zero h = refl
  special-has (suc zero) h = refl
  special-has (suc (suc zero)) h = refl
  special-has (suc (suc (suc zero))) h = refl
  special-has (suc (suc (suc (suc zero)))) h = refl
  special-has (suc (suc (suc (suc (suc zero))))) h = refl
  special-has (suc (suc (suc (suc (suc (suc zero)))))) h = refl
  special-has (suc (suc (suc (suc (suc (suc (suc k))))))) h = absurd (omega (arith, h))

  text-number : (a : List ℕ)
      → number_of same_constant (specials ++ l) (text a) ≡ 7 + number_of same_constant l (text a)
  unfolding number_of same_constant
  text-number a =
      let more : suc (suc (suc (suc (suc (suc (suc (number_of same_constant l (text a))))))))
      ≡ 7 + number_of same_constant l (text a) = omega arith in
      more

has_other : {A : Type 0} (equal : A → A → Bool) (l m : List A) (a : A) → has equal l a ≡ false
    → has equal (l ++ m) a ≡ true → has equal m a ≡ true
unfolding has
has_other equal [] m a e h = h
has_other equal (b ∷ l) m a e h = go (equal a b) e h (has_other equal l m a)
  where
    go : (x : Bool) → (x || has equal l a) ≡ false → (x || has equal (l ++ m) a) ≡ true
        → (has equal l a ≡ false → has equal (l ++ m) a ≡ true → has equal m a ≡ true) → has equal m a ≡ true
    go true e h ih = absurd (clash e)
    go false e h ih = ih e h

module _ (users : List (List ℕ)) (v : List ℕ) where
  abbrev All : List Constant
  All = specials ++ texts users

  special-below : has same_bytes special_names v ≡ true → number_of same_bytes special_names v < 7
  special-below e = number-below same_bytes special_names v e

  -- a variable's number among the entries is its number among the names
  pub number-variable : number_of same_constant All (variable_of v) ≡ number_of same_bytes (special_names ++ users) v
  unfolding variable_of
  number-variable = go (has same_bytes special_names v) refl
    where
      go : (x : Bool) → has same_bytes special_names v ≡ x
          → number_of same_constant All (cond x (number (number_of same_bytes special_names v)) (text v))
          ≡ number_of same_bytes (special_names ++ users) v
      go true e =
          special-number (texts users) (number_of same_bytes special_names v) (special-below e)
          ∙ sym (number-left same_bytes special_names users v e)
      go false e =
          text-number (texts users) v
          ∙ (ap (λ (n : ℕ). 7 + n) (number-texts users v) ∙ sym (number-right same_bytes special_names users v e))

  pub has-variable : has same_bytes (special_names ++ users) v ≡ true → has same_constant All (variable_of v) ≡ true
  unfolding variable_of
  has-variable h = go (has same_bytes special_names v) refl
    where
      go : (x : Bool) → has same_bytes special_names v ≡ x
          → has same_constant All (cond x (number (number_of same_bytes special_names v)) (text v)) ≡ true
      go true e = special-has (texts users) (number_of same_bytes special_names v) (special-below e)
      go false e =
          has_right same_constant specials (texts users) (text v)
          (has-texts users v ∙ has_other same_bytes special_names users v e h)
