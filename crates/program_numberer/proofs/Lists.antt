-- Lists that have each thing once: a number stays as it was when more is entered.
use mathlib.Core.Path.{◌≡◌, refl, sym, ap, ◌∙◌}
use mathlib.Core.Bool.{Bool, true, false, cond, ◌||◌}
use mathlib.Core.List.{List, [], ◌∷◌, ◌++◌}
use Prim.Native.Nat.{ℕ, suc, ◌+◌, ◌≤◌}
use native.Mathlib.Omega.{arith}
use lib.ListN.{length, length-append}
use Rattle.lists.proofs.Tests.{clash}
use Rattle.program_numbering.specs.Names.{has, with_new, number_of}
use Rattle.program_numbering.proofs.Numbers.{Each, choose, has_left, has_right, or_left}

module _ {A : Type 0} (equal : A → A → Bool) where
  abbrev added : List A → A → List A
  added l a = cond (has equal l a) l (l ++ (a ∷ []))

  -- in two parts
  pub new-append : (m k l : List A) → with_new equal l (m ++ k) ≡ with_new equal (with_new equal l m) k
  unfolding with_new
  new-append [] k l = refl
  new-append (a ∷ m) k l = new-append m k (added l a)

  -- nothing is new
  pub none-new : (m l : List A) → Each (λ a. has equal l a ≡ true) m → with_new equal l m ≡ l
  unfolding with_new
  none-new [] l h = refl
  none-new (a ∷ m) l h = rw h.0 (none-new m l h.1)

  added-longer : (l : List A) (a : A) → length l ≤ length (added l a)
  added-longer l a =
      choose (λ (m : List A). length l ≤ length m) (has equal l a) l (l ++ (a ∷ [])) (λ e. omega arith)
      (λ e. omega (arith, length-append l (a ∷ [])))

  pub longer : (m l : List A) → length l ≤ length (with_new equal l m)
  unfolding with_new
  longer [] l = omega arith
  longer (a ∷ m) l = omega (arith, added-longer l a, longer m (added l a))

  -- ---- numbers

  pub number-most : (l : List A) (a : A) → number_of equal l a ≤ length l
  unfolding number_of
  number-most [] a = omega arith
  number-most (b ∷ l) a =
      choose (λ (n : ℕ). n ≤ suc (length l)) (equal a b) 0 (suc (number_of equal l a)) (λ e. omega arith)
      (λ e. omega (arith, number-most l a))

  -- in two parts: of the first that has it
  pub number-left : (l m : List A) (a : A) → has equal l a ≡ true → number_of equal (l ++ m) a ≡ number_of equal l a
  unfolding has number_of
  number-left [] m a h = absurd (clash (sym h))
  number-left (b ∷ l) m a h = go (equal a b) h (number-left l m a)
    where
      go : (x : Bool) → (x || has equal l a) ≡ true
          → (has equal l a ≡ true → number_of equal (l ++ m) a ≡ number_of equal l a)
          → cond x 0 (suc (number_of equal (l ++ m) a)) ≡ cond x 0 (suc (number_of equal l a))
      go true h ih = refl
      go false h ih = ap suc (ih h)

  pub number-right : (l m : List A) (a : A) → has equal l a ≡ false
      → number_of equal (l ++ m) a ≡ length l + number_of equal m a
  unfolding has number_of
  number-right [] m a h =
      let none : number_of equal m a ≡ 0 + number_of equal m a = omega arith in
      none
  number-right (b ∷ l) m a h = go (equal a b) h (number-right l m a)
    where
      go : (x : Bool) → (x || has equal l a) ≡ false
          → (has equal l a ≡ false → number_of equal (l ++ m) a ≡ length l + number_of equal m a)
          → cond x 0 (suc (number_of equal (l ++ m) a)) ≡ suc (length l) + number_of equal m a
      go true h ih = absurd (clash h)
      go false h ih =
          let one = ih h in
          omega (arith, one)

  pub number-none : (l : List A) (a : A) → has equal l a ≡ false → number_of equal l a ≡ length l
  unfolding has number_of
  number-none [] a h = refl
  number-none (b ∷ l) a h = go (equal a b) h (number-none l a)
    where
      go : (x : Bool) → (x || has equal l a) ≡ false → (has equal l a ≡ false → number_of equal l a ≡ length l)
          → cond x 0 (suc (number_of equal l a)) ≡ suc (length l)
      go true h ih = absurd (clash h)
      go false h ih = ap suc (ih h)

  -- what the list has keeps its number
  pub number-later : (m l : List A) (a : A) → has equal l a ≡ true
      → number_of equal (with_new equal l m) a ≡ number_of equal l a
  unfolding with_new
  number-later [] l a h = refl
  number-later (b ∷ m) l a h =
      let more : has equal (added l b) a ≡ true =
      choose (λ (x : List A). has equal x a ≡ true) (has equal l b) l (l ++ (b ∷ [])) (λ e. h)
      (λ e. has_left equal l (b ∷ []) a h) in
      number-later m (added l b) a more
      ∙ choose (λ (x : List A). number_of equal x a ≡ number_of equal l a) (has equal l b) l (l ++ (b ∷ [])) (λ e. refl)
      (λ e. number-left l (b ∷ []) a h)

  module _ (a : A) (same : equal a a ≡ true) where
    last : has equal (a ∷ []) a ≡ true
    unfolding has
    last = or_left (equal a a) false same

    first : number_of equal (a ∷ []) a ≡ 0
    unfolding number_of
    first = rw same

    -- a new one has the number of the list's end, which it had before it was entered
    pub number-entered : (m l : List A) → number_of equal (with_new equal l (a ∷ m)) a ≡ number_of equal l a
    unfolding with_new
    number-entered m l =
        number-later m (added l a) a
        (choose (λ (x : List A). has equal x a ≡ true) (has equal l a) l (l ++ (a ∷ [])) (λ e. e)
        (λ e. has_right equal l (a ∷ []) a last))
        ∙ choose (λ (x : List A). number_of equal x a ≡ number_of equal l a) (has equal l a) l (l ++ (a ∷ [])) (λ e. refl)
        (λ e. omega (arith, number-right l (a ∷ []) a e, number-none l a e, first))
