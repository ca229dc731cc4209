-- A number names the same thing: what a table has is in it at its number, and a table has all that it is made of.
use mathlib.Core.Path.{◌≡◌, refl, sym, ap, subst, ◌∙◌}
use mathlib.Core.Bool.{Bool, true, false, true≢false, cond, ◌&&◌, ◌||◌}
use mathlib.Core.List.{List, [], ◌∷◌, ◌++◌}
use mathlib.Core.Option.{some}
use Prim.Native.Nat.{ℕ, zero, suc, ◌<◌}
use native.Mathlib.Omega.{arith}
use lib.ListN.{length}
use lib.Dec.{eqb}
use borrow.Author.Tests.{eqb-true, eq-eqb}
use Rattle.lists.proofs.Options.{some_one, none-some}
use Rattle.lists.specs.Elements.{nth}
use Rattle.image_format.specs.Image.{Constant, number, text}
use Rattle.program_tokens.specs.Words.{same_bytes}
use Rattle.program_numbering.specs.Names.{has, with_new, number_of}
use Rattle.program_numbering.specs.Numbering.{same_constant}

pub or_left : (a b : Bool) → a ≡ true → (a || b) ≡ true
or_left true b h = refl
or_left false b h = absurd (true≢false (sym h))

pub or_right : (a b : Bool) → b ≡ true → (a || b) ≡ true
or_right true b h = refl
or_right false b h = h

pub or_mono : (a b c : Bool) → (a || b) ≡ true → (b ≡ true → c ≡ true) → (a || c) ≡ true
or_mono true b c h f = refl
or_mono false b c h f = f h

-- each element
abbrev pub Each : {A : Type 0} → (A → Type 0) → List A → Type 0
Each P [] = Unit
Each P (a ∷ l) = (P a) × (Each P l)

pub each_left : {A : Type 0} (P : A → Type 0) (l m : List A) → Each P (l ++ m) → Each P l
each_left P [] m h = tt
each_left P (a ∷ l) m h = (h.0, each_left P l m h.1)

pub each_right : {A : Type 0} (P : A → Type 0) (l m : List A) → Each P (l ++ m) → Each P m
each_right P [] m h = h
each_right P (a ∷ l) m h = each_right P l m h.1

pub each-join : {A : Type 0} (P : A → Type 0) (l m : List A) → Each P l → Each P m → Each P (l ++ m)
each-join P [] m f g = g
each-join P (a ∷ l) m f g = (f.0, each-join P l m f.1 g)

pub each_map : {A : Type 0} (P Q : A → Type 0) (l : List A) → ((a : A) → P a → Q a) → Each P l → Each Q l
each_map P Q [] f h = tt
each_map P Q (a ∷ l) f h = (f a h.0, each_map P Q l f h.1)

pub choose : {A : Type 0} (P : A → Type 0) (b : Bool) (x y : A) → (b ≡ true → P x) → (b ≡ false → P y) → P (cond b x y)
choose P true x y f g = f refl
choose P false x y f g = g refl

module _ {A : Type 0} (equal : A → A → Bool) where
  -- "the number names the same thing", up to the test of equality; below the table's length
  pub number-below : (l : List A) (a : A) → has equal l a ≡ true → number_of equal l a < length l
  unfolding has number_of
  number-below [] a h = absurd (true≢false (sym h))
  number-below (b ∷ l) a h =
      choose (λ (n : ℕ). n < suc (length l)) (equal a b) 0 (suc (number_of equal l a)) (λ e. omega arith)
      (λ e. let k : has equal l a ≡ true = subst (λ (x : Bool). (x || has equal l a) ≡ true) e h in omega (arith, number-below l a k))

  pub number-names : (l : List A) (a : A) → has equal l a ≡ true → (b : A) × (nth l (number_of equal l a) ≡ some b) × (equal a b ≡ true)
  unfolding has number_of nth
  number-names [] a h = absurd (true≢false (sym h))
  number-names (b ∷ l) a h =
      choose (λ (n : ℕ). (c : A) × (nth (b ∷ l) n ≡ some c) × (equal a c ≡ true)) (equal a b) 0 (suc (number_of equal l a)) (λ e. (b, refl, e))
      (λ e. number-names l a (subst (λ (x : Bool). (x || has equal l a) ≡ true) e h))

  pub has_left : (l m : List A) (a : A) → has equal l a ≡ true → has equal (l ++ m) a ≡ true
  unfolding has
  has_left [] m a h = absurd (true≢false (sym h))
  has_left (b ∷ l) m a h = or_mono (equal a b) (has equal l a) (has equal (l ++ m) a) h (has_left l m a)

  pub has_right : (l m : List A) (a : A) → has equal m a ≡ true → has equal (l ++ m) a ≡ true
  unfolding has
  has_right [] m a h = h
  has_right (b ∷ l) m a h = or_right (equal a b) (has equal (l ++ m) a) (has_right l m a h)

  has_last : (l : List A) (a : A) → equal a a ≡ true → has equal (l ++ (a ∷ [])) a ≡ true
  unfolding has
  has_last [] a e = or_left (equal a a) false e
  has_last (b ∷ l) a e = or_right (equal a b) (has equal (l ++ (a ∷ [])) a) (has_last l a e)

  -- the list so far, with a if it is new
  abbrev added : List A → A → List A
  added l a = cond (has equal l a) l (l ++ (a ∷ []))

  new-keeps : (m l : List A) (a : A) → has equal l a ≡ true → has equal (with_new equal l m) a ≡ true
  unfolding with_new
  new-keeps [] l a h = h
  new-keeps (b ∷ m) l a h =
      new-keeps m (added l b) a (choose (λ (x : List A). has equal x a ≡ true) (has equal l b) l (l ++ (b ∷ [])) (λ e. h) (λ e. has_left l (b ∷ []) a h))

  -- a table has all that it is made of
  pub new-has : ((a : A) → equal a a ≡ true) → (m l : List A) → Each (λ a. has equal (with_new equal l m) a ≡ true) m
  unfolding with_new
  new-has r [] l = tt
  new-has r (b ∷ m) l = (
    new-keeps m (added l b) b (choose (λ (x : List A). has equal x b ≡ true) (has equal l b) l (l ++ (b ∷ [])) (λ e. e) (λ e. has_last l b (r b))),
    new-has r m (added l b),
  )

  -- and nothing else
  pub new-each : (P : A → Type 0) (m l : List A) → Each P l → Each P m → Each P (with_new equal l m)
  unfolding with_new
  new-each P [] l f g = f
  new-each P (b ∷ m) l f g =
      new-each P m (added l b) (choose (Each P) (has equal l b) l (l ++ (b ∷ [])) (λ e. f) (λ e. each-join P l (b ∷ []) f (g.0, tt))) g.1

pub eqb_same : (n : ℕ) → eqb n n ≡ true
eqb_same n = eq-eqb n n refl

pub bytes_same : (l : List ℕ) → same_bytes l l ≡ true
unfolding same_bytes
bytes_same [] = refl
bytes_same (b ∷ l) = subst (λ (x : Bool). (x && same_bytes l l) ≡ true) (sym (eqb_same b)) (bytes_same l)

pub and_left : (a b : Bool) → (a && b) ≡ true → a ≡ true
and_left true b h = refl
and_left false b h = absurd (true≢false (sym h))

pub and_right : (a b : Bool) → (a && b) ≡ true → b ≡ true
and_right true b h = h
and_right false b h = absurd (true≢false (sym h))

pub same-equal : (l m : List ℕ) → same_bytes l m ≡ true → l ≡ m
unfolding same_bytes
same-equal [] [] h = refl
same-equal [] (c ∷ m) h = absurd (true≢false (sym h))
same-equal (b ∷ l) [] h = absurd (true≢false (sym h))
same-equal (b ∷ l) (c ∷ m) h =
    ap (λ (x : ℕ). x ∷ l) (eqb-true b c (and_left (eqb b c) (same_bytes l m) h)) ∙ ap (λ (x : List ℕ). c ∷ x) (same-equal l m (and_right (eqb b c) (same_bytes l m) h))

pub constant-same : (c : Constant) → same_constant c c ≡ true
unfolding same_constant
constant-same (number n) = eqb_same n
constant-same (text l) = bytes_same l

-- constants that are told to be the same are equal
pub constant-equal : (c d : Constant) → same_constant c d ≡ true → c ≡ d
unfolding same_constant
constant-equal (number a) (number b) h = ap number (eqb-true a b h)
constant-equal (number a) (text m) h = absurd (true≢false (sym h))
constant-equal (text l) (number b) h = absurd (true≢false (sym h))
constant-equal (text l) (text m) h = ap text (same-equal l m h)

-- element n of a list has what each has
pub each_at : {A : Type 0} (P : A → Type 0) (l : List A) (n : ℕ) (a : A) → Each P l → nth l n ≡ some a → P a
unfolding nth
each_at P [] n a h e = absurd (none-some e)
each_at P (b ∷ l) zero a h e = subst P (some_one refl e) h.0
each_at P (b ∷ l) (suc n) a h e = each_at P l n a h.1 e
