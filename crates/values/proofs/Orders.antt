-- The order of two numbers and of two texts, and what the six comparisons say of it.
use mathlib.Core.Path.{◌≡◌, refl, sym, ap, ◌∙◌}
use mathlib.Core.Logic.{inl, inr, ⊎_elim}
use mathlib.Core.Bool.{Bool, true, false}
use mathlib.Core.List.{List}
use Prim.Native.Nat.{ℕ, zero, suc}
use native.Mathlib.Omega.{arith}
use lib.IntN.{ℤ, pos, negsuc, neg_ℤ, nat_abs, ◌+ℤ◌, ◌-ℤ◌, +ℤ_comm, +ℤ_assoc, +ℤ_idr, +ℤ_invr, neg_ℤ-neg_ℤ, neg_ℤ-+ℤ}
use lib.IntN.{pos-ne-negsuc, -ℤ-+ℤ_cancel}
use borrow.Author.Tests.{ne_eqb}
use Rattle.std.specs.Ordering.{ordering_reverse}
use Rattle.buffer.specs.Order.{ordering, Before}
use Rattle.std.specs.declared.cmp.Ordering.{Ordering}
use Rattle.std.specs.declared.cmp.Ordering.TheVariants.{Less, Equal, Greater}
use Rattle.buffer.proofs.Ordering.{less-not-equal, more-not-equal, more-not-less, ordering-same, same-ordering}
use Rattle.buffer.proofs.Ordering.{ordering-swap, less-before, before-less}
use Rattle.image_format.specs.Codes.{Comparison, less, at-most, equal, different, greater, at-least}
use Rattle.values.specs.Value.{gives, truth_value}
use Rattle.values.specs.Operations.{order_of, holds, at_most}
use Rattle.values.specs.Explained.{so, not_so, OneIf, AtMost, Below, Says}

-- ---- what the six say, for any order

module _ {A : Type 0} (Before : A → A → Type 0) (x y : A) where
  -- one of the three is so, and then neither of the others
  pub data Ordered : Ordering → Type 0 where
    is-less : Before x y → (x ≡ y → ⊥) → (Before y x → ⊥) → Ordered Less
    is-equal : (Before x y → ⊥) → x ≡ y → (Before y x → ⊥) → Ordered Equal
    is_greater : (Before x y → ⊥) → (x ≡ y → ⊥) → Before y x → Ordered Greater

  pub ordered-says : {r : Ordering} → Ordered r → (o : Comparison)
      → OneIf (Says Before o x y) (gives (truth_value (holds o r)))
  ordered-says (is-less l e g) less = so l
  ordered-says (is-less l e g) at-most = so (inl l)
  ordered-says (is-less l e g) equal = not_so e
  ordered-says (is-less l e g) different = so e
  ordered-says (is-less l e g) greater = not_so g
  ordered-says (is-less l e g) at-least = not_so (⊎_elim g e)
  ordered-says (is-equal l e g) less = not_so l
  ordered-says (is-equal l e g) at-most = so (inr e)
  ordered-says (is-equal l e g) equal = so e
  ordered-says (is-equal l e g) different = not_so (λ n. n e)
  ordered-says (is-equal l e g) greater = not_so g
  ordered-says (is-equal l e g) at-least = so (inr e)
  ordered-says (is_greater l e g) less = not_so l
  ordered-says (is_greater l e g) at-most = not_so (⊎_elim l e)
  ordered-says (is_greater l e g) equal = not_so e
  ordered-says (is_greater l e g) different = so e
  ordered-says (is_greater l e g) greater = so g
  ordered-says (is_greater l e g) at-least = so (inl g)

-- ---- texts

order-greater : (a b : List ℕ) → ordering a b ≡ Greater → Before b a
order-greater a b h = less-before b a (ordering-swap a b ∙ ap ordering_reverse h)

greater-order : (a b : List ℕ) → Before b a → ordering a b ≡ Greater
greater-order a b h = ordering-swap b a ∙ ap ordering_reverse (before-less b a h)

pub texts-ordered : (a b : List ℕ) → Ordered Before a b (ordering a b)
texts-ordered a b = by (ordering a b) refl
  where
    by : (r : Ordering) → ordering a b ≡ r → Ordered Before a b r
    by Less h =
        is-less (less-before a b h)
        (λ e. less-not-equal (sym h ∙ same-ordering a b e))
        (λ g. more-not-less (sym (greater-order a b g) ∙ h))
    by Equal h =
        is-equal (λ l. less-not-equal (sym (before-less a b l) ∙ h))
        (ordering-same a b h)
        (λ g. more-not-equal (sym (greater-order a b g) ∙ h))
    by Greater h =
        is_greater (λ l. more-not-less (sym h ∙ before-less a b l))
        (λ e. more-not-equal (sym h ∙ same-ordering a b e))
        (order-greater a b h)

-- ---- numbers, by their difference

added : (x y d : ℤ) → x -ℤ y ≡ d → x ≡ y +ℤ d
added x y d h = sym (-ℤ-+ℤ_cancel x y) ∙ ap (λ (z : ℤ). z +ℤ y) h ∙ +ℤ_comm d y

taken : (x y d : ℤ) → x ≡ y +ℤ d → x -ℤ y ≡ d
taken x y d h =
    ap (λ (z : ℤ). z -ℤ y) (h ∙ +ℤ_comm y d)
    ∙ +ℤ_assoc d y (neg_ℤ y)
    ∙ ap (λ (z : ℤ). d +ℤ z) (+ℤ_invr y)
    ∙ +ℤ_idr d

-- the difference from the other side
turned : (x y : ℤ) → y -ℤ x ≡ neg_ℤ (x -ℤ y)
turned x y = sym (neg_ℤ-+ℤ x (neg_ℤ y) ∙ ap (λ (z : ℤ). neg_ℤ x +ℤ z) (neg_ℤ-neg_ℤ y) ∙ +ℤ_comm (neg_ℤ x) y)

-- the difference of a lower number is negative
below-difference : (x y : ℤ) (b : Below x y) → x -ℤ y ≡ negsuc b.by
below-difference x y b = turned y x ∙ ap neg_ℤ (taken y x (pos (suc b.by)) b.more)

difference_below : (x y : ℤ) (n : ℕ) → x -ℤ y ≡ negsuc n → Below x y
difference_below x y n h = record { by = n; more = added y x (pos (suc n)) (turned x y ∙ ap neg_ℤ h) }

above-difference : (x y : ℤ) (b : Below y x) → x -ℤ y ≡ pos (suc b.by)
above-difference x y b = taken x y (pos (suc b.by)) b.more

difference-above : (x y : ℤ) (n : ℕ) → x -ℤ y ≡ pos (suc n) → Below y x
difference-above x y n h = record { by = n; more = added x y (pos (suc n)) h }

equal-difference : (x y : ℤ) → x ≡ y → x -ℤ y ≡ pos 0
equal-difference x y e = taken x y (pos 0) (e ∙ sym (+ℤ_idr y))

difference-equal : (x y : ℤ) → x -ℤ y ≡ pos 0 → x ≡ y
difference-equal x y h = added x y (pos 0) h ∙ +ℤ_idr y

apart : {m n : ℕ} → pos m ≡ negsuc n → ⊥
apart {m} {n} h = pos-ne-negsuc m n h

nonzero : {n : ℕ} → pos 0 ≡ pos (suc n) → ⊥
nonzero h = omega (arith, ap nat_abs h)

pub numbers-ordered : (x y : ℤ) → Ordered Below x y (order_of x y)
numbers-ordered x y = by (x -ℤ y) refl
  where
    by : (d : ℤ) → x -ℤ y ≡ d → Ordered Below x y (order_of x y)
    by (pos zero) h =
        rw h
        (is-equal
        (λ l. apart (sym h ∙ below-difference x y l))
        (difference-equal x y h)
        (λ g. nonzero (sym h ∙ above-difference x y g)))
    by (pos (suc n)) h =
        rw (h, ne_eqb (suc n) 0 (λ e. omega arith))
        (is_greater
        (λ l. apart (sym h ∙ below-difference x y l))
        (λ e. nonzero (sym (equal-difference x y e) ∙ h))
        (difference-above x y n h))
    by (negsuc n) h =
        rw (h, ne_eqb (suc n) 0 (λ e. omega arith))
        (is-less
        (difference_below x y n h)
        (λ e. apart (sym (equal-difference x y e) ∙ h))
        (λ g. apart (sym (above-difference x y g) ∙ h)))

-- ---- at most, or above

pub data Sides (x y : ℤ) : Bool → Type 0 where
  within : AtMost x y → (Below y x → ⊥) → Sides x y true
  above : Below y x → (AtMost x y → ⊥) → Sides x y false

pub sides : (x y : ℤ) → Sides x y (at_most x y)
sides x y = by (y -ℤ x) refl
  where
    within-difference : (w : AtMost x y) → y -ℤ x ≡ pos w.by
    within-difference w = taken y x (pos w.by) w.more

    by : (d : ℤ) → y -ℤ x ≡ d → Sides x y (at_most x y)
    by (pos n) h =
        rw h (within (record { by = n; more = added y x (pos n) h }) (λ b. apart (sym h ∙ below-difference y x b)))
    by (negsuc n) h = rw h (above (difference_below y x n h) (λ w. apart (sym (within-difference w) ∙ h)))
