-- The order of numbers by their distances, and the comparison of a code by tests.
use mathlib.Core.Path.{◌≡◌, refl, sym, ap, subst, ◌∙◌}
use mathlib.Core.Bool.{Bool, not, ◌&&◌, ◌||◌}
use Prim.Native.Nat.{ℕ, suc, ◌+◌, ◌<◌}
use native.Mathlib.Omega.{arith}
use native.Mathlib.Decide.{ℕ_discrete}
use lib.IntN.{ℤ, pos, nat_abs, ◌+ℤ◌, +ℤ_assoc, +ℤ_comm, -ℤ-+ℤ_cancel}
use lib.Dec.{eqb, leb}
use borrow.Author.Tests.{ne_eqb, le-leb, lt-leb}
use Rattle.edition.specs.Limits.{number_bound}
use Rattle.std.specs.declared.cmp.Ordering.{Ordering}
use Rattle.std.specs.declared.cmp.Ordering.TheVariants.{Less, Equal, Greater}
use Rattle.number.specs.Range.{unbias}
use Rattle.number.proofs.Bias.{unbias-same}
use Rattle.values.specs.Operations.{order_of, holds, at_most}
use Rattle.values.specs.Explained.{Below}
use Rattle.values.proofs.Orders.{Ordered, is-less, is-equal, is_greater, numbers-ordered, Sides, within, above, sides}
use Rattle.run_values.specs.Codes.{comparison_by}

-- ---- distances

-- z is at distance w from the number that is c below 0
pub record Distant (z : ℤ) (c w : ℕ) : Type 0 where
  pub sum : z +ℤ pos c ≡ pos w

pub unbias-distant : (w : ℕ) → Distant (unbias w) number_bound w
unfolding unbias
unbias-distant w = record { sum = -ℤ-+ℤ_cancel (pos w) (pos number_bound) }

pub pos-distant : (n c : ℕ) → Distant (pos n) c (n + c)
pos-distant n c = record { sum = refl }

pub sum-distant : {y z : ℤ} {b c v w : ℕ} → Distant y b v → Distant z c w → Distant (y +ℤ z) (b + c) (v + w)
sum-distant {y} {z} {b} {c} {v} {w} p q =
    record {
      sum =
          +ℤ_assoc y z (pos b +ℤ pos c)
          ∙ ap (λ (u : ℤ). y +ℤ u)
          (sym (+ℤ_assoc z (pos b) (pos c))
          ∙ ap (λ (u : ℤ). u +ℤ pos c) (+ℤ_comm z (pos b))
          ∙ +ℤ_assoc (pos b) z (pos c)
          ∙ ap (λ (u : ℤ). pos b +ℤ u) q.sum)
          ∙ sym (+ℤ_assoc y (pos b) (pos w))
          ∙ ap (λ (u : ℤ). u +ℤ pos w) p.sum;
    }

further : {y z : ℤ} {c v w : ℕ} → Distant y c v → Distant z c w → (n : ℕ) → z ≡ y +ℤ pos n → w ≡ v + n
further {y} {z} {c} {v} {w} p q n e =
    let f : pos w ≡ pos (v + n) =
    sym q.sum
    ∙ ap (λ (u : ℤ). u +ℤ pos c) e
    ∙ +ℤ_assoc y (pos n) (pos c)
    ∙ ap (λ (u : ℤ). y +ℤ u) (+ℤ_comm (pos n) (pos c))
    ∙ sym (+ℤ_assoc y (pos c) (pos n))
    ∙ ap (λ (u : ℤ). u +ℤ pos n) p.sum in
    ap nat_abs f

pub below_less : {y z : ℤ} {c v w : ℕ} → Distant y c v → Distant z c w → Below y z → v < w
below_less p q b = omega (arith, further p q (suc b.by) b.more)

pub at-most-test : {y z : ℤ} {c v w : ℕ} → Distant y c v → Distant z c w → at_most y z ≡ leb v w
at-most-test {y} {z} {c} {v} {w} p q = by (sides y z)
  where
    by : {t : Bool} → Sides y z t → t ≡ leb v w
    by (within a n) = sym (le-leb v w (omega (arith, further p q a.by a.more)))
    by (above b n) = sym (lt-leb v w (below_less q p b))

-- ---- the order of numbers

module _ (v w : ℕ) where
  less_by : {r : Ordering} → Ordered Below (unbias v) (unbias w) r → v < w → r ≡ Less
  less_by (is-less l e g) h = refl
  less_by (is-equal l e g) h = absurd (omega (arith, unbias-same v w e))
  less_by (is_greater l e g) h = absurd (omega (arith, below_less (unbias-distant w) (unbias-distant v) g))

  greater-by : {r : Ordering} → Ordered Below (unbias v) (unbias w) r → w < v → r ≡ Greater
  greater-by (is-less l e g) h = absurd (omega (arith, below_less (unbias-distant v) (unbias-distant w) l))
  greater-by (is-equal l e g) h = absurd (omega (arith, unbias-same v w e))
  greater-by (is_greater l e g) h = refl

  equal_by : {r : Ordering} → Ordered Below (unbias v) (unbias w) r → v ≡ w → r ≡ Equal
  equal_by (is-less l e g) h = absurd (e (ap unbias h))
  equal_by (is-equal l e g) h = refl
  equal_by (is_greater l e g) h = absurd (e (ap unbias h))

  pub order-less : v < w → Less ≡ order_of (unbias v) (unbias w)
  order-less h = sym (less_by (numbers-ordered (unbias v) (unbias w)) h)

  pub order-greater : w < v → Greater ≡ order_of (unbias v) (unbias w)
  order-greater h = sym (greater-by (numbers-ordered (unbias v) (unbias w)) h)

  pub order-equal : v ≡ w → Equal ≡ order_of (unbias v) (unbias w)
  order-equal h = sym (equal_by (numbers-ordered (unbias v) (unbias w)) h)

-- ---- the comparison of a code

abbrev pub tested : ℕ → Ordering → Bool
tested code Less = eqb code 15 || eqb code 16 || eqb code 18
tested code Equal = not (eqb code 15) && not (eqb code 18) && not (eqb code 19)
tested code Greater = not (eqb code 15) && not (eqb code 16) && not (eqb code 17)

abbrev Right : ℕ → Type 0
Right code =
    (tested code Less ≡ holds (comparison_by code) Less)
    × (tested code Equal ≡ holds (comparison_by code) Equal)
    × (tested code Greater ≡ holds (comparison_by code) Greater)

right : (code : ℕ) → Right code
unfolding comparison_by
right code =
    elim (ℕ_discrete code 15) [
      | yes e ↦ subst Right (sym e) (refl, refl, refl)
      | no n15 ↦ elim (ℕ_discrete code 16) [
        | yes e ↦ subst Right (sym e) (refl, refl, refl)
        | no n16 ↦ elim (ℕ_discrete code 17) [
          | yes e ↦ subst Right (sym e) (refl, refl, refl)
          | no n17 ↦ elim (ℕ_discrete code 18) [
            | yes e ↦ subst Right (sym e) (refl, refl, refl)
            | no n18 ↦ elim (ℕ_discrete code 19) [
              | yes e ↦ subst Right (sym e) (refl, refl, refl)
              | no n19 ↦
                  rw (
                    ne_eqb code 15 n15,
                    ne_eqb code 16 n16,
                    ne_eqb code 17 n17,
                    ne_eqb code 18 n18,
                    ne_eqb code 19 n19,
                  )
                  (refl, refl, refl)
            ]
          ]
        ]
      ]
    ]

pub tested-holds : (code : ℕ) (o : Ordering) → tested code o ≡ holds (comparison_by code) o
tested-holds code Less = (right code).0
tested-holds code Equal = (right code).1
tested-holds code Greater = (right code).2
