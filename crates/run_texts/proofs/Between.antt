-- The bytes at positions from one on and before another are a part.
use mathlib.Core.Path.{◌≡◌, sym, ap, ap₂, ◌∙◌}
use mathlib.Core.List.{List, [], ◌∷◌}
use Prim.Native.Nat.{ℕ, zero, suc, ◌+◌, ◌-◌, ◌*◌, ◌≤◌, min}
use native.Mathlib.Omega.{arith}
use native.Mathlib.Decide.{dec_le}
use lib.IntN.{ℤ, pos, ◌+ℤ◌}
use lib.ListN.{length, take, drop, length-drop}
use lib.Seq.{take_all, take-nil}
use lib.Dec.{leb}
use borrow.Author.Tests.{le-leb, lt-leb}
use Rattle.edition.specs.Limits.{number_bound}
use Rattle.buffer.specs.Parts.{part}
use Rattle.number.specs.Range.{unbias}
use Rattle.values.specs.Operations.{at_most, between}
use Rattle.run_values.proofs.Orders.{unbias-distant, pos-distant, sum-distant, at-most-test}

-- ---- by two tests of the positions

module _ (m e : ℤ) (f g : ℕ) (from : (k : ℕ) → at_most m (pos (suc k)) ≡ leb f k)
    (to : (k : ℕ) → at_most e (pos (suc k)) ≡ leb g k) where
  -- at and after the first of them
  rest-between : (l : List ℕ) (k : ℕ) → f ≤ k → between m e (suc k) l ≡ take (g - k) l
  unfolding between
  rest-between [] k h = sym (take-nil (g - k))
  rest-between (b ∷ l) k h =
      elim (dec_le g k) [
        | yes p ↦
            (let z : g - k ≡ 0 = omega arith in
            let y : g - suc k ≡ 0 = omega arith in
            rw (from k, to k, le-leb f k h, le-leb g k p, z)
            (rest-between l (suc k) (omega arith) ∙ ap (λ (n : ℕ). take n l) y))
        | no p ↦
            (let z : g - k ≡ suc (g - suc k) = omega arith in
            rw (from k, to k, le-leb f k h, lt-leb g k (omega arith), z)
            (ap (λ (t : List ℕ). b ∷ t) (rest-between l (suc k) (omega arith))))
      ]

  -- d before it
  part-from : (d : ℕ) (l : List ℕ) (k : ℕ) → f ≡ k + d → between m e (suc k) l ≡ part d (g - f) l
  unfolding between part
  part-from zero l k h =
      let z : k ≡ f = omega arith in
      rest-between l k (omega arith) ∙ ap (λ (n : ℕ). take (g - n) l) z
  part-from (suc d) [] k h = sym (take-nil (g - f))
  part-from (suc d) (b ∷ l) k h =
      rw (from k, lt-leb f k (omega arith)) (part-from d l (suc k) (omega arith))

-- ---- for numbers at distances

module _ (x y : ℕ) where
  from-test : (k : ℕ) → at_most (unbias x) (pos (suc k)) ≡ leb (x - number_bound - 1) k
  from-test k =
      at-most-test (unbias-distant x) (pos-distant (suc k) number_bound)
      ∙ (elim (dec_le x (suc k + number_bound)) [
        | yes p ↦ le-leb x (suc k + number_bound) p ∙ sym (le-leb (x - number_bound - 1) k (omega arith))
        | no p ↦ lt-leb x (suc k + number_bound) (omega arith) ∙ sym (lt-leb (x - number_bound - 1) k (omega arith))
      ])

  to-test : (k : ℕ) → at_most (unbias x +ℤ unbias y) (pos (suc k)) ≡ leb (x + y - 2 * number_bound - 1) k
  to-test k =
      let b = number_bound + number_bound in
      at-most-test (sum-distant (unbias-distant x) (unbias-distant y)) (pos-distant (suc k) b)
      ∙ (elim (dec_le (x + y) (suc k + b)) [
        | yes p ↦ le-leb (x + y) (suc k + b) p ∙ sym (le-leb (x + y - 2 * number_bound - 1) k (omega arith))
        | no p ↦ lt-leb (x + y) (suc k + b) (omega arith) ∙ sym (lt-leb (x + y - 2 * number_bound - 1) k (omega arith))
      ])

  -- cut to the length of the list
  cut : (f g : ℕ) (l : List ℕ) → part f (min g (length l) - f) l ≡ part f (g - f) l
  unfolding part
  cut f g l =
      let d : length (drop f l) ≡ length l - f = length-drop f l in
      elim (dec_le g (length l)) [
        | yes p ↦ (let e : min g (length l) ≡ g = omega arith in ap (λ (n : ℕ). take (n - f) (drop f l)) e)
        | no p ↦
            take_all (min g (length l) - f) (drop f l) (omega arith) ∙ sym (take_all (g - f) (drop f l) (omega arith))
      ]

  pub between-part : (first last n : ℕ) → first ≡ x - number_bound - 1 → last ≡ min (x + y - 2 * number_bound - 1) n
      → (l : List ℕ) → length l ≡ n → part first (last - first) l ≡ between (unbias x) (unbias x +ℤ unbias y) 1 l
  between-part first last n ef el l en =
      let f = x - number_bound - 1 in
      let g = x + y - 2 * number_bound - 1 in
      let z : last ≡ min g (length l) = omega arith in
      ap₂ (λ (i j : ℕ). part i (j - i) l) ef z
      ∙ cut f g l
      ∙ sym (part-from (unbias x) (unbias x +ℤ unbias y) f g from-test to-test f l 0 (omega arith))

  pub between_none : (first last n : ℕ) → first ≡ x - number_bound - 1 → last ≡ min (x + y - 2 * number_bound - 1) n
      → last ≤ first → (l : List ℕ) → length l ≡ n → part 0 0 l ≡ between (unbias x) (unbias x +ℤ unbias y) 1 l
  unfolding part
  between_none first last n ef el h l en =
      let z : 0 ≡ last - first = omega arith in
      ap (λ (m : ℕ). take m (drop first l)) z ∙ between-part first last n ef el l en
