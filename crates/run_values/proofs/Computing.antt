-- Arithmetic on numbers that were taken, by code.
use mathlib.Core.Path.{◌≡◌, ap}
use Prim.Native.Nat.{ℕ, ◌≤◌}
use lib.IntN.{ℤ}
use native.Mathlib.Omega.{arith}
use borrow.Author.Tests.{ne_eqb}
use Rattle.image_format.specs.Codes.{Arithmetic, remainder}
use Rattle.number.specs.Range.{unbias, top}
use Rattle.number.specs.Arithmetic.{negation_of}
use Rattle.std.specs.Prelude.{Result as Answered}
use Rattle.number.specs.Answers.{outcome_of, answer_of, Computes}
use Rattle.number.specs.declared.arithmetic.Stop.{Stop}
use Rattle.number.specs.declared.arithmetic.Stop.TheVariants.{OutOfRange, NotWhole, ZeroDivisor}
use Rattle.values.specs.Value.{Value, stop, Result, gives, stops, result, number_of}
use Rattle.values.specs.Operations.{computed, a_number, arithmetic_of, negate_of}
use Rattle.run_numbers.specs.Numbers.{TakenBy}
use Rattle.run_numbers.specs.declared.numbers.Taken.{Taken}
use Rattle.run_values.specs.Codes.{arithmetic_by}

-- ---- a number that was taken, or the stop

module _ (q : Result ℤ) (t : Taken) where
  pub taken-stops : TakenBy q t → (t.stop ≡ 0 → ⊥) → q ≡ stops (stop t.stop)
  taken-stops = by q
    where
      by : (p : Result ℤ) → TakenBy p t → (t.stop ≡ 0 → ⊥) → p ≡ stops (stop t.stop)
      by (gives z) b ne = absurd (ne b.0)
      by (stops s) b ne = ap stops b.0

  pub taken-gives : TakenBy q t → t.stop ≡ 0 → (q ≡ gives (unbias t.word)) × (t.word ≤ top)
  taken-gives = by q
    where
      by : (p : Result ℤ) → TakenBy p t → t.stop ≡ 0 → (p ≡ gives (unbias t.word)) × (t.word ≤ top)
      by (gives z) b e = (ap gives b.1, b.2)
      by (stops s) b e = absurd (b.1 e)

-- ---- by code

pub last-arithmetic : (code : ℕ) → (code ≡ 7 → ⊥) → (code ≡ 8 → ⊥) → (code ≡ 9 → ⊥) → (code ≡ 10 → ⊥)
    → arithmetic_by code ≡ remainder
unfolding arithmetic_by
last-arithmetic code n7 n8 n9 n10 = rw (ne_eqb code 7 n7, ne_eqb code 8 n8, ne_eqb code 9 n9, ne_eqb code 10 n10)

-- ---- what was computed is a value, or the stop

pub answered : (c d : Answered ℕ Stop) → c ≡ d → a_number (result (answer_of c)) ≡ a_number (result (answer_of d))
answered c d e = ap (λ (b : Answered ℕ Stop). a_number (result (answer_of b))) e

-- no operator stops with 0
pub outcome-some : (s : Stop) → outcome_of s ≡ 0 → ⊥
outcome-some OutOfRange h = omega (arith, h)
outcome-some NotWhole h = omega (arith, h)
outcome-some ZeroDivisor h = omega (arith, h)

module _ (v : Value) (s : Taken) (b : TakenBy (number_of v) s) (es : s.stop ≡ 0) (c : Answered ℕ Stop) where
  pub arithmetic-is : (o : Arithmetic) (w : Value) (t : Taken) → TakenBy (number_of w) t → t.stop ≡ 0
      → Computes c (computed o (unbias s.word) (unbias t.word))
      → a_number (result (answer_of c)) ≡ arithmetic_of o v w
  unfolding arithmetic_of
  arithmetic-is o w t d et k =
      rw ((taken-gives (number_of v) s b es).0, (taken-gives (number_of w) t d et).0, k.answer)

  pub negate-is : Computes c (negation_of (unbias s.word)) → a_number (result (answer_of c)) ≡ negate_of v
  unfolding negate_of
  negate-is k = rw ((taken-gives (number_of v) s b es).0, k.answer)
