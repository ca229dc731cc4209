-- Document 01, "Values": what the operations on values give.
use Rattle.std.specs.Prelude.{Bool, true, false, not, cond, ◌&&◌, ◌||◌, List, [], ◌∷◌, ◌++◌, ℕ, suc, length, ℤ, pos, negsuc, ◌+ℤ◌, ◌-ℤ◌, eqb, leb}
use Rattle.std.proofs.Math.Option.{Option, some, none}
use Rattle.edition.specs.Limits.{text_bytes, field_count}
use Rattle.edition.specs.Outcomes.{text_too_long, bad_field_number}
use Rattle.buffer.specs.Order.{ordering}
use Rattle.buffer.specs.First.{first_part}
use Rattle.std.specs.declared.cmp.Ordering.{Ordering}
use Rattle.std.specs.declared.cmp.Ordering.TheVariants.{Less, Equal, Greater}
use Rattle.number.specs.Range.{Answer}
use Rattle.number.specs.Arithmetic.{is_zero, negative, sum_of, difference_of, product_of, quotient_of, remainder_of, negation_of}
use Rattle.image_format.specs.Codes.{Arithmetic, add, subtract, multiply, divide, remainder, Comparison, less, at-most, equal, different, greater, at-least}
use Rattle.values.specs.Value.{Value, unset, number, text, field_text, stop, Result, gives, stops, bind, result, text_of, number_of, numeric, truth_of, truth_value}

abbrev pub computed : Arithmetic → ℤ → ℤ → Answer
computed add x y = sum_of x y
computed subtract x y = difference_of x y
computed multiply x y = product_of x y
computed divide x y = quotient_of x y
computed remainder x y = remainder_of x y

abbrev pub a_number : Result ℤ → Result Value
a_number r = bind r (λ z. gives (number z))

-- "left operand before right"
unfoldable pub arithmetic_of : Arithmetic → Value → Value → Result Value
arithmetic_of o a b = bind (number_of a) (λ x. bind (number_of b) (λ y. a_number (result (computed o x y))))

unfoldable pub negate_of : Value → Result Value
negate_of a = bind (number_of a) (λ x. a_number (result (negation_of x)))

unfoldable pub to_number_of : Value → Result Value
to_number_of a = a_number (number_of a)

unfoldable pub not_of : Value → Result Value
not_of a = bind (truth_of a) (λ b. gives (truth_value (not b)))

-- ---- comparison

abbrev pub order_of : ℤ → ℤ → Ordering
order_of x y = cond (is_zero (x -ℤ y)) Equal (cond (negative (x -ℤ y)) Less Greater)

-- whether it is so, where the left side compares with the right one as the order says: less, equal, greater
abbrev pub among : Bool → Bool → Bool → Ordering → Bool
among l e g Less = l
among l e g Equal = e
among l e g Greater = g

abbrev pub holds : Comparison → Ordering → Bool
holds less = among true false false
holds at-most = among true true false
holds equal = among false true false
holds different = among true false true
holds greater = among false false true
holds at-least = among false true true

-- "Comparison is of numbers if both sides are numbers, unset, or numeric-looking field text; else of unsigned bytes,
-- the shorter first."
unfoldable pub compare_of : Comparison → Value → Value → Result Value
compare_of o a b =
    cond (numeric a && numeric b)
    (bind (number_of a) (λ x. bind (number_of b) (λ y. gives (truth_value (holds o (order_of x y))))))
    (gives (truth_value (holds o (ordering (text_of a) (text_of b)))))

-- ---- texts

-- a text value, or 14
abbrev pub limited : List ℕ → Result Value
limited l = cond (leb (length l) text_bytes) (gives (text l)) (stops (stop text_too_long))

unfoldable pub join_of : Value → Value → Result Value
join_of a b = limited (text_of a ++ text_of b)

unfoldable pub length_of : Value → Result Value
length_of a = gives (number (pos (length (text_of a))))

-- "`index` of an empty t is 0": a place counted from 1, or 0
abbrev pub place_of : Option ℕ → ℕ
place_of none = 0
place_of (some k) = suc k

unfoldable pub index_of : Value → Value → Result Value
index_of a b = gives (number (pos (cond (eqb (length (text_of b)) 0) 0 (place_of (first_part (text_of b) (text_of a))))))

abbrev pub at_most : ℤ → ℤ → Bool
at_most x y = not (negative (y -ℤ x))

-- the bytes of positions from p on, with m ≤ position < e
unfoldable pub between : ℤ → ℤ → ℕ → List ℕ → List ℕ
between m e p [] = []
between m e p (b ∷ t) = cond (at_most m (pos p) && not (at_most e (pos p))) (b ∷ between m e (suc p) t)
    (between m e (suc p) t)

-- "`substr` gives the bytes at positions p >= 1 with m <= p < m+n."
unfoldable pub substr_of : Value → Value → Value → Result Value
substr_of a m n = bind (number_of m) (λ x. bind (number_of n) (λ y. gives (text (between x (x +ℤ y) 1 (text_of a)))))

-- ---- field numbers

-- "field number not 0 to 128": 16
abbrev pub field_in : ℤ → Result ℕ
field_in (pos k) = cond (leb k field_count) (gives k) (stops (stop bad_field_number))
field_in (negsuc k) = stops (stop bad_field_number)

unfoldable pub field_number : Value → Result ℕ
field_number a = bind (number_of a) field_in
