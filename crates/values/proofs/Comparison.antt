-- "Comparison is of numbers if both sides are numbers, unset, or numeric-looking field text; else of unsigned bytes,
-- the shorter first."
use mathlib.Core.Path.{◌≡◌, refl, sym}
use mathlib.Core.Bool.{true, ◌&&◌}
use lib.IntN.{ℤ}
use Rattle.lists.proofs.Tests.{clash, and-true, and-of}
use Rattle.buffer.specs.Order.{Before}
use Rattle.buffer.proofs.Ordering.{unless}
use Rattle.numeral.proofs.Look.{looks-true, true-looks}
use Rattle.image_format.specs.Codes.{Comparison}
use Rattle.values.specs.Value.{Value, unset, number, text, field_text, Stop, gives, stops, text_of, number_of}
use Rattle.values.specs.Value.{numeric}
use Rattle.values.specs.Operations.{compare_of}
use Rattle.values.specs.Explained.{OneIf, Below, Numeric, an_unset, a-number, a_look, Says}
use Rattle.values.proofs.Orders.{ordered-says, texts-ordered, numbers-ordered}

-- ---- which values count as numbers

pub numeric-true : (a : Value) → numeric a ≡ true → Numeric a
unfolding numeric
numeric-true unset h = an_unset
numeric-true (number z) h = a-number
numeric-true (text l) h = absurd (clash (sym h))
numeric-true (field_text l) h = a_look (looks-true l h)

pub true-numeric : {a : Value} → Numeric a → numeric a ≡ true
unfolding numeric
true-numeric an_unset = refl
true-numeric a-number = refl
true-numeric (a_look h) = true-looks _ h

both-numeric : (a b : Value) → Numeric a → Numeric b → (numeric a && numeric b) ≡ true
both-numeric a b ha hb = and-of (numeric a) (numeric b) (true-numeric ha) (true-numeric hb)

-- ---- of numbers: left operand before right

module _ (o : Comparison) (a b : Value) (ha : Numeric a) (hb : Numeric b) where
  pub compare-numbers : {x y : ℤ} → number_of a ≡ gives x → number_of b ≡ gives y
      → OneIf (Says Below o x y) (compare_of o a b)
  unfolding compare_of
  compare-numbers {x} {y} p q = rw (both-numeric a b ha hb, p, q) (ordered-says Below x y (numbers-ordered x y) o)

  pub compare-stops-left : {s : Stop} → number_of a ≡ stops s → compare_of o a b ≡ stops s
  unfolding compare_of
  compare-stops-left p = rw (both-numeric a b ha hb, p)

  pub compare-stops-right : {x : ℤ} {s : Stop} → number_of a ≡ gives x → number_of b ≡ stops s → compare_of o a b ≡ stops s
  unfolding compare_of
  compare-stops-right p q = rw (both-numeric a b ha hb, p, q)

-- ---- else of bytes: nothing is converted, so nothing stops

pub compare-texts : (o : Comparison) (a b : Value) → ((Numeric a) × (Numeric b) → ⊥)
    → OneIf (Says Before o (text_of a) (text_of b)) (compare_of o a b)
unfolding compare_of
compare-texts o a b n =
    let s = text_of a in
    let t = text_of b in
    rw (unless (numeric a && numeric b) no) (ordered-says Before s t (texts-ordered s t) o)
  where
    no : (numeric a && numeric b) ≡ true → ⊥
    no h = let (p, q) = and-true (numeric a) (numeric b) h in n (numeric-true a p, numeric-true b q)
