-- The number of a value, by its kind.
use mathlib.Core.Path.{◌≡◌, refl, sym, ap, subst, ◌∙◌}
use mathlib.Core.Bool.{true, false}
use mathlib.Core.List.{List}
use Prim.Native.Nat.{ℕ, ◌-◌, ◌≤◌, ◌<◌, min}
use native.Mathlib.Omega.{arith}
use lib.IntN.{ℤ, pos}
use borrow.Author.Tests.{le-leb, lt-leb}
use Rattle.edition.specs.Limits.{field_count, number_bound}
use Rattle.edition.specs.Outcomes.{bad_field_number}
use Rattle.number.specs.Range.{Answer, unbias, top}
use Rattle.number.proofs.Bias.{unbias-above, unbias-below}
use Rattle.numeral.specs.Answers.{outcome_of, value_of, Bounded, Values}
use Rattle.numeral.specs.Judgement.{number_of as text_number}
use Rattle.numeral.specs.declared.reading.Unreadable.{Unreadable}
use Rattle.numeral.specs.declared.reading.Unreadable.TheVariants.{OutOfRange, NotWhole}
use Rattle.std.specs.Prelude.{Result as Read, Ok, Err}
use Rattle.values.specs.Value.{Value, unset, number, text, field_text, stop, Result, gives, stops, bind, result, text_of, number_of}
use Rattle.values.specs.Operations.{field_in, field_number}
use Rattle.run_room.specs.Room.{kind_of, is_number}
use Rattle.run_numbers.specs.Numbers.{TakenBy, FieldBy}
use Rattle.run_numbers.specs.declared.numbers.Taken.{Taken}
use Rattle.run_numbers.specs.declared.numbers.FieldNumber.{FieldNumber}

-- ---- a text

-- no outcome of a text is 0
outcome-some : (e : Unreadable) → outcome_of e ≡ 0 → ⊥
outcome-some OutOfRange h = omega (arith, h)
outcome-some NotWhole h = omega (arith, h)

module _ (a : Answer) (v : Read ℕ Unreadable) (h : Values v a) (r : Taken) where
  pub taken_is : (w : ℕ) → v ≡ Ok w → r.stop ≡ 0 → r.word ≡ w → TakenBy (result a) r
  taken_is w e es ew =
      let bound = subst Bounded e h.bounded in
      subst (λ (q : Answer). TakenBy (result q) r) (ap value_of (sym e) ∙ h.answer) (es, ap unbias (sym ew), omega (arith, bound, ew))

  pub taken_stop : (s : Unreadable) → v ≡ Err s → r.stop ≡ outcome_of s → TakenBy (result a) r
  taken_stop s e es =
      subst (λ (q : Answer). TakenBy (result q) r) (ap value_of (sym e) ∙ h.answer) (ap stop (sym es), λ z. outcome-some s (sym es ∙ z))

-- ---- a value

number-one : (y z : ℤ) → number y ≡ number z → y ≡ z
number-one y z e = cc

pub kind-number : (v : Value) (k : ℕ) → min k 3 ≡ kind_of v → k ≡ 1 → is_number v ≡ true
kind-number unset k e h = absurd (omega arith)
kind-number (number z) k e h = refl
kind-number (text l) k e h = absurd (omega arith)
kind-number (field_text l) k e h = absurd (omega arith)

pub taken-number : (v : Value) (k : ℕ) (r : Taken) → min k 3 ≡ kind_of v → k ≡ 1 → r.word ≤ top → (is_number v ≡ true → v ≡ number (unbias r.word)) → r.stop ≡ 0 → TakenBy (number_of v) r
unfolding number_of
taken-number unset k r e h b f es = absurd (omega arith)
taken-number (number z) k r e h b f es = (es, number-one z (unbias r.word) (f refl), b)
taken-number (text l) k r e h b f es = absurd (omega arith)
taken-number (field_text l) k r e h b f es = absurd (omega arith)

pub taken-unset : (v : Value) (k : ℕ) (r : Taken) → min k 3 ≡ kind_of v → k ≡ 0 → r.word ≡ number_bound → r.stop ≡ 0 → TakenBy (number_of v) r
unfolding number_of
taken-unset unset k r e h ew es =
    (es, sym (ap unbias ew ∙ unbias-above number_bound (omega arith)), omega arith)
taken-unset (number z) k r e h ew es = absurd (omega arith)
taken-unset (text l) k r e h ew es = absurd (omega arith)
taken-unset (field_text l) k r e h ew es = absurd (omega arith)

-- other kinds are texts
pub kind-text : (v : Value) (k : ℕ) → min k 3 ≡ kind_of v → (k ≡ 1 → ⊥) → (k ≡ 0 → ⊥) → is_number v ≡ false
kind-text unset k e n z = absurd (omega (arith, n, z))
kind-text (number y) k e n z = absurd (omega (arith, n, z))
kind-text (text l) k e n z = refl
kind-text (field_text l) k e n z = refl

pub taken-text : (v : Value) (k : ℕ) (r : Taken) (t : List ℕ) → min k 3 ≡ kind_of v → (k ≡ 1 → ⊥) → (k ≡ 0 → ⊥) → t ≡ text_of v → TakenBy (result (text_number t)) r → TakenBy (number_of v) r
unfolding number_of text_of
taken-text unset k r t e n z f b = absurd (omega (arith, n, z))
taken-text (number y) k r t e n z f b = absurd (omega (arith, n, z))
taken-text (text l) k r t e n z f b = subst (λ (q : List ℕ). TakenBy (result (text_number q)) r) f b
taken-text (field_text l) k r t e n z f b = subst (λ (q : List ℕ). TakenBy (result (text_number q)) r) f b

-- ---- a field number

module _ (r : FieldNumber) (n : Taken) where
  bound-stop : (q : Result ℤ) → TakenBy q n → (n.stop ≡ 0 → ⊥) → r.stop ≡ n.stop → FieldBy (bind q field_in) r
  bound-stop (gives z) b ne e = absurd (ne b.0)
  bound-stop (stops s) b ne e = (b.0 ∙ ap stop (sym e), λ z. ne (sym e ∙ z))

  bound-low : (q : Result ℤ) → TakenBy q n → n.stop ≡ 0 → n.word < number_bound → r.stop ≡ bad_field_number → FieldBy (bind q field_in) r
  bound-low (gives z) b es h e =
      subst (λ (y : ℤ). FieldBy (field_in y) r) (sym (b.1 ∙ unbias-below n.word h)) (ap stop (sym e), λ y. omega (arith, e, y))
  bound-low (stops s) b es h e = absurd (b.1 es)

  field_is : (z : ℤ) (k : ℕ) → z ≡ pos k → r.stop ≡ 0 → r.k ≡ k → k ≤ field_count → FieldBy (field_in z) r
  field_is z k e es ek h = subst (λ (y : ℤ). FieldBy (field_in y) r) (sym e) (rw (le-leb k field_count h) (es, ek, h))

  field-high : (z : ℤ) (k : ℕ) → z ≡ pos k → r.stop ≡ bad_field_number → field_count < k → FieldBy (field_in z) r
  field-high z k e es h = subst (λ (y : ℤ). FieldBy (field_in y) r) (sym e) (rw (lt-leb k field_count h) (ap stop (sym es), λ y. omega (arith, es, y)))

  bound-high : (q : Result ℤ) → TakenBy q n → n.stop ≡ 0 → number_bound ≤ n.word → field_count < n.word - number_bound → r.stop ≡ bad_field_number
      → FieldBy (bind q field_in) r
  bound-high (gives z) b es g h e = field-high z (n.word - number_bound) (b.1 ∙ unbias-above n.word g) e h
  bound-high (stops s) b es g h e = absurd (b.1 es)

  bound_some : (q : Result ℤ) → TakenBy q n → n.stop ≡ 0 → number_bound ≤ n.word → n.word - number_bound ≤ field_count → r.stop ≡ 0
      → r.k ≡ n.word - number_bound → FieldBy (bind q field_in) r
  bound_some (gives z) b es g h e ek = field_is z (n.word - number_bound) (b.1 ∙ unbias-above n.word g) e ek h
  bound_some (stops s) b es g h e ek = absurd (b.1 es)

  module _ (a : Value) (b : TakenBy (number_of a) n) where
    pub field-stops : (n.stop ≡ 0 → ⊥) → r.stop ≡ n.stop → FieldBy (field_number a) r
    unfolding field_number
    field-stops = bound-stop (number_of a) b

    pub field-low : n.stop ≡ 0 → n.word < number_bound → r.stop ≡ bad_field_number → FieldBy (field_number a) r
    unfolding field_number
    field-low = bound-low (number_of a) b

    pub field-over : n.stop ≡ 0 → number_bound ≤ n.word → field_count < n.word - number_bound → r.stop ≡ bad_field_number → FieldBy (field_number a) r
    unfolding field_number
    field-over = bound-high (number_of a) b

    pub field-some : n.stop ≡ 0 → number_bound ≤ n.word → n.word - number_bound ≤ field_count → r.stop ≡ 0 → r.k ≡ n.word - number_bound → FieldBy (field_number a) r
    unfolding field_number
    field-some = bound_some (number_of a) b
