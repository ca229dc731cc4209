-- The numeric look and the truth of values, and what comparison makes of them.
use mathlib.Core.Path.{◌≡◌, refl, sym, ap, subst, ◌∙◌}
use mathlib.Core.Bool.{Bool, true, false, not, cond}
use mathlib.Core.List.{List}
use Prim.Native.Nat.{ℕ, ◌+◌, ◌<◌}
use native.Mathlib.Omega.{arith}
use native.Mathlib.Decide.{ℕ_discrete}
use lib.IntN.{ℤ, nat_abs}
use lib.ListN.{length}
use lib.Dec.{eqb}
use borrow.Author.Tests.{eq-eqb, ne_eqb}
use Rattle.lists.proofs.Tests.{clash, and-false}
use Rattle.edition.specs.Limits.{number_bound}
use Rattle.buffer.specs.Order.{ordering}
use Rattle.std.specs.declared.cmp.Ordering.{Ordering}
use Rattle.image_format.specs.Codes.{Comparison}
use Rattle.number.specs.Range.{unbias}
use Rattle.number.specs.Arithmetic.{is_zero}
use Rattle.number.proofs.Bias.{zero_is, zero-not, unbias-plus}
use Rattle.numeral.specs.Form.{looks_numeric}
use Rattle.numeral.specs.Judgement.{number_of as text_number}
use Rattle.values.specs.Value.{Value, unset, number, text, field_text, stop, Result, gives, stops, result, text_of}
use Rattle.values.specs.Value.{number_of, numeric, nonzero, truth_of, truth_value}
use Rattle.values.specs.Operations.{not_of, order_of, holds, compare_of}
use Rattle.run_room.specs.Room.{kind_of, is_number}
use Rattle.run_numbers.specs.Numbers.{TakenBy}
use Rattle.run_numbers.specs.declared.numbers.Taken.{Taken}
use Rattle.run_values.specs.Answers.{JudgedBy, TruthBy}
use Rattle.run_values.specs.declared.numbers.Judged.{Judged}
use Rattle.run_values.specs.declared.numbers.Truth.{Truth}
use Rattle.run_values.proofs.Computing.{taken-stops, taken-gives}

-- the number in an answer on the look
abbrev pub number_in : Judged → Taken
number_in r = record { stop = r.stop; word = r.word }

-- ---- the look, by kind

kind-look : (v : Value) → kind_of v < 2 → numeric v ≡ true
unfolding numeric
kind-look unset h = refl
kind-look (number z) h = refl
kind-look (text l) h = absurd (omega arith)
kind-look (field_text l) h = absurd (omega arith)

text-look : (v : Value) → kind_of v ≡ 2 → numeric v ≡ false
unfolding numeric
text-look unset h = absurd (omega arith)
text-look (number z) h = absurd (omega arith)
text-look (text l) h = refl
text-look (field_text l) h = absurd (omega arith)

field_is : (v : Value) → 2 < kind_of v → field_text (text_of v) ≡ v
unfolding text_of
field_is unset h = absurd (omega arith)
field_is (number z) h = absurd (omega arith)
field_is (text l) h = absurd (omega arith)
field_is (field_text l) h = refl

module _ (v : Value) (r : Judged) where
  pub judged-number : kind_of v < 2 → r.numeric ≡ true → TakenBy (number_of v) (number_in r) → JudgedBy v r
  judged-number h e t = record { look = e ∙ sym (kind-look v h); taken = λ k. t }

  pub judged-text : kind_of v ≡ 2 → r.numeric ≡ false → JudgedBy v r
  judged-text h e =
      record { look = e ∙ sym (text-look v h); taken = λ k. absurd (clash (sym k ∙ text-look v h)) }

  pub judged-field : (t : List ℕ) → 2 < kind_of v → t ≡ text_of v → JudgedBy (field_text t) r → JudgedBy v r
  judged-field t h e j = subst (λ (u : Value). JudgedBy u r) (ap field_text e ∙ field_is v h) j

pub judged-look : (t : List ℕ) (r : Judged) → r.numeric ≡ looks_numeric t → TakenBy (result (text_number t)) (number_in r)
    → JudgedBy (field_text t) r
unfolding numeric number_of
judged-look t r e b = record { look = e; taken = λ k. b }

-- ---- truth

pub no-look : (v : Value) → numeric v ≡ false → is_number v ≡ false
unfolding numeric
no-look unset h = absurd (clash h)
no-look (number z) h = absurd (clash h)
no-look (text l) h = refl
no-look (field_text l) h = refl

zero_test : (w : ℕ) → is_zero (unbias w) ≡ eqb w number_bound
zero_test w =
    elim (ℕ_discrete w number_bound) [
      | yes e ↦ eq-eqb (nat_abs (unbias w)) 0 (zero_is w e) ∙ sym (eq-eqb w number_bound e)
      | no n ↦ ne_eqb (nat_abs (unbias w)) 0 (zero-not w n) ∙ sym (ne_eqb w number_bound n)
    ]

module _ (v : Value) (j : Judged) (b : JudgedBy v j) (r : Truth) where
  by_number : (q : Result ℤ) → TakenBy q (number_in j) → r.stop ≡ j.stop → r.holds ≡ not (eqb j.word number_bound)
      → TruthBy (nonzero q) r
  by_number (gives z) t es eh =
      (es ∙ t.0, eh ∙ ap not (sym (zero_test j.word) ∙ ap is_zero (sym t.1)))
  by_number (stops s) t es eh = (t.0 ∙ ap stop (sym es), λ z. t.1 (sym es ∙ z))

  pub truth-number : j.numeric ≡ true → r.stop ≡ j.stop → r.holds ≡ not (eqb j.word number_bound)
      → TruthBy (truth_of v) r
  unfolding truth_of
  truth-number h es eh =
      let n : numeric v ≡ true = sym b.look ∙ h in
      rw n (by_number (number_of v) (b.taken n) es eh)

  pub truth-text : (n : ℕ) → j.numeric ≡ false → r.stop ≡ 0 → r.holds ≡ not (eqb n 0) → length (text_of v) ≡ n
      → TruthBy (truth_of v) r
  unfolding truth_of
  truth-text n h es eh el =
      let f : numeric v ≡ false = sym b.look ∙ h in
      rw f (es, eh ∙ ap (λ (m : ℕ). not (eqb m 0)) (sym el))

-- 1 or 0, as a distance
pub truth-word : (b : Bool) (n : ℕ) → n ≡ number_bound + cond b 1 0 → number (unbias n) ≡ truth_value b
truth-word b n e = ap (λ (m : ℕ). number (unbias m)) e ∙ ap number (unbias-plus (cond b 1 0))

module _ (v : Value) (t : Truth) where
  truth_stops : (q : Result Bool) → TruthBy q t → (t.stop ≡ 0 → ⊥) → q ≡ stops (stop t.stop)
  truth_stops (gives z) b ne = absurd (ne b.0)
  truth_stops (stops s) b ne = ap stops b.0

  truth-gives : (q : Result Bool) → TruthBy q t → t.stop ≡ 0 → q ≡ gives t.holds
  truth-gives (gives z) b e = ap gives (sym b.1)
  truth-gives (stops s) b e = absurd (b.1 e)

  pub not-stops : TruthBy (truth_of v) t → (t.stop ≡ 0 → ⊥) → not_of v ≡ stops (stop t.stop)
  unfolding not_of
  not-stops b ne = rw (truth_stops (truth_of v) b ne)

  pub not_gives : TruthBy (truth_of v) t → t.stop ≡ 0 → not_of v ≡ gives (truth_value (not t.holds))
  unfolding not_of
  not_gives b e = rw (truth-gives (truth_of v) b e)

-- ---- comparison, of a left and a right side that were judged

module _ (o : Comparison) (v w : Value) where
  -- the answer r for the order p
  ordered : (p q : Ordering) (r : Bool) → p ≡ q → r ≡ holds o p → compare_of o v w ≡ gives (truth_value (holds o q))
      → compare_of o v w ≡ gives (truth_value r)
  ordered p q r e f g = g ∙ ap (λ (b : Bool). gives (truth_value b)) (sym (f ∙ ap (holds o) e))

  module _ (p : Ordering) (r : Bool) (e : p ≡ ordering (text_of v) (text_of w)) (f : r ≡ holds o p) where
    pub compare-left-text : (x : Judged) → JudgedBy v x → x.numeric ≡ false → compare_of o v w ≡ gives (truth_value r)
    unfolding compare_of
    compare-left-text x j h = ordered p _ r e f (rw (sym j.look ∙ h))

    pub compare-right-text : (y : Judged) → JudgedBy w y → y.numeric ≡ false → compare_of o v w ≡ gives (truth_value r)
    unfolding compare_of
    compare-right-text y k h = ordered p _ r e f (rw (sym k.look ∙ h, and-false (numeric v)))

  module _ (x y : Judged) (j : JudgedBy v x) (k : JudgedBy w y) (hv : x.numeric ≡ true) (hw : y.numeric ≡ true) where
    look-left : numeric v ≡ true
    look-left = sym j.look ∙ hv

    look-right : numeric w ≡ true
    look-right = sym k.look ∙ hw

    pub compare-left-stops : (x.stop ≡ 0 → ⊥) → compare_of o v w ≡ stops (stop x.stop)
    unfolding compare_of
    compare-left-stops ne =
        rw (look-left, look-right, taken-stops (number_of v) (number_in x) (j.taken look-left) ne)

    pub compare-right-stops : x.stop ≡ 0 → (y.stop ≡ 0 → ⊥) → compare_of o v w ≡ stops (stop y.stop)
    unfolding compare_of
    compare-right-stops e ne =
        rw (
          look-left,
          look-right,
          (taken-gives (number_of v) (number_in x) (j.taken look-left) e).0,
          taken-stops (number_of w) (number_in y) (k.taken look-right) ne,
        )

    pub compare-gives : (p : Ordering) (r : Bool) → p ≡ order_of (unbias x.word) (unbias y.word) → r ≡ holds o p
        → x.stop ≡ 0 → y.stop ≡ 0 → compare_of o v w ≡ gives (truth_value r)
    unfolding compare_of
    compare-gives p r ep er ex ey =
        ordered p _ r ep er
        (rw (
          look-left,
          look-right,
          (taken-gives (number_of v) (number_in x) (j.taken look-left) ex).0,
          (taken-gives (number_of w) (number_in y) (k.taken look-right) ey).0,
        ))
