-- `read_digits`: what was counted and what is left is the run, and the value is that of the digits passed.
use borrow.Author.Tests.{not-true, not-false}
use mathlib.Core.Path.{◌≡◌, sym, ap, ◌∙◌}
use mathlib.Core.Bool.{true}
use Prim.Native.Nat.{ℕ}
use native.Mathlib.Omega.{arith}
use lib.ListN.{take, get_or}
use Rattle.lists.proofs.Leading.{leading-more, leading-stop, leading_end}
use Rattle.lists.specs.Elements.{leading}
use Rattle.numeral.specs.Form.{is_digit}
use Rattle.numeral.specs.Judgement.{digits_value, appended}
use Rattle.numeral.specs.Capped.{capped}
use Rattle.numeral.proofs.Runs.{digit-range}
use Rattle.numeral.proofs.Values.{value-more, capped_le, capped-more, value_none}
use Rattle.numeral.proofs.digits.read_digits.Goals as goal
use mathlib.Core.Bool.{not}

pub loop-k-init : goal.loop-k-init
loop-k-init c = (omega arith, value_none)

pub returns-then-not-is_digit : goal.returns-then-not-is_digit
returns-then-not-is_digit c =
    let t = c.args.t.now in
    let k = c.loop-k.k in
    let e : k ≡ leading is_digit t =
    omega (arith, leading-stop is_digit t k (omega arith) (sym c.is_digit.ensures ∙ not-true _ (ap not c.if-not-is_digit.true))) in
    record { counted = e; valued = c.loop-k.invariant.1 ∙ ap (λ (n : ℕ). capped (digits_value (take n t))) e }

pub with_digit-value-requires : goal.with_digit-value-requires
with_digit-value-requires c =
    let a = c.args in
    let d : is_digit (get_or a.t.now c.loop-k.k 0) ≡ true = sym c.is_digit.ensures ∙ not-false _ (ap not c.if-not-is_digit.false) in
    (omega (arith, c.loop-k.invariant.1, capped_le (digits_value (take c.loop-k.k a.t.now))), (digit-range _ d).0, (digit-range _ d).1)

pub loop-k-preserved : goal.loop-k-preserved
loop-k-preserved c =
    let t = c.args.t.now in
    let k = c.loop-k.k in (
      omega (arith, leading-more is_digit t k (omega arith) (sym c.is_digit.ensures ∙ not-false _ (ap not c.if-not-is_digit.false))),
      c.with_digit-value.ensures
          ∙ ap (λ (v : ℕ). capped (appended v (get_or t k 0))) c.loop-k.invariant.1
          ∙ capped-more (digits_value (take k t)) (get_or t k 0)
          ∙ ap capped (sym (value-more t k (omega arith))),
    )

pub returns : goal.returns
returns c =
    let t = c.args.t.now in
    let k = c.loop-k.k in
    let e : k ≡ leading is_digit t = omega (arith, leading_end is_digit t k (omega arith)) in
    record { counted = omega arith; valued = c.loop-k.invariant.1 ∙ ap (λ (n : ℕ). capped (digits_value (take n t))) e }
