-- `read_prefix`: sign, digits, and by the byte after them a point with its digits.
use borrow.Author.Tests.{eq-eqb, ne_eqb}
use mathlib.Core.Path.{◌≡◌, sym, ap, ap₂, ◌∙◌}
use mathlib.Core.Bool.{cond, true, false}
use mathlib.Core.List.{List}
use Prim.Native.Nat.{ℕ, ◌+◌, ◌≤◌}
use native.Mathlib.Omega.{arith}
use lib.Dec.{eqb}
use lib.ListN.{length, get_or}
use Rattle.numeral.specs.Form.{is_sign, sign_length, whole_digits, digits_from, point_at, has_point, fraction_digits}
use Rattle.numeral.specs.Judgement.{digits_value}
use Rattle.numeral.specs.Capped.{capped}
use Rattle.numeral.proofs.Values.{value_none}
use Rattle.numeral.proofs.Prefixes.{digits-inside, digits-counted, digits-valued, point-inside, after-point, fraction-none, fraction-some, prefix-unpointed, prefix-pointed}
use Rattle.numeral.proofs.prefix.read_prefix.Goals as goal
use Rattle.numeral.proofs.prefix.read_prefix.Goals.{After-byte_at, After-read_digits-fraction, After-read_digits-whole, After-sign_length-sign, Else-byte_at-ne46, Then-byte_at-ne46}
use Rattle.numeral.proofs.prefix.read_prefix.Lts.View.{up-After-byte_at, up-After-read_digits-whole, up-After-sign_length-sign, up-Else-byte_at-ne46}

sign-is : (c : After-sign_length-sign) → c.sign_length-sign.result ≡ sign_length c.args.t.now
unfolding sign_length
sign-is c = c.sign_length-sign.ensures ∙ ap (λ (b : ℕ). cond (is_sign b) 1 0) c.byte_at-first.ensures

whole-counted : (c : After-read_digits-whole) → c.read_digits-whole.result.count ≡ length (whole_digits c.args.t.now)
unfolding whole_digits
whole-counted c =
    let t = c.args.t.now in
    digits-counted t c.sign_length-sign.result c.read_digits-whole.result c.read_digits-whole.ensures
    ∙ ap (λ (a : ℕ). length (digits_from a t)) (sign-is (up-After-sign_length-sign _ _ _ c.before.before.before))

whole_is : (c : After-read_digits-whole) → c.read_digits-whole.result.value ≡ capped (digits_value (whole_digits c.args.t.now))
unfolding whole_digits
whole_is c =
    let t = c.args.t.now in
    digits-valued t c.sign_length-sign.result c.read_digits-whole.result c.read_digits-whole.ensures
    ∙ ap (λ (a : ℕ). capped (digits_value (digits_from a t))) (sign-is (up-After-sign_length-sign _ _ _ c.before.before.before))

point-is : (c : After-read_digits-whole) → c.sign_length-sign.result + c.read_digits-whole.result.count ≡ point_at c.args.t.now
unfolding point_at
point-is c = ap₂ ◌+◌ (sign-is (up-After-sign_length-sign _ _ _ c.before.before.before)) (whole-counted c)

-- the byte that is tested
tested : (c : After-byte_at) → c.byte_at.result ≡ get_or c.args.t.now (point_at c.args.t.now) 0
tested c = c.byte_at.ensures ∙ ap (λ (k : ℕ). get_or c.args.t.now k 0) (point-is (up-After-read_digits-whole _ _ _ c.before.before))

no-point : (c : Then-byte_at-ne46) → has_point c.args.t.now ≡ false
unfolding has_point
no-point c = ne_eqb _ _ (λ e. c.if-byte_at-ne46.true (tested (up-After-byte_at _ _ _ c.before.before) ∙ e))

has-point : (c : Else-byte_at-ne46) → has_point c.args.t.now ≡ true
unfolding has_point
has-point c = eq-eqb _ _ (sym (tested (up-After-byte_at _ _ _ c.before.before)) ∙ c.if-byte_at-ne46.false)

-- the digits after the point
start : (c : Else-byte_at-ne46) → c.sign_length-sign.result + c.read_digits-whole.result.count + 1 ≡ point_at c.args.t.now + 1
start c = ap (λ (k : ℕ). k + 1) (point-is (up-After-read_digits-whole _ _ _ c.before.before.before))

fraction-counted : (c : After-read_digits-fraction) → c.read_digits-fraction.result.count ≡ length (fraction_digits c.args.t.now)
fraction-counted c =
    let t = c.args.t.now in
    digits-counted t _ c.read_digits-fraction.result c.read_digits-fraction.ensures
    ∙ ap (λ (a : ℕ). length (digits_from a t)) (start (up-Else-byte_at-ne46 _ _ _ c.before.before.before))
    ∙ ap length (sym (fraction-some t (has-point (up-Else-byte_at-ne46 _ _ _ c.before.before.before))))

fraction-is : (c : After-read_digits-fraction) → c.read_digits-fraction.result.value ≡ capped (digits_value (fraction_digits c.args.t.now))
fraction-is c =
    let t = c.args.t.now in
    digits-valued t _ c.read_digits-fraction.result c.read_digits-fraction.ensures
    ∙ ap (λ (a : ℕ). capped (digits_value (digits_from a t))) (start (up-Else-byte_at-ne46 _ _ _ c.before.before.before))
    ∙ ap (λ (f : List ℕ). capped (digits_value f)) (sym (fraction-some t (has-point (up-Else-byte_at-ne46 _ _ _ c.before.before.before))))

-- all of it is in the text
end-inside : (c : After-read_digits-fraction) → point_at c.args.t.now + 1 + length (fraction_digits c.args.t.now) ≤ length c.args.t.now
end-inside c =
    let t = c.args.t.now in
    let h = has-point (up-Else-byte_at-ne46 _ _ _ c.before.before.before) in
    omega (arith, digits-inside t (point_at t + 1) (after-point t h), ap length (fraction-some t h))

pub overflow_add-point : goal.overflow_add-point
overflow_add-point c = omega (arith, point-is c, point-inside c.args.t.now)

pub returns-then-byte_at-ne46 : goal.returns-then-byte_at-ne46
returns-then-byte_at-ne46 c =
    let t = c.args.t.now in
    let n = no-point (goal.at.returns-then-byte_at-ne46 c).Then-byte_at-ne46 in
    record {
      sized =
          c.with_digits.ensures
          ∙ ap₂ (λ (k p : ℕ). cond (eqb k 0) 0 p) (whole-counted (goal.at.returns-then-byte_at-ne46 c).After-read_digits-whole) (point-is (goal.at.returns-then-byte_at-ne46 c).After-read_digits-whole)
          ∙ sym (prefix-unpointed t n);
      signed = ap (λ (b : ℕ). eqb b 45) c.byte_at-first.ensures;
      whole_valued = whole_is (goal.at.returns-then-byte_at-ne46 c).After-read_digits-whole;
      fraction_valued = value_none ∙ ap (λ (f : List ℕ). capped (digits_value f)) (sym (fraction-none t n));
    }

pub overflow_add-count : goal.overflow_add-count
overflow_add-count c = omega (arith, fraction-counted c, point-is (goal.at.overflow_add-count c).After-read_digits-whole, end-inside c)

pub overflow_add-from-2 : goal.overflow_add-from-2
overflow_add-from-2 c = omega (arith, fraction-counted c, point-is (goal.at.overflow_add-from-2 c).After-read_digits-whole, end-inside c)

pub returns : goal.returns
returns c =
    let t = c.args.t.now in
    let h = has-point (goal.at.returns c).Else-byte_at-ne46 in
    record {
      sized =
          c.with_digits-2.ensures
          ∙ ap₂ (λ (k p : ℕ). cond (eqb k 0) 0 p) (ap₂ ◌+◌ (whole-counted (goal.at.returns c).After-read_digits-whole) (fraction-counted (goal.at.returns c).After-read_digits-fraction)) (ap₂ ◌+◌ (start (goal.at.returns c).Else-byte_at-ne46) (fraction-counted (goal.at.returns c).After-read_digits-fraction))
          ∙ sym (prefix-pointed t h);
      signed = ap (λ (b : ℕ). eqb b 45) c.byte_at-first.ensures;
      whole_valued = whole_is (goal.at.returns c).After-read_digits-whole;
      fraction_valued = fraction-is (goal.at.returns c).After-read_digits-fraction;
    }
