-- `with_digit`, by its tests: a byte that is no digit, and a number that does not fit.
use Rattle.std.proofs.Common.{◌≡◌, ◌∙◌, ℕ, ◌+◌, ◌-◌, ◌*◌, ◌<◌, ◌≤◌, ◌^◌, ap, inl, inr, arith}
use Rattle.std.specs.Prelude.{Option, Some, None, SomeIff, ◌⊎◌}
use Rattle.std.proofs.Math.Option as maybe
use borrow.Author.Tests.{le-leb, lt-leb}
use Rattle.lists.specs.Answers.{option_of}
use Rattle.front_options.specs.Budgets.{MOST, with_digit}
use Rattle.front_options.proofs.budgets.with_digit.Goals as goal

module _ (v b : ℕ) where
  no_digit : (b < 48) ⊎ (57 < b) → maybe.none ≡ with_digit v b
  unfolding with_digit
  no_digit (inl h) = simp (lt-leb 48 b h)
  no_digit (inr h) = simp (le-leb 48 b (omega arith), lt-leb b 57 h)

  module _ (low : 48 ≤ b) (high : b ≤ 57) where
    fits : v * 10 + (b - 48) < 2 ^ 64 → maybe.some (v * 10 + (b - 48)) ≡ with_digit v b
    unfolding with_digit
    fits h = simp (le-leb 48 b low, le-leb b 57 high, le-leb (v * 10 + (b - 48)) MOST (omega arith))

    over : 2 ^ 64 ≤ v * 10 + (b - 48) → maybe.none ≡ with_digit v b
    unfolding with_digit
    over h = simp (le-leb 48 b low, le-leb b 57 high, lt-leb (v * 10 + (b - 48)) MOST (omega arith))

    -- the sum that is checked
    added : (m : ℕ) (r : Option ℕ) → m ≡ v * 10 → SomeIff r (m + (b - 48) < 2 ^ 64) (m + (b - 48)) → option_of r ≡ with_digit v b
    added m None e h = over (omega arith)
    added m (Some x) e h = let f : x ≡ v * 10 + (b - 48) = omega (arith, h.1) in ap maybe.some f ∙ fits (omega (arith, h.0))

pub returns-then-not-is_ascii_digit : goal.returns-then-not-is_ascii_digit
returns-then-not-is_ascii_digit c = no_digit c.args.value c.args.b c.if-not-is_ascii_digit.ensures.cases

pub returns-in_err-checked_mul : goal.returns-in_err-checked_mul
returns-in_err-checked_mul c =
    let d = c.if-not-is_ascii_digit.ensures.cases in
    ap option_of c.from_residual.ensures ∙ over c.args.value c.args.b d.0 d.1 (omega (arith, c.in_err-checked_mul.ensures))

pub returns : goal.returns
returns c =
    let d = c.if-not-is_ascii_digit.ensures.cases in
    added c.args.value c.args.b d.0 d.1 _ _ c.in_ok-checked_mul.ensures.1 c.checked_add.ensures
