-- `write_decimal`: by the sign.
use mathlib.Core.Path.{◌≡◌, sym, ap, ◌∙◌}
use mathlib.Core.List.{List, [], ◌∷◌}
use Prim.Native.Nat.{ℕ, ◌+◌, ◌-◌, ◌≤◌}
use native.Mathlib.Omega.{arith}
use lib.ListN.{length, set, length-set}
use Rattle.edition.specs.Limits.{number_bound}
use Rattle.buffer.specs.Parts.{put}
use Rattle.buffer.proofs.Parts.{put_one, put-append}
use Rattle.decimals.specs.Decimal.{decimal_digits}
use Rattle.decimals.proofs.Decimals.{text-below, text-above, length-bound}
use Rattle.decimals.proofs.decimal.write_decimal.Goals as goal

-- a minus, and digits right after it
minus-put : (l : List ℕ) (a : ℕ) (d : List ℕ) → a + length d + 1 ≤ length l → put (set l a 45) (a + 1) d ≡ put l a (45 ∷ d)
minus-put l a d h =
    ap (λ (m : List ℕ). put m (a + 1) d) (put_one l a 45 (omega arith)) ∙ put-append l a (45 ∷ []) d (omega arith)

pub bounds-out-at : goal.bounds-out-at
bounds-out-at c = omega (arith, ap length (text-below c.args.w c.if-w-lt-NUMBER.true))

pub write_digits-requires : goal.write_digits-requires
write_digits-requires c = (c.digit_count-count.ensures, simp length-set (omega (arith, ap length (text-below c.args.w c.if-w-lt-NUMBER.true))))

pub overflow_add-result : goal.overflow_add-result
overflow_add-result c = omega (arith, length-bound (number_bound - c.args.w) (omega arith))

pub write_digits-requires-else-w-lt-NUMBER : goal.write_digits-requires-else-w-lt-NUMBER
write_digits-requires-else-w-lt-NUMBER c = (c.digit_count-count-else-w-lt-NUMBER.ensures, omega (arith, ap length (text-above c.args.w c.if-w-lt-NUMBER.false)))

pub returns-then-w-lt-NUMBER : goal.returns-then-w-lt-NUMBER
returns-then-w-lt-NUMBER c =
    let a = c.args in
    let w = a.w in
    let e = text-below w c.if-w-lt-NUMBER.true in
    let s = ap length e in (
      omega arith,
      c.write_digits.ensures
          ∙ minus-put a.out.now a.at (decimal_digits (number_bound - w)) (omega arith)
          ∙ ap (put a.out.now a.at) (sym e),
    )

pub returns-else-w-lt-NUMBER : goal.returns-else-w-lt-NUMBER
returns-else-w-lt-NUMBER c =
    let a = c.args in
    let w = a.w in
    let e = text-above w c.if-w-lt-NUMBER.false in
    let s = ap length e in
    (omega arith, c.write_digits-else-w-lt-NUMBER.ensures ∙ ap (put a.out.now a.at) (sym e))
