-- `write_digits`: the digits from index i on stand, and those before it are the rest's.
use mathlib.Core.Path.{◌≡◌, sym, ap, ap₂, ◌∙◌}
use mathlib.Core.List.{List}
use Prim.Native.Nat.{ℕ, ◌+◌, ◌-◌, ◌<◌}
use native.Mathlib.Omega.{arith}
use lib.ListN.{length, take, drop, set, length-set, drop_of_length-le}
use lib.Seq.{take_all}
use Rattle.buffer.specs.Parts.{put}
use Rattle.buffer.proofs.Parts.{put-none, put-down}
use Rattle.decimals.specs.Decimal.{decimal_digits}
use Rattle.decimals.proofs.Decimals.{last-digit, front-digits}
use Rattle.decimals.proofs.decimal.write_digits.Goals as goal

pub loop-i-init : goal.loop-i-init
loop-i-init c =
    let d = decimal_digits c.args.n in
    let k = c.args.count in (
      omega arith,
      put-none c.args.out.now (c.args.at + k) ∙ ap (put c.args.out.now (c.args.at + k)) (sym (drop_of_length-le d {i = k} (omega arith))),
      omega arith,
      λ h. take_all k d (omega arith),
    )

pub loop-i-preserved : goal.loop-i-preserved
loop-i-preserved c =
    let a = c.args in
    let d = decimal_digits a.n in
    let i = c.loop-i.i in
    let k = i - 1 in
    let e : i ≡ k + 1 = omega arith in
    let p = c.loop-i.invariant in
    let h : take (k + 1) d ≡ decimal_digits c.loop-i.rest = ap (λ (j : ℕ). take j d) (sym e) ∙ p.3 (omega arith) in
    let b : k < length d = omega arith in (
      omega arith,
      ap₂ (λ (l : List ℕ) (v : ℕ). set l (a.at + k) v)
          (p.1 ∙ ap (λ (j : ℕ). put a.out.now (a.at + j) (drop j d)) e)
          (sym (last-digit d k c.loop-i.rest b h))
          ∙ put-down a.out.now a.at d k (omega arith) b,
      simp length-set (omega arith),
      front-digits d k c.loop-i.rest b h,
    )
