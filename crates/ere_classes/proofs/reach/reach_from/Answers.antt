-- `reach_from` meets its contract: if nothing is left of s after m bytes, nothing is left of the start after n more.
use mathlib.Core.Path.{◌≡◌, sym, subst, ◌∙◌}
use Prim.Native.Nat.{ℕ, suc, ◌+◌}
use native.Mathlib.Nat.{add-zero, zero-add}
use native.Mathlib.Omega.{arith}
use Rattle.ere_classes.specs.Reach.{Ends}
use Rattle.ere_classes.proofs.Reaching.{ends-none, ends_next}
use Rattle.ere_classes.proofs.reach.reach_from.Goals as goal

pub loop-n-init : goal.loop-n-init
loop-n-init c = λ d C m E. subst (λ (n : ℕ). Ends c.args.t.now n c.args.start) (sym (zero-add m)) E

pub returns-then-is_empty : goal.returns-then-is_empty
returns-then-is_empty c =
    let t = c.args.t.now in
    let l = c.loop-n in
    let none : Ends t 0 l.s = subst (Ends t 0) (sym (c.is_empty.ensures c.if-is_empty.true)) (ends-none t) in
    (omega arith, λ d C. subst (λ (m : ℕ). Ends t m c.args.start) (add-zero l.n) (l.invariant d C 0 none))

pub loop-n-preserved : goal.loop-n-preserved
loop-n-preserved c =
    let a = c.args in
    let t = a.t.now in
    let l = c.loop-n in
    let unended = sym c.has.ensures ∙ c.if-has.false in
    λ d C m E.
    let z : l.n + suc m ≡ l.n + 1 + m = omega arith in
    subst (λ (n : ℕ). Ends t n a.start) z
    (l.invariant d C (suc m)
    (ends_next t a.bytes.now a.k d l.s c.next_of-next.result C unended c.next_of-next.ensures m E))
