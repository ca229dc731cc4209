-- `with_range` meets its contract: the bytes from lo up to b are in the class.
use mathlib.Core.Path.{◌≡◌}
use Prim.Native.Nat.{◌+◌, ◌-◌}
use native.Mathlib.Omega.{arith}
use Rattle.ere_byte_set.proofs.Laws.{bytes-none, bytes-more, bytes-last}
use Rattle.ere_byte_set.proofs.classes.with_range.Goals as goal

pub loop-b-init : goal.loop-b-init
loop-b-init c =
    let lo = c.args.lo in
    let e : lo - lo ≡ 0 = omega arith in
    rw e (bytes-none _ _)

pub loop-b-preserved : goal.loop-b-preserved
loop-b-preserved c =
    let lo = c.args.lo in
    let b = c.loop-b.b in
    let e : b + 1 - lo ≡ b - lo + 1 = omega arith in
    let k : lo + (b - lo) ≡ b = omega arith in
    rw e (bytes-more _ _ _ _ _ c.loop-b.invariant (rw k c.with_byte-next.ensures))

pub returns : goal.returns
returns c = bytes-last _ _ _ _ _ _ (omega arith) (omega arith) c.loop-b.invariant c.with_byte.ensures
