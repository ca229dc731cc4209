-- `put_text`: what is written, and what is left of the text after it, are the text.
use borrow.Author.Rules.{rules}
use native.Mathlib.Omega.{arith}
use mathlib.Core.Path.{◌≡◌, refl, ap}
use Prim.Native.Nat.{ℕ, ◌+◌}
use Rattle.varint.specs.Room.{with_all}
use Rattle.front_lines.proofs.Putting.{put_next, put-end}
use Rattle.front_lines.proofs.put.put_text.Goals as goal

pub loop-i-init : goal.loop-i-init
loop-i-init c = (refl, ap (λ (n : ℕ). with_all c.args.room.now n c.args.text.now) (let z : c.args.k ≡ c.args.k + 0 = omega arith in z))

pub overflow_add-k : goal.overflow_add-k
overflow_add-k c = omega arith

pub loop-i-preserved : goal.loop-i-preserved
loop-i-preserved c =
    let a = c.args in
    (search rules, put_next a.room.now a.k a.text.now _ _ _ c.loop-i-test.true c.loop-i.invariant.1 c.put_byte.ensures)

pub overflow_add-result : goal.overflow_add-result
overflow_add-result c = omega arith

pub returns : goal.returns
returns c =
    let a = c.args in
    put-end a.room.now a.k a.text.now _ _ c.loop-i-test.false c.loop-i.invariant.1
