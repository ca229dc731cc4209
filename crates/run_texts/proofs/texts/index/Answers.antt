-- `index` meets its contract.
use Prim.Native.Nat.{◌+◌}
use Rattle.run_room.specs.Room.{slot_at}
use Rattle.run_values.proofs.Wording.{pair, right-size, index_is}
use Rattle.run_values.proofs.Steps.{left-slot}
use native.Mathlib.Omega.{arith}
use Rattle.run_texts.proofs.texts.index.Goals as goal

pub returns : goal.returns
returns c =
    let pre = c.requires in
    let place-of = c.place_of-p in
    let a = c.args in
    let x = a.work.now in
    let n = c.show-n in
    let m = c.show-m in
    let p = pair x _ _ a.a n.result m.result pre.1 n.ensures m.ensures in
    left-slot a.a _ _
    (index_is (slot_at x a.a) (slot_at x (a.a + 1)) m.result place-of.result
    (right-size x _ a.a n.result m.result pre.0 pre.1 p) p.right p.left place-of.ensures.1)
    (omega (arith, pre.1)) p.same c.set_number.ensures
