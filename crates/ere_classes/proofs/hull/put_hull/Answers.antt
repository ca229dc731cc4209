-- `put_hull` meets its contract: ranges, then the reach, and no shape.
use Prim.Native.Nat.{ℕ, ◌+◌}
use mathlib.Core.Path.{sym, ap, ◌∙◌}
use mathlib.Core.List.{List}
use native.Mathlib.Nat.{mul-le-mul}
use native.Mathlib.Omega.{arith}
use lib.ListN.{length-set, get_or}
use Rattle.ere_search.specs.Walk.{step}
use Rattle.ere_classes.proofs.Bounded.{hull-put}
use Rattle.ere_classes.proofs.hull.put_hull.Goals as goal

pub put_range-n-requires : goal.put_range-n-requires
put_range-n-requires c =
    let p = c.requires in
    let C = p.3 in
    (omega arith, p.2, λ b h. omega (arith, C.is b h, C.few))

pub put_range-m-requires : goal.put_range-m-requires
put_range-m-requires c =
    let p = c.requires in
    let C = p.3 in
    let R = c.put_range-n.ensures in (
      omega arith,
      omega (arith, R.frame.size, p.2),
      λ b h. omega (arith, C.is b h, C.few, R.frame.above (24 + b) (omega arith)),
    )

pub overflow_mul-n : goal.overflow_mul-n
overflow_mul-n c = let z = mul-le-mul c.put_range-n.ensures.few c.put_range-m.ensures.few in omega arith

pub bounds-d-14 : goal.bounds-d-14
bounds-d-14 c =
    simp length-set (omega (arith, c.requires.2, c.put_range-n.ensures.frame.size, c.put_range-m.ensures.frame.size))

pub bounds-d-15 : goal.bounds-d-15
bounds-d-15 c =
    simp length-set (omega (arith, c.requires.2, c.put_range-n.ensures.frame.size, c.put_range-m.ensures.frame.size))

pub returns : goal.returns
returns c =
    let a = c.args in
    let p = c.requires in
    let t = a.t.now in
    let bytes = a.bytes.now in
    let d = a.d.now in
    let at = c.set_at.ensures in
    hull-put t bytes a.k d c.led-firsts.result c.seconds.result _ _ _ _ p.3
    (λ x h f. ap (λ (s : List ℕ). step t s (get_or bytes x 0)) (sym at) ∙ c.led-firsts.ensures.none x h f)
    c.seconds.ensures c.put_range-n.ensures c.put_range-m.ensures c.skips.result c.reach.result p.2
    (c.reach.ensures.1 d p.3) c.skips.ensures
