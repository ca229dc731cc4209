-- `match_marked` meets its contract: the text is shown, and the match in it is the one that the definition finds.
use mathlib.Core.Path.{refl}
use native.Mathlib.Omega.{arith}
use Rattle.run_match.proofs.Marked.{found_inside, matched-at, matched-none}
use Rattle.run_match.proofs.matching.match_marked.Goals as goal

pub overflow_add-s : goal.overflow_add-s
overflow_add-s c =
    omega (
      arith,
      found_inside _ _ c.show-n.result c.find.result c.in-Some.s c.in-Some.size
          c.show-n.ensures.most
          c.in-Some.is c.find.ensures.inside,
    )

pub overflow_add-s-in-Some : goal.overflow_add-s-in-Some
overflow_add-s-in-Some c =
    omega (
      arith,
      found_inside _ _ c.show-n.result c.find.result c.in-Some.s c.in-Some.size
          c.show-n.ensures.most
          c.in-Some.is c.find.ensures.inside,
    )

pub overflow_add-size : goal.overflow_add-size
overflow_add-size c =
    omega (
      arith,
      found_inside _ _ c.show-n.result c.find.result c.in-Some.s c.in-Some.size
          c.show-n.ensures.most
          c.in-Some.is c.find.ensures.inside,
    )

pub mark-requires : goal.mark-requires
mark-requires c =
    let h =
    found_inside _ _ c.show-n.result c.find.result c.in-Some.s c.in-Some.size
    c.show-n.ensures.most
    c.in-Some.is c.find.ensures.inside in
    (omega (arith, c.show-n.ensures.slotted.outside.size, c.requires.0), c.requires.1, omega (arith, h), omega (arith, h))

pub returns-in-Some : goal.returns-in-Some
returns-in-Some c =
    let a = c.args in
    matched-at a.t.now a.work.now _ _ a.a c.show-n.result _ c.show-n.ensures c.requires.1 refl
    (λ i. (c.slice_known-2-1.given i).fits) a.d.now c.find.result c.find.ensures
    c.in-Some.s c.in-Some.size c.in-Some.is c.mark.ensures

pub returns-in-None : goal.returns-in-None
returns-in-None c =
    let a = c.args in
    matched-none a.t.now a.work.now _ _ a.a c.show-n.result _ c.show-n.ensures c.requires.1 refl
    (λ i. (c.slice_known-2-1.given i).fits) a.d.now c.find.result c.find.ensures
    c.in-None.is c.mark-in-None.ensures
