use mathlib.Core.Path.{refl}
use native.Mathlib.Omega.{arith}
use borrow.Author.Tests.{eqb-false, not-false}
use Rattle.lists.proofs.Tests.{or-false}
use Rattle.ere_sets.proofs.Grown.{grows_none, grows-put}
use Rattle.ere_sets.proofs.sets.enter.Goals as goal

pub returns-in-Some : goal.returns-in-Some
returns-in-Some c = record {
  size = refl;
  entered = record { few = c.requires.0; grows = grows_none _ _; has = record { low = c.in-Some.ensures.0; is = c.in-Some.ensures.1 } };
}

pub returns : goal.returns
returns c =
    let o = or-false _ _ c.if-count-most.false in
    let room = eqb-false c.args.count c.args.most o.0 in
    record {
      size = c.put.ensures.size;
      entered = record {
        few = omega (arith, room);
        grows = grows-put c.put.ensures (c.is_fair.ensures (not-false _ o.1));
        has = record { low = omega arith; is = c.put.ensures.is };
      };
    }
