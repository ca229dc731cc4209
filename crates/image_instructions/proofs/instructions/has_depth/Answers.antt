-- `has_depth` meets its contract, by its test.
use native.Mathlib.Omega.{arith}
use borrow.Author.Tests.{lt-ltb, le-ltb}
use Rattle.image_instructions.proofs.instructions.has_depth.Goals as goal

pub returns-then-count-m : goal.returns-then-count-m
returns-then-count-m c = rw (le-ltb c.args.m c.args.count (omega (arith, c.if-count-m.true)))

pub returns : goal.returns
returns c =
    let a = c.args in
    rw (lt-ltb a.m a.count (omega (arith, c.if-count-m.false)), c.instruction-j.ensures)
