-- `pops` meets its contract, by its test.
use borrow.Author.Tests.{eq-eqb, ne_eqb}
use Prim.Native.Nat.{◌/◌, ◌%◌}
use Rattle.image_instructions.proofs.instructions.pops.Goals as goal

pub returns-then-row-eq-COUNT : goal.returns-then-row-eq-COUNT
returns-then-row-eq-COUNT c = rw (eq-eqb (c.args.row / 8 % 8) 5 c.if-row-eq-COUNT.true)

pub returns : goal.returns
returns c = rw (ne_eqb (c.args.row / 8 % 8) 5 c.if-row-eq-COUNT.false)
