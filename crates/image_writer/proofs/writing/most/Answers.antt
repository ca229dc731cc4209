-- `most` meets its contract, by its test.
use borrow.Author.Tests.{eq-eqb, ne_eqb}
use Rattle.image_writer.proofs.writing.most.Goals as goal

pub returns-then-stage-eq-BYTE : goal.returns-then-stage-eq-BYTE
returns-then-stage-eq-BYTE c = rw (eq-eqb c.args.stage 4 c.if-stage-eq-BYTE.true)

pub returns : goal.returns
returns c = rw (ne_eqb c.args.stage 4 c.if-stage-eq-BYTE.false)
