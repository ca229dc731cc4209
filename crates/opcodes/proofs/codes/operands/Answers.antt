-- `operands` meets its contract: what the row says of the names says how many there are.
use Rattle.opcodes.proofs.Naming.{names_none, names-one, names-two}
use Rattle.opcodes.proofs.codes.operands.Goals as goal

pub returns-then-r-eq-NOTHING : goal.returns-then-r-eq-NOTHING
returns-then-r-eq-NOTHING c = names_none _ _ _ c.row-r.ensures c.if-r-eq-NOTHING.true

pub returns-then-r-eq-NOTHING-2 : goal.returns-then-r-eq-NOTHING-2
returns-then-r-eq-NOTHING-2 c = names-one _ _ _ c.row-r.ensures c.if-r-eq-NOTHING.false c.if-r-eq-NOTHING-2.true

pub returns : goal.returns
returns c = names-two _ _ _ c.row-r.ensures c.if-r-eq-NOTHING.false c.if-r-eq-NOTHING-2.false
