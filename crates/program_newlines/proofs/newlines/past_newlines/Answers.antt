use Rattle.program_newlines.proofs.Passing.{newlines-ready, newlines-again}
use Rattle.program_newlines.proofs.newlines.past_newlines.Goals as goal

pub as_operand-requires : goal.as_operand-requires
as_operand-requires c = newlines-ready _ _ _ _ c.past-u.ensures c.requires.0

pub returns : goal.returns
returns c = newlines-again _ _ _ _ c.past-u.ensures _ c.as_operand.ensures
