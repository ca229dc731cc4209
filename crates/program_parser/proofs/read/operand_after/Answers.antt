use Rattle.program_parser.proofs.Codes.{operand-ready, operand-again}
use Rattle.program_parser.proofs.read.operand_after.Goals as goal

pub as_operand-requires : goal.as_operand-requires
as_operand-requires c = operand-ready c.args.edition.number c.args.s.now c.args.t _ c.token_after-u.ensures c.requires

pub returns : goal.returns
returns c = operand-again c.args.edition.number c.args.s.now c.args.t _ c.token_after-u.ensures _ c.as_operand.ensures
