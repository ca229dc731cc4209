use Rattle.program_parser.proofs.Sets.{operand-kind}
use Rattle.program_parser.proofs.kinds.starts_operand.Goals as goal

pub returns : goal.returns
returns c = rw c.is_name.ensures (operand-kind c.args.kind c.requires)
