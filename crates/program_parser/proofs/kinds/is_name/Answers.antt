use Rattle.program_parser.proofs.Sets.{name-kind}
use Rattle.program_parser.proofs.kinds.is_name.Goals as goal

pub returns : goal.returns
returns c = name-kind c.args.kind c.requires
