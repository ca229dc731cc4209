use Rattle.program_parser.proofs.Sets.{prefix-kind}
use Rattle.program_parser.proofs.kinds.is_prefix.Goals as goal

pub returns : goal.returns
returns c = prefix-kind c.args.kind c.requires
