use Rattle.program_parser.proofs.Sets.{ender-kind}
use Rattle.program_parser.proofs.kinds.is_ender.Goals as goal

pub returns : goal.returns
returns c = ender-kind c.args.kind c.requires
