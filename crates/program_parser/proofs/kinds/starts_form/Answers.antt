use Rattle.program_parser.proofs.Sets.{form-kind}
use Rattle.program_parser.proofs.kinds.starts_form.Goals as goal

pub returns : goal.returns
returns c = form-kind c.args.kind c.requires
