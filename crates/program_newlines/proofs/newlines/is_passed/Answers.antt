use Rattle.program_newlines.proofs.Passing.{passing-kind}
use Rattle.program_newlines.proofs.newlines.is_passed.Goals as goal

pub returns : goal.returns
returns c = passing-kind c.args.semicolons c.args.kind c.requires
