use Rattle.ere_classes.proofs.Columns.{none-taken}
use Rattle.ere_classes.proofs.classes.takes_none.Goals as goal

pub returns : goal.returns
returns c = none-taken c.args.t.now c.args.p
