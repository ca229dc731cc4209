use Rattle.ere_derive.proofs.Seeking.{nested_is}
use Rattle.ere_derive.proofs.both.is_nested.Goals as goal

pub returns : goal.returns
returns c = λ e. nested_is c.args.t.now e
