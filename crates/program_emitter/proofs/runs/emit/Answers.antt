use borrow.Author.Rules.{rules}
use Rattle.program_emitter.proofs.runs.emit.Goals as goal

pub returns : goal.returns
returns c = (search rules, cc)
