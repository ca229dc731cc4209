-- `flowawk_read`: the numbers of what `read` answers.
use Rattle.capi.proofs.Copying.{copying-is}
use borrow.Author.Rules.{rules}
use Rattle.capi.proofs.images.flowawk_read.Goals as goal

pub returns : goal.returns
returns c = copying-is c.read-c.result _ _ _ _ c.copied_outcome.ensures c.copied_length.ensures c.read-c.ensures
