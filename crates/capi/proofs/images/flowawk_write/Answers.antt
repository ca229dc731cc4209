-- `flowawk_write`: the numbers of what `write` answers.
use Rattle.capi.proofs.Copying.{copying-is}
use borrow.Author.Rules.{rules}
use Rattle.capi.proofs.images.flowawk_write.Goals as goal

pub returns : goal.returns
returns c = copying-is c.write-c.result _ _ _ _ c.copied_outcome.ensures c.copied_length.ensures c.write-c.ensures
