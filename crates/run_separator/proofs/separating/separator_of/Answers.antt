-- `separator_of` meets its contract: FS is shown, and its bytes are told.
use mathlib.Core.Path.{refl}
use Rattle.run_separator.proofs.Got.{separator-is}
use borrow.Author.Rules.{rules}
use Rattle.run_separator.proofs.separating.separator_of.Reads as reads
use Rattle.run_separator.proofs.separating.separator_of.Lts as lts
use Rattle.run_room.proofs.show.Reads as show-reads
use Rattle.separators.proofs.kind_of.Reads as kind-of-reads
use Rattle.run_separator.proofs.separating.separator_of.Goals as goal

pub returns : goal.returns
returns c =
    let a = c.args in
    separator-is a.edition.number a.work.now _ _ c.kind_of.result _ c.show-n.result refl c.show-n.ensures c.kind_of.ensures
