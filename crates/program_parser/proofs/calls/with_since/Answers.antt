use borrow.Author.Tests.{le-leb, lt-leb}
use Rattle.program_parser.proofs.calls.with_since.Goals as goal

pub returns-then-since-edition : goal.returns-then-since-edition
returns-then-since-edition c = rw (le-leb _ _ c.if-since-edition.true)

pub returns : goal.returns
returns c = rw (lt-leb _ _ c.if-since-edition.false)
