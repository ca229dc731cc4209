use native.Mathlib.Omega.{arith}
use borrow.Author.Tests.{lt-ltb, le-ltb}
use Rattle.ere_classes.specs.Column.{first_word}
use Rattle.ere_classes.proofs.classes.first_word.Goals as goal

pub returns-then-n-lt64 : goal.returns-then-n-lt64
unfolding first_word
returns-then-n-lt64 c = (rw (lt-ltb c.args.n 64 c.if-n-lt64.true), omega arith, omega arith, omega arith)

pub returns-else-n-lt64 : goal.returns-else-n-lt64
unfolding first_word
returns-else-n-lt64 c = (rw (le-ltb c.args.n 64 c.if-n-lt64.false), omega arith, omega arith, omega arith)
