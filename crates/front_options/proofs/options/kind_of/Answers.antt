-- `kind_of`, by its tests.
use Rattle.front_options.proofs.Walking.{kind-option, kind-short, kind-unknown, kind-plain}
use Rattle.front_options.proofs.options.kind_of.Goals as goal

pub returns-then-n-lt-OPTIONS : goal.returns-then-n-lt-OPTIONS
returns-then-n-lt-OPTIONS c = (kind-option c.args.word.now c.number_in-n.ensures c.if-n-lt-OPTIONS.true, c.if-n-lt-OPTIONS.true)

pub returns-then-word-lt2 : goal.returns-then-word-lt2
returns-then-word-lt2 c = (kind-short c.args.word.now c.number_in-n.ensures c.if-n-lt-OPTIONS.false c.if-word-lt2.true, tt)

pub returns-then-word-eq45 : goal.returns-then-word-eq45
returns-then-word-eq45 c = (kind-unknown c.args.word.now c.number_in-n.ensures c.if-n-lt-OPTIONS.false c.if-word-lt2.false c.if-word-eq45.true, tt)

pub returns : goal.returns
returns c = (kind-plain c.args.word.now c.number_in-n.ensures c.if-n-lt-OPTIONS.false c.if-word-lt2.false c.if-word-eq45.false, tt)
