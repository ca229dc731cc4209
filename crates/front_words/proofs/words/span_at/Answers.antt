-- `span_at` meets its contract, by its test.
use mathlib.Core.Path.{refl}
use Rattle.front_words.proofs.Walking.{span_none, word_first}
use Rattle.front_words.proofs.words.span_at.Goals as goal

pub returns-then-block-at : goal.returns-then-block-at
returns-then-block-at c = span_none c.args.block.now c.args.at 0 c.args.at 0 c.if-block-at.true c.requires refl

pub returns : goal.returns
returns c = word_first c.args.block.now c.args.at _ c.word_at-w.ensures
