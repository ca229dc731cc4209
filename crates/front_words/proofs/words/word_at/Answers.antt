-- `word_at` meets its contract: the word goes to the first NUL, or to the block's end.
use native.Mathlib.Omega.{arith}
use Rattle.front_words.proofs.Walking.{end-few, ends-before, ends_last}
use Rattle.front_words.proofs.words.word_at.Goals as goal

pub overflow_add-end : goal.overflow_add-end
overflow_add-end c = omega (arith, end-few c.args.block.now c.args.at _ c.requires c.first_byte.ensures)

pub returns-then-end-block : goal.returns-then-end-block
returns-then-end-block c =
    let a = c.args in
    ends-before a.block.now a.at _ c.requires c.first_byte.ensures c.if-end-block.true

pub returns : goal.returns
returns c =
    let a = c.args in
    ends_last a.block.now a.at _ c.requires c.first_byte.ensures c.if-end-block.false
