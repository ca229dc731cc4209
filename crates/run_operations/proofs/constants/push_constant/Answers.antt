-- `push_constant` meets its contract: the word is below the first of a text, or not.
use native.Mathlib.Omega.{arith}
use Rattle.run_operations.proofs.Decoded.{decoded-number, decoded-text, pushed}
use borrow.Author.Rules.{rules}
use Rattle.run_operations.proofs.constants.push_constant.Goals as goal

pub set_number-requires : goal.set_number-requires
set_number-requires c =
    (c.requires.0, c.requires.1, c.requires.2.range c.if-word-lt-TEXTS.true)

pub returns-then-word-lt-TEXTS : goal.returns-then-word-lt-TEXTS
returns-then-word-lt-TEXTS c =
    let a = c.args in
    pushed a.image.now a.word a.work.now _ a.a _ c.requires.1 c.set_number.ensures
    (decoded-number a.image.now a.word c.if-word-lt-TEXTS.true)

pub set_constant-requires : goal.set_constant-requires
set_constant-requires c =
    (c.requires.0, c.requires.1, c.requires.2.most, c.requires.2.inside (omega (arith, c.if-word-lt-TEXTS.false)))

pub returns : goal.returns
returns c =
    let a = c.args in
    pushed a.image.now a.word a.work.now _ a.a _ c.requires.1 c.set_constant.ensures
    (decoded-text a.image.now a.word (omega (arith, c.if-word-lt-TEXTS.false)))
