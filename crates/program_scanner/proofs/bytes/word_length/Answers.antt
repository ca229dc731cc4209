-- `word_length`: the run is what was passed and what is left of it.
use mathlib.Core.Path.{sym, ◌∙◌}
use lib.ListN.{drop, length-drop}
use native.Mathlib.Omega.{arith}
use borrow.Author.Tests.{not-true, not-false}
use Rattle.lists.proofs.Leading.{leading-more, leading-stop, leading_end, leading_le}
use Rattle.program_tokens.specs.Tokens.{is_word_byte}
use Rattle.program_scanner.proofs.bytes.word_length.Goals as goal
use mathlib.Core.Path.{ap}
use mathlib.Core.Bool.{not}

pub loop-i-init : goal.loop-i-init
loop-i-init c = (omega arith, omega arith)

pub returns-then-not-is_word_byte : goal.returns-then-not-is_word_byte
returns-then-not-is_word_byte c =
    let a = c.args in
    let is-word-byte = c.is_word_byte in
    let l = c.loop-i in
    omega (arith, l.invariant.1, leading-stop is_word_byte a.s.now l.i (omega arith) (sym is-word-byte.ensures ∙ not-true _ (ap not c.if-not-is_word_byte.true)))

pub loop-i-smaller : goal.loop-i-smaller
loop-i-smaller c = omega arith

pub loop-i-preserved : goal.loop-i-preserved
loop-i-preserved c =
    let a = c.args in
    let is-word-byte = c.is_word_byte in
    let l = c.loop-i in (
      omega (arith, l.invariant.0),
      omega (arith, l.invariant.1, leading-more is_word_byte a.s.now l.i (omega arith) (sym is-word-byte.ensures ∙ not-false _ (ap not c.if-not-is_word_byte.false))),
    )

pub returns : goal.returns
returns c =
    let a = c.args in
    let l = c.loop-i in
    let few = leading_le is_word_byte (drop a.at a.s.now) in
    omega (arith, l.invariant, few, length-drop a.at a.s.now, leading_end is_word_byte a.s.now l.i (omega arith))
