-- `word`: its length, and the kind of its bytes.
use native.Mathlib.Omega.{arith}
use lib.ListN.{drop, length-drop}
use Rattle.lists.proofs.Leading.{leading_le}
use Rattle.program_tokens.specs.Tokens.{is_word_byte}
use Rattle.program_lexer.proofs.Coding.{word-coded}
use Rattle.program_lexer.proofs.tokens.word.Goals as goal

pub overflow_add-a : goal.overflow_add-a
overflow_add-a c =
    let a = c.args in
    let few = leading_le is_word_byte (drop a.a a.s.now) in
    record { fits = omega (arith, few, length-drop a.a a.s.now, c.word_length-n.ensures) }

pub slice_bounds-word_kind-end : goal.slice_bounds-word_kind-end
slice_bounds-word_kind-end c =
    let a = c.args in
    let few = leading_le is_word_byte (drop a.a a.s.now) in
    omega (arith, few, length-drop a.a a.s.now, c.word_length-n.ensures)

pub returns : goal.returns
returns c =
    let a = c.args in
    word-coded a.edition.number a.a c.word_length-n.result c.word_kind.result a.s.now c.word_length-n.ensures c.word_kind.ensures
