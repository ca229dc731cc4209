-- `number`: by the digits, and the byte after them.
use mathlib.Core.Bool.{true, false}
use native.Mathlib.Omega.{arith}
use Rattle.program_lexer.proofs.Coding.{number-inside, number-coded}
use Rattle.program_lexer.proofs.tokens.number.Goals as goal

pub overflow_add-stop : goal.overflow_add-stop
overflow_add-stop c =
    let a = c.args in
    let read-digits = c.read_digits-digits in
    let p = c.requires in
    record { fits = omega (arith, number-inside a.s.now a.a read-digits.result read-digits.ensures (p)) }

pub returns-then-digits-is_letter : goal.returns-then-digits-is_letter
returns-then-digits-is_letter c =
    let a = c.args in
    let byte_at = c.byte_at-after in
    let is-letter = c.is_letter in
    let d = c.read_digits-digits in
    number-coded a.s.now a.a d.result d.ensures byte_at.result is-letter.result true byte_at.ensures is-letter.ensures c.if-digits-is_letter.true

pub returns : goal.returns
returns c =
    let a = c.args in
    let byte_at = c.byte_at-after in
    let is-letter = c.is_letter in
    let d = c.read_digits-digits in
    number-coded a.s.now a.a d.result d.ensures byte_at.result is-letter.result false byte_at.ensures is-letter.ensures c.if-digits-is_letter.false
