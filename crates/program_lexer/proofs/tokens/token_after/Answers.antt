-- `token_after`: a `(` at once after a user name, or the next token.
use mathlib.Core.Path.{◌∙◌}
use native.Mathlib.Omega.{arith}
use Rattle.program_lexer.proofs.Coding.{after_call, after-other, call-inside}
use Rattle.program_lexer.proofs.tokens.token_after.Goals as goal

pub overflow_add-result : goal.overflow_add-result
overflow_add-result c =
    let a = c.args in
    let byte_at = c.byte_at in
    let inside = call-inside a.edition.number a.s.now a.t byte_at.result byte_at.ensures c.if-t-byte_at.true in
    record { fits = omega (arith, inside) }

pub returns-then-t-byte_at : goal.returns-then-t-byte_at
returns-then-t-byte_at c =
    let a = c.args in
    let byte_at = c.byte_at in
    after_call a.edition.number a.s.now a.t byte_at.result byte_at.ensures c.if-t-byte_at.true

pub returns : goal.returns
returns c =
    let a = c.args in
    let byte_at = c.byte_at in
    let if1 = c.if-t-byte_at in
    c.token_at.ensures ∙ after-other a.edition.number a.s.now a.t byte_at.result byte_at.ensures if1.false
