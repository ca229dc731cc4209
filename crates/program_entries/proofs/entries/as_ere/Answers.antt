-- `as_ere`: a slash up to the one that closes it, or any other token.
use mathlib.Core.Path.{sym, ◌∙◌}
use native.Mathlib.Omega.{arith}
use Rattle.program_lexer.proofs.Coding.{ere-inside}
use Rattle.program_entries.proofs.Spans.{span_same, span-open, span-closed}
use Rattle.program_entries.proofs.entries.as_ere.Goals as goal

pub returns-then-t : goal.returns-then-t
returns-then-t c =
    let a = c.args in
    span_same a.s.now a.t c.requires.0 c.if-t.true

pub returns-in_default : goal.returns-in_default
returns-in_default c =
    let if1 = c.if-t in
    let a = c.args in
    span-open a.s.now a.t if1.false c.requires.0
    (sym c.ere_close.ensures ∙ c.in_default.is)

pub overflow_add-result : goal.overflow_add-result
overflow_add-result c =
    let ere-close = c.ere_close in
    let a = c.args in
    let at = ere-inside 0 a.s.now a.t.start c.in-Some.end (sym ere-close.ensures ∙ c.in-Some.is) in
    omega (arith, at.1)

pub returns : goal.returns
returns c =
    let if1 = c.if-t in
    let ere-close = c.ere_close in
    let a = c.args in
    span-closed a.s.now a.t if1.false c.in-Some.end (sym ere-close.ensures ∙ c.in-Some.is)
