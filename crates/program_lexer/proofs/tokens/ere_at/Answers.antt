-- `ere_at`: by the place of the slash that ends it, and what is between the slashes.
use mathlib.Core.Path.{sym, ◌∙◌}
use native.Mathlib.Omega.{arith}
use Rattle.program_lexer.proofs.Coding.{ere-bad, ere-good, ere-unread, ere-inside}
use Rattle.program_lexer.proofs.tokens.ere_at.Goals as goal

pub returns-in_default : goal.returns-in_default
returns-in_default c =
    let a = c.args in
    let ere-close = c.ere_close in
    ere-bad a.edition.number a.s.now a.a (sym ere-close.ensures ∙ c.in_default.is)

pub slice_bounds-compile-count : goal.slice_bounds-compile-count
slice_bounds-compile-count c =
    let a = c.args in
    let ere-close = c.ere_close in
    let at = ere-inside a.edition.number a.s.now a.a c.in-Some.end (sym ere-close.ensures ∙ c.in-Some.is) in
    omega (arith, at.0)

pub slice_bounds-compile-start : goal.slice_bounds-compile-start
slice_bounds-compile-start c =
    let a = c.args in
    let ere-close = c.ere_close in
    let at = ere-inside a.edition.number a.s.now a.a c.in-Some.end (sym ere-close.ensures ∙ c.in-Some.is) in
    omega (arith, at.0)

pub slice_bounds-compile-end : goal.slice_bounds-compile-end
slice_bounds-compile-end c =
    let a = c.args in
    let ere-close = c.ere_close in
    let at = ere-inside a.edition.number a.s.now a.a c.in-Some.end (sym ere-close.ensures ∙ c.in-Some.is) in
    omega (arith, at.1)

pub overflow_add-result-then-compile : goal.overflow_add-result-then-compile
overflow_add-result-then-compile c =
    let a = c.args in
    let ere-close = c.ere_close in
    let at = ere-inside a.edition.number a.s.now a.a c.in-Some.end (sym ere-close.ensures ∙ c.in-Some.is) in
    omega (arith, at.1)

pub returns-then-compile : goal.returns-then-compile
returns-then-compile c =
    let compile = c.compile in
    let a = c.args in
    let ere-close = c.ere_close in
    let e = compile.ensures.read c.if-compile.true in
    ere-good a.edition.number a.s.now a.a c.in-Some.end (sym ere-close.ensures ∙ c.in-Some.is) e.0 e.1

pub overflow_add-result-2 : goal.overflow_add-result-2
overflow_add-result-2 c =
    let a = c.args in
    let ere-close = c.ere_close in
    let at = ere-inside a.edition.number a.s.now a.a c.in-Some.end (sym ere-close.ensures ∙ c.in-Some.is) in
    omega (arith, at.1)

pub returns : goal.returns
returns c =
    let a = c.args in
    let ere-close = c.ere_close in
    let compile = c.compile in
    ere-unread a.edition.number a.s.now a.a c.in-Some.end (sym ere-close.ensures ∙ c.in-Some.is)
    (compile.ensures.refused c.if-compile.false)
