-- `string_entry`: by the place after the closing quote.
use mathlib.Core.Path.{sym, ◌∙◌}
use native.Mathlib.Omega.{arith}
use Rattle.program_entries.proofs.Strings.{string-closed, string-stands, string-open}
use Rattle.program_entries.proofs.entries.string_entry.Goals as goal

pub returns-in_default : goal.returns-in_default
returns-in_default c =
    let a = c.args in
    string-open a.s.now a.at c.requires.0 c.requires.1
    (sym c.string_close.ensures ∙ c.in_default.is)

pub overflow_sub-result : goal.overflow_sub-result
overflow_sub-result c =
    let string-close = c.string_close in
    let a = c.args in
    let q = string-closed a.s.now a.at c.in-Some.end (sym string-close.ensures ∙ c.in-Some.is) in
    omega (arith, q.0)

pub returns : goal.returns
returns c =
    let a = c.args in
    string-stands a.s.now a.at c.requires.0 c.requires.1 c.in-Some.end
    (sym c.string_close.ensures ∙ c.in-Some.is)
