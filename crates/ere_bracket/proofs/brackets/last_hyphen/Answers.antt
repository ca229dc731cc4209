-- `last_hyphen` meets its contract.
use mathlib.Core.Path.{sym, ◌∙◌}
use native.Mathlib.Omega.{arith}
use Rattle.ere_member.proofs.Reading.{begins-inside}
use Rattle.ere_bracket.proofs.Steps.{refuses, closes, hyphen-last, hyphen-bad}
use Rattle.ere_bracket.proofs.brackets.last_hyphen.Goals as goal

pub returns-then-not-stands : goal.returns-then-not-stands
returns-then-not-stands c =
    let a = c.args in
    refuses _ _ (hyphen-bad _ a.ere.now a.at (sym c.if-not-stands.true ∙ c.stands.ensures))

pub overflow_add-result : goal.overflow_add-result
overflow_add-result c =
    let a = c.args in
    omega (arith, begins-inside a.ere.now a.at _ (sym c.if-not-stands.false ∙ c.stands.ensures))

pub returns : goal.returns
returns c =
    let a = c.args in
    let e = sym c.if-not-stands.false ∙ c.stands.ensures in
    let h = begins-inside a.ere.now a.at _ e in
    closes _ _ _ _ (omega arith, omega arith) (hyphen-last _ a.ere.now a.at _ e c.with_byte-words.ensures)
