-- `read_bracket` meets its contract.
use mathlib.Core.Path.{sym, ◌∙◌}
use mathlib.Core.List.{[]}
use native.Mathlib.Omega.{arith}
use Rattle.std.specs.Prelude.{Some, None}
use Rattle.ere_member.proofs.Reading.{begins-inside}
use Rattle.ere_bracket.proofs.Answers.{answer-plain, answer-other}
use Rattle.ere_bracket.proofs.brackets.read_bracket.Goals as goal

pub overflow_add-at : goal.overflow_add-at
overflow_add-at c =
    let a = c.args in
    omega (arith, begins-inside a.ere.now a.at _ (sym c.if-stands.true ∙ c.stands.ensures))

pub returns-in_err-items : goal.returns-in_err-items
returns-in_err-items c =
    let a = c.args in
    let e = sym c.if-stands.true ∙ c.stands.ensures in
    rw c.from_residual.ensures (answer-other a.ere.now a.at e None [] c.in_err-items.ensures tt)

pub returns-then-stands : goal.returns-then-stands
returns-then-stands c =
    let a = c.args in
    let e = sym c.if-stands.true ∙ c.stands.ensures in
    answer-other a.ere.now a.at e (Some c.in_ok-items.items) c.flipped-words.result c.in_ok-items.ensures c.flipped-words.ensures

pub returns : goal.returns
returns c =
    let a = c.args in
    answer-plain a.ere.now a.at _ c.read_items-2.ensures (sym c.if-stands.false ∙ c.stands.ensures)
