-- `code_told` meets its contract, by whether the code is one of the table's.
use mathlib.Core.Path.{sym, ap, ◌∙◌}
use mathlib.Core.Bool.{not}
use native.Mathlib.Omega.{arith}
use borrow.Author.Tests.{not-true, not-false}
use Rattle.opcodes.proofs.Naming.{names-few}
use Rattle.std.specs.Prelude.{Some}
use Rattle.image_stages.proofs.stages.code_told.Goals as goal

pub overflow_add-operands : goal.overflow_add-operands
overflow_add-operands c =
    let a = c.args in
    omega (arith, c.operands.ensures, names-few a.s.edition a.v)

pub returns-then-not-known_code : goal.returns-then-not-known_code
returns-then-not-known_code c = rw (sym c.known_code.ensures ∙ not-true _ (ap not c.if-not-known_code.true))

pub returns : goal.returns
returns c =
    rw (sym c.known_code.ensures ∙ not-false _ (ap not c.if-not-known_code.false))
    (rw (sym c.operands.ensures) (ap Some c.with_units.ensures))
