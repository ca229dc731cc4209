-- `holds` meets its contract: the tests of the code, for each order.
use mathlib.Core.Path.{sym, ap, ◌∙◌}
use Rattle.run_values.proofs.Orders.{tested, tested-holds}
use Rattle.run_comparison.proofs.comparing.holds.Goals as goal

pub returns-in-Less : goal.returns-in-Less
returns-in-Less c =
    let a = c.args in
    ap (tested a.code) (sym c.in-Less.is) ∙ tested-holds a.code a.o

pub returns-in-Equal : goal.returns-in-Equal
returns-in-Equal c =
    let a = c.args in
    ap (tested a.code) (sym c.in-Equal.is) ∙ tested-holds a.code a.o

pub returns-in-Greater : goal.returns-in-Greater
returns-in-Greater c =
    let a = c.args in
    ap (tested a.code) (sym c.in-Greater.is) ∙ tested-holds a.code a.o
