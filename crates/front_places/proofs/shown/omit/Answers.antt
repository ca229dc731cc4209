-- `omit` meets its contract, by its test.
use native.Mathlib.Omega.{arith}
use Prim.Native.Nat.{◌+◌}
use borrow.Author.Tests.{le-leb, lt-leb}
use Rattle.front_places.specs.Shown.{COLUMNS, columns_of, omitted}
use Rattle.front_places.proofs.shown.omit.Goals as goal

pub overflow_add-all : goal.overflow_add-all
overflow_add-all c = omega arith

pub returns-then-all-columns-le-COLUMNS : goal.returns-then-all-columns-le-COLUMNS
unfolding omitted
returns-then-all-columns-le-COLUMNS c =
    let a = c.args in
    let e = le-leb (columns_of a.before.now + columns_of a.behind.now) COLUMNS
    (omega (arith, c.columns-all.ensures.0, c.columns.ensures.0, c.if-all-columns-le-COLUMNS.true)) in
    (simp e, omega arith)

pub returns : goal.returns
unfolding omitted
returns c =
    let a = c.args in
    let e = lt-leb (columns_of a.before.now + columns_of a.behind.now) COLUMNS
    (omega (arith, c.columns-all.ensures.0, c.columns.ensures.0, c.if-all-columns-le-COLUMNS.false)) in
    (simp e c.left_out.ensures.0, c.left_out.ensures.1)
