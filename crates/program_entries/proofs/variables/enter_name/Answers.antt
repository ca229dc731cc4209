-- `enter_name`: a name that is there, or a new one.
use native.Mathlib.Omega.{arith}
use Rattle.program_lexer.specs.Coded.{decoded}
use Rattle.program_entries.proofs.Holding.{enter-skips, enter-user, enter-known, enter-new}
use Rattle.program_entries.proofs.variables.enter_name.Goals as goal

pub returns-then-t-table : goal.returns-then-t-table
returns-then-t-table c =
    let a = c.args in
    enter-skips a.s.now a.t a.table.now a.n c.if-t-table.true

pub name_entry-requires : goal.name_entry-requires
name_entry-requires c =
    let a = c.args in
    let u = enter-user a.s.now a.t a.table.now a.n c.if-t-table.false in
    (c.requires.1 u.0, c.requires.2)

pub enter-k-requires : goal.enter-k-requires
enter-k-requires c =
    let a = c.args in
    let u = enter-user a.s.now a.t a.table.now a.n c.if-t-table.false in
    (u.1, c.requires.0 u.1, c.name_entry.ensures.inside)

pub returns-then-k-n : goal.returns-then-k-n
returns-then-k-n c =
    let if1 = c.if-t-table in
    let a = c.args in
    let u = enter-user a.s.now a.t a.table.now a.n if1.false in
    let e = c.name_entry in
    let r = c.enter-k in
    enter-known a.s.now (decoded a.t) a.table.now a.n u.0 u.1 (c.requires.1 u.0) e.result
    e.ensures r.result r.ensures.0 r.new.table r.ensures.1 (omega (arith, c.if-k-n.true))

pub overflow_add-result : goal.overflow_add-result
overflow_add-result c =
    let if1 = c.if-t-table in
    let a = c.args in
    let u = enter-user a.s.now a.t a.table.now a.n if1.false in
    record { fits = omega (arith, u.1) }

pub returns : goal.returns
returns c =
    let if1 = c.if-t-table in
    let a = c.args in
    let u = enter-user a.s.now a.t a.table.now a.n if1.false in
    let e = c.name_entry in
    let r = c.enter-k in
    enter-new a.s.now (decoded a.t) a.table.now a.n u.0 u.1 (c.requires.1 u.0) e.result
    e.ensures r.result r.ensures.0 r.new.table r.ensures.1 (omega (arith, c.if-k-n.false))
