-- `passes_all` meets its contract: the tests one after the other, as many as are made.
use Rattle.std.proofs.Common.{arith}
use Rattle.ere_automaton.proofs.Spelling.{two-passed, more-passed, two-tried, five-tried, all-tried}
use Rattle.ere_automaton.proofs.words.passes_all.Goals as goal

pub passes-requires : goal.passes-requires
passes-requires c = let p = c.requires in (p.0, omega arith, omega (arith, p.1 0 (omega arith), p.2))

pub passes-requires-2 : goal.passes-requires-2
passes-requires-2 c = let p = c.requires in (p.0, omega arith, omega (arith, p.1 1 (omega arith), p.2))

pub returns-then-tests-le2 : goal.returns-then-tests-le2
returns-then-tests-le2 c =
    let a = c.args in
    let d = a.d.now in
    let x = a.x.now in
    two-tried d x a.p a.tests c.if-tests-le2.true (two-passed d x a.p c.passes.ensures c.passes-2.ensures)

pub passes-requires-3 : goal.passes-requires-3
passes-requires-3 c = let p = c.requires in (p.0, omega arith, omega (arith, p.1 2 (omega arith), p.2))

pub passes-requires-4 : goal.passes-requires-4
passes-requires-4 c = let p = c.requires in (p.0, omega arith, omega (arith, p.1 3 (omega arith), p.2))

pub passes-requires-5 : goal.passes-requires-5
passes-requires-5 c = let p = c.requires in (p.0, omega arith, omega (arith, p.1 4 (omega arith), p.2))

pub returns-then-tests-le5 : goal.returns-then-tests-le5
returns-then-tests-le5 c =
    let a = c.args in
    let d = a.d.now in
    let x = a.x.now in
    let p = a.p in
    five-tried d x p a.tests c.if-tests-le2.false c.if-tests-le5.true
    (more-passed d x p 4
    (more-passed d x p 3
    (more-passed d x p 2 (two-passed d x p c.passes.ensures c.passes-2.ensures) c.passes-3.ensures)
    c.passes-4.ensures)
    c.passes-5.ensures)

pub passes-requires-6 : goal.passes-requires-6
passes-requires-6 c = let p = c.requires in (p.0, omega arith, omega (arith, p.1 5 (omega arith), p.2))

pub passes-requires-7 : goal.passes-requires-7
passes-requires-7 c = let p = c.requires in (p.0, omega arith, omega (arith, p.1 6 (omega arith), p.2))

pub returns : goal.returns
returns c =
    let a = c.args in
    let d = a.d.now in
    let x = a.x.now in
    let p = a.p in
    all-tried d x p a.tests c.if-tests-le2.false c.if-tests-le5.false
    (more-passed d x p 6
    (more-passed d x p 5
    (more-passed d x p 4
    (more-passed d x p 3
    (more-passed d x p 2 (two-passed d x p c.passes.ensures c.passes-2.ensures) c.passes-3.ensures)
    c.passes-4.ensures)
    c.passes-5.ensures)
    c.passes-6.ensures)
    c.passes-7.ensures)
