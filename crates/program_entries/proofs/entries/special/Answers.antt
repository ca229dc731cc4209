-- `special`: by the length, and the first two bytes.
use mathlib.Core.Path.{sym, ◌∙◌}
use native.Mathlib.Omega.{arith}
use borrow.Author.Tests.{eq-eqb, ne_eqb}
use Rattle.program_entries.proofs.SpecialNames.{special-long, special-by}
use Rattle.program_entries.proofs.entries.special.Goals as goal

pub bounds-s-a : goal.bounds-s-a
bounds-s-a c =
    let a = c.args in
    omega (arith, special-long a.s.now a.a a.n c.requires, c.requires.inside)

pub returns-then-s-a-eq70 : goal.returns-then-s-a-eq70
returns-then-s-a-eq70 c =
    let a = c.args in
    sym (special-by a.s.now a.a a.n c.requires
    ∙ rw (c.in-2.is, eq-eqb _ 70 c.if-s-a-eq70.true))

pub returns-then-second-eq70 : goal.returns-then-second-eq70
returns-then-second-eq70 c =
    let a = c.args in
    sym (special-by a.s.now a.a a.n c.requires
    ∙ rw (c.in-2.is, ne_eqb _ 70 c.if-s-a-eq70.false, eq-eqb _ 70 c.if-second-eq70.true))

pub returns-then-second-eq70-2 : goal.returns-then-second-eq70-2
returns-then-second-eq70-2 c =
    let a = c.args in
    sym (special-by a.s.now a.a a.n c.requires
    ∙ rw (c.in-3.is, eq-eqb _ 70 c.if-second-eq70-2.true))

pub returns-else-second-eq70 : goal.returns-else-second-eq70
returns-else-second-eq70 c =
    let a = c.args in
    sym (special-by a.s.now a.a a.n c.requires
    ∙ rw (c.in-2.is, ne_eqb _ 70 c.if-s-a-eq70.false, ne_eqb _ 70 c.if-second-eq70.false))

pub returns-else-second-eq70-2 : goal.returns-else-second-eq70-2
returns-else-second-eq70-2 c =
    let a = c.args in
    sym (special-by a.s.now a.a a.n c.requires
    ∙ rw (c.in-3.is, ne_eqb _ 70 c.if-second-eq70-2.false))

pub returns-in-6 : goal.returns-in-6
returns-in-6 c =
    let a = c.args in
    sym (special-by a.s.now a.a a.n c.requires ∙ rw c.in-6.is)

pub returns-in_default : goal.returns-in_default
returns-in_default c =
    let a = c.args in
    let other = c.in_default.in_default-own.rest in
    sym (special-by a.s.now a.a a.n c.requires
    ∙ rw (ne_eqb _ 2 other.0.0.1, ne_eqb _ 3 other.0.1, ne_eqb _ 6 other.1))
