-- `open_after`: each kind by its case.
use mathlib.Core.Path.{sym, ◌∙◌}
use borrow.Author.Tests.{eq-eqb, ne_eqb, le-leb, lt-leb}
use Rattle.program_entries.proofs.Walking.{opens}
use Rattle.program_entries.proofs.variables.open_after.Goals as goal

pub returns-then-parens-eq0 : goal.returns-then-parens-eq0
returns-then-parens-eq0 c =
    let a = c.args in
    sym (opens a.kind c.requires.0 a.parens ∙ rw (c.in-38.is, eq-eqb _ 0 c.if-parens-eq0.true))

pub returns-then-parens-le2 : goal.returns-then-parens-le2
returns-then-parens-le2 c =
    let a = c.args in
    sym (opens a.kind c.requires.0 a.parens ∙ rw (c.in-39.is, le-leb _ 2 c.if-parens-le2.true))

pub returns-in-13 : goal.returns-in-13
returns-in-13 c =
    let a = c.args in
    sym (opens a.kind c.requires.0 a.parens ∙ rw c.in-13.is)

pub returns-in-15 : goal.returns-in-15
returns-in-15 c =
    let a = c.args in
    sym (opens a.kind c.requires.0 a.parens ∙ rw c.in-15.is)

pub returns-else-parens-eq0 : goal.returns-else-parens-eq0
returns-else-parens-eq0 c =
    let a = c.args in
    sym (opens a.kind c.requires.0 a.parens ∙ rw (c.in-38.is, ne_eqb _ 0 c.if-parens-eq0.false))

pub returns-else-parens-le2 : goal.returns-else-parens-le2
returns-else-parens-le2 c =
    let a = c.args in
    sym (opens a.kind c.requires.0 a.parens ∙ rw (c.in-39.is, lt-leb _ 2 c.if-parens-le2.false))

pub returns-in_default : goal.returns-in_default
returns-in_default c =
    let a = c.args in
    let other = c.in_default.in_default-own.rest in
    sym (opens a.kind c.requires.0 a.parens
    ∙ rw (
      ne_eqb _ 13 other.0.0.0.1,
      ne_eqb _ 15 other.0.0.1,
      ne_eqb _ 38 other.0.1,
      ne_eqb _ 39 other.1,
    ))
