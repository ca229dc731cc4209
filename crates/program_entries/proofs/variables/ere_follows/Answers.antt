-- `ere_follows`: each kind by its case.
use mathlib.Core.Path.{sym, ◌∙◌}
use borrow.Author.Tests.{ne_eqb}
use Rattle.program_entries.proofs.Walking.{follows}
use Rattle.program_entries.proofs.variables.ere_follows.Goals as goal

pub returns-in-4 : goal.returns-in-4
returns-in-4 c =
    let a = c.args in
    sym (follows a.kind c.requires a.parens ∙ rw c.in-4.is)

pub returns-in-5 : goal.returns-in-5
returns-in-5 c =
    let a = c.args in
    sym (follows a.kind c.requires a.parens ∙ rw c.in-5.is)

pub returns-in-6 : goal.returns-in-6
returns-in-6 c =
    let a = c.args in
    sym (follows a.kind c.requires a.parens ∙ rw c.in-6.is)

pub returns-in-7 : goal.returns-in-7
returns-in-7 c =
    let a = c.args in
    sym (follows a.kind c.requires a.parens ∙ rw c.in-7.is)

pub returns-in-8 : goal.returns-in-8
returns-in-8 c =
    let a = c.args in
    sym (follows a.kind c.requires a.parens ∙ rw c.in-8.is)

pub returns-in-9 : goal.returns-in-9
returns-in-9 c =
    let a = c.args in
    sym (follows a.kind c.requires a.parens ∙ rw c.in-9.is)

pub returns-in-39 : goal.returns-in-39
returns-in-39 c =
    let a = c.args in
    sym (follows a.kind c.requires a.parens ∙ rw c.in-39.is)

pub returns-in_default : goal.returns-in_default
returns-in_default c =
    let a = c.args in
    let other = c.in_default.in_default-own.rest in
    sym (follows a.kind c.requires a.parens
    ∙ rw (
      ne_eqb _ 4 other.0.0.0.0.0.0.1,
      ne_eqb _ 5 other.0.0.0.0.0.1,
      ne_eqb _ 6 other.0.0.0.0.1,
      ne_eqb _ 7 other.0.0.0.1,
      ne_eqb _ 8 other.0.0.1,
      ne_eqb _ 9 other.0.1,
      ne_eqb _ 39 other.1,
    ))
