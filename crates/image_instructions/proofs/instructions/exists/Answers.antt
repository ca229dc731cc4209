-- `exists` meets its contract, by its tests.
use mathlib.Core.Path.{sym}
use borrow.Author.Tests.{eq-eqb, ne_eqb, lt-ltb, le-ltb}
use Rattle.image_instructions.proofs.instructions.exists.Goals as goal

pub returns-then-names-eq-CONSTANT : goal.returns-then-names-eq-CONSTANT
returns-then-names-eq-CONSTANT c =
    let k = c.args.names in
    rw (eq-eqb k 1 c.if-names-eq-CONSTANT.true)

pub returns-then-names-eq-VARIABLE : goal.returns-then-names-eq-VARIABLE
returns-then-names-eq-VARIABLE c =
    let k = c.args.names in
    rw (ne_eqb k 1 c.if-names-eq-CONSTANT.false, eq-eqb k 2 c.if-names-eq-VARIABLE.true, c.variables.ensures)

pub returns-then-names-eq-ERE : goal.returns-then-names-eq-ERE
returns-then-names-eq-ERE c =
    let k = c.args.names in
    rw (ne_eqb k 1 c.if-names-eq-CONSTANT.false, ne_eqb k 2 c.if-names-eq-VARIABLE.false, eq-eqb k 3 c.if-names-eq-ERE.true)

pub returns-then-names-eq-INSTRUCTION : goal.returns-then-names-eq-INSTRUCTION
returns-then-names-eq-INSTRUCTION c =
    let k = c.args.names in
    rw (ne_eqb k 1 c.if-names-eq-CONSTANT.false, ne_eqb k 2 c.if-names-eq-VARIABLE.false, ne_eqb k 3 c.if-names-eq-ERE.false, eq-eqb k 4 c.if-names-eq-INSTRUCTION.true)

pub returns-then-names-eq-COUNT : goal.returns-then-names-eq-COUNT
returns-then-names-eq-COUNT c =
    let k = c.args.names in
    rw (ne_eqb k 1 c.if-names-eq-CONSTANT.false, ne_eqb k 2 c.if-names-eq-VARIABLE.false, ne_eqb k 3 c.if-names-eq-ERE.false, ne_eqb k 4 c.if-names-eq-INSTRUCTION.false, eq-eqb k 5 c.if-names-eq-COUNT.true)

pub returns-then-v-variables : goal.returns-then-v-variables
returns-then-v-variables c =
    let a = c.args in
    let k = a.names in
    let v = a.v in
    let n = c.variables-then-names-eq-ASSIGNABLE.result in
    rw (
      ne_eqb k 1 c.if-names-eq-CONSTANT.false,
      ne_eqb k 2 c.if-names-eq-VARIABLE.false,
      ne_eqb k 3 c.if-names-eq-ERE.false,
      ne_eqb k 4 c.if-names-eq-INSTRUCTION.false,
      ne_eqb k 5 c.if-names-eq-COUNT.false,
      eq-eqb k 6 c.if-names-eq-ASSIGNABLE.true,
      sym c.variables-then-names-eq-ASSIGNABLE.ensures,
      lt-ltb v n c.if-v-variables.true,
    )
    c.assignable.ensures

pub returns-else-v-variables : goal.returns-else-v-variables
returns-else-v-variables c =
    let a = c.args in
    let k = a.names in
    let v = a.v in
    let n = c.variables-then-names-eq-ASSIGNABLE.result in
    rw (
      ne_eqb k 1 c.if-names-eq-CONSTANT.false,
      ne_eqb k 2 c.if-names-eq-VARIABLE.false,
      ne_eqb k 3 c.if-names-eq-ERE.false,
      ne_eqb k 4 c.if-names-eq-INSTRUCTION.false,
      ne_eqb k 5 c.if-names-eq-COUNT.false,
      eq-eqb k 6 c.if-names-eq-ASSIGNABLE.true,
      sym c.variables-then-names-eq-ASSIGNABLE.ensures,
      le-ltb v n c.if-v-variables.false,
    )

pub returns : goal.returns
returns c =
    let k = c.args.names in
    rw (
      ne_eqb k 1 c.if-names-eq-CONSTANT.false,
      ne_eqb k 2 c.if-names-eq-VARIABLE.false,
      ne_eqb k 3 c.if-names-eq-ERE.false,
      ne_eqb k 4 c.if-names-eq-INSTRUCTION.false,
      ne_eqb k 5 c.if-names-eq-COUNT.false,
      ne_eqb k 6 c.if-names-eq-ASSIGNABLE.false,
    )
