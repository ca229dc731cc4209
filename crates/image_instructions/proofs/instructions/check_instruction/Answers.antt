-- `check_instruction` meets its contract: each test answers a clause.
use lib.ListN.{get_or}
use Rattle.lists.proofs.Tests.{was-false, was-true}
use Rattle.image_instructions.proofs.Clauses.{depth_small, judged-as}
use native.Mathlib.Omega.{arith}
use borrow.Author.Tests.{le-leb, lt-leb}
use mathlib.Core.Path.{refl, sym, ◌∙◌}
use Rattle.image_instructions.proofs.instructions.check_instruction.Goals as goal
use mathlib.Core.Path.{ap}
use mathlib.Core.Bool.{not}

pub returns-then-not-known_code : goal.returns-then-not-known_code
returns-then-not-known_code c =
    judged-as _ _ _ _ _ c.instruction-j.ensures refl refl (was-false (ap not c.if-not-known_code.true) c.known_code.ensures) refl refl refl refl refl refl

pub returns-then-not-exists : goal.returns-then-not-exists
returns-then-not-exists c =
    let known = was-true (ap not c.if-not-known_code.false) c.known_code.ensures in
    judged-as _ _ _ _ _ c.instruction-j.ensures c.row-row.ensures refl known (was-false (ap not c.if-not-exists.true) c.exists.ensures) refl refl refl refl refl

pub returns-then-not-exists-2 : goal.returns-then-not-exists-2
returns-then-not-exists-2 c =
    let known = was-true (ap not c.if-not-known_code.false) c.known_code.ensures in
    let first = was-true (ap not c.if-not-exists.false) c.exists.ensures in
    judged-as _ _ _ _ _ c.instruction-j.ensures c.row-row.ensures refl known first (was-false (ap not c.if-not-exists-2.true) c.exists-2.ensures) refl refl refl refl

pub returns-then-not-check_position : goal.returns-then-not-check_position
returns-then-not-check_position c =
    let known = was-true (ap not c.if-not-known_code.false) c.known_code.ensures in
    let first = was-true (ap not c.if-not-exists.false) c.exists.ensures in
    let second = was-true (ap not c.if-not-exists-2.false) c.exists-2.ensures in
    judged-as _ _ _ _ _ c.instruction-j.ensures c.row-row.ensures refl known first second (was-false (ap not c.if-not-check_position.true) c.check_position.ensures) refl refl refl

pub returns-then-j-taken : goal.returns-then-j-taken
returns-then-j-taken c =
    let known = was-true (ap not c.if-not-known_code.false) c.known_code.ensures in
    let first = was-true (ap not c.if-not-exists.false) c.exists.ensures in
    let second = was-true (ap not c.if-not-exists-2.false) c.exists-2.ensures in
    let placed = was-true (ap not c.if-not-check_position.false) c.check_position.ensures in
    judged-as _ _ _ _ _ c.instruction-j.ensures c.row-row.ensures c.pops-taken.ensures known first second placed
    (sym (lt-leb c.pops-taken.result c.instruction-j.result.depth c.if-j-taken.true)) refl refl

pub overflow_add-after : goal.overflow_add-after
overflow_add-after c =
    let a = c.args in
    omega (arith, depth_small (get_or a.index.now a.n 0) c.instruction-j.ensures)

pub returns-then-check_successors : goal.returns-then-check_successors
returns-then-check_successors c =
    let known = was-true (ap not c.if-not-known_code.false) c.known_code.ensures in
    let first = was-true (ap not c.if-not-exists.false) c.exists.ensures in
    let second = was-true (ap not c.if-not-exists-2.false) c.exists-2.ensures in
    let placed = was-true (ap not c.if-not-check_position.false) c.check_position.ensures in
    judged-as _ _ _ _ _ c.instruction-j.ensures c.row-row.ensures c.pops-taken.ensures known first second placed
    (sym (le-leb c.pops-taken.result c.instruction-j.result.depth c.if-j-taken.false)) (sym c.if-check_successors.true ∙ c.check_successors.ensures) c.allowed.ensures

pub returns-else-check_successors : goal.returns-else-check_successors
returns-else-check_successors c =
    let known = was-true (ap not c.if-not-known_code.false) c.known_code.ensures in
    let first = was-true (ap not c.if-not-exists.false) c.exists.ensures in
    let second = was-true (ap not c.if-not-exists-2.false) c.exists-2.ensures in
    let placed = was-true (ap not c.if-not-check_position.false) c.check_position.ensures in
    c.if-check_successors.false ∙ judged-as _ _ _ _ _ c.instruction-j.ensures c.row-row.ensures c.pops-taken.ensures known first second placed
    (sym (le-leb c.pops-taken.result c.instruction-j.result.depth c.if-j-taken.false)) (sym c.if-check_successors.false ∙ c.check_successors.ensures) refl
