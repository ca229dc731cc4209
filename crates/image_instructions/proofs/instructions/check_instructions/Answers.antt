-- `check_instructions` meets its contract: what the instructions so far leave to be checked is what the section leaves.
use mathlib.Core.Path.{ap}
use mathlib.Core.Bool.{not}
use Rattle.lists.proofs.Tests.{was-false, was-true}
use Rattle.image_instructions.proofs.Judging.{reached-start, reached-more, reached-fail, reached-end}
use Rattle.image_instructions.proofs.instructions.check_instructions.Goals as goal

pub loop-n-init : goal.loop-n-init
loop-n-init c = reached-start c.args.context c.args.index.now c.args.count

pub returns-then-not-check_instruction : goal.returns-then-not-check_instruction
returns-then-not-check_instruction c =
    let a = c.args in
    reached-fail a.context a.index.now a.count c.loop-n.n c.loop-n.invariant c.loop-n-test.true c.requires.0
    (was-false (ap not c.if-not-check_instruction.true) c.check_instruction.ensures)

pub loop-n-preserved : goal.loop-n-preserved
loop-n-preserved c =
    let a = c.args in
    reached-more a.context a.index.now a.count c.loop-n.n c.loop-n.invariant c.loop-n-test.true c.requires.0
    (was-true (ap not c.if-not-check_instruction.false) c.check_instruction.ensures)

pub returns : goal.returns
returns c = reached-end c.args.context c.args.index.now c.args.count c.loop-n.n c.loop-n.invariant c.loop-n-test.false
