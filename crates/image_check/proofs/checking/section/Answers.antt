-- `section` meets its contract: a list that fits, judged by its index.
use mathlib.Core.Path.{ap}
use mathlib.Core.Bool.{not}
use native.Mathlib.Omega.{arith}
use borrow.Author.Tests.{not-true, not-false}
use Rattle.image_check.proofs.Deciding.{section-unfit, section-failed, section-passed}
use Rattle.image_check.proofs.checking.section.Goals as goal

pub returns-in_err-s : goal.returns-in_err-s
returns-in_err-s c =
    let a = c.args in
    rw c.from_residual.ensures (section-unfit a.context a.image.now a.at c.list_at.new.index c.in_err-s.ensures)

pub check_instructions-requires : goal.check_instructions-requires
check_instructions-requires c =
    let f = c.in_ok-s.ensures in
    (omega (arith, f.2, f.3.few, c.requires.2, c.list_at.auto.index), c.requires.3)

pub returns-then-not-check_instructions : goal.returns-then-not-check_instructions
returns-then-not-check_instructions c =
    let a = c.args in
    section-failed a.context a.image.now a.at _ _ c.in_ok-s.ensures _ c.check_instructions.ensures
    (not-true _ (ap not c.if-not-check_instructions.true))

pub returns : goal.returns
returns c =
    let a = c.args in
    section-passed a.context a.image.now a.at _ _ c.in_ok-s.ensures _ c.check_instructions.ensures
    (not-false _ (ap not c.if-not-check_instructions.false))
