-- `passes` meets its contract: each list starts where the one before it ends.
use native.Mathlib.Omega.{arith}
use Rattle.image_check.proofs.Deciding.{header_refused, users-refused, constants-refused, eres-refused, image-judged}
use Rattle.image_check.proofs.checking.passes.Goals as goal

pub returns-in_default : goal.returns-in_default
returns-in_default c = header_refused c.args.image.now c.in_default.ensures

pub returns-then-h : goal.returns-then-h
returns-then-h c = users-refused c.args.image.now _ c.in-Some.ensures (omega (arith, c.if-h.true))

pub returns-in_default-list_at : goal.returns-in_default-list_at
returns-in_default-list_at c =
    constants-refused c.args.image.now _ c.in-Some.ensures c.list_at.new.index c.in_default-list_at.ensures

pub returns-in_default-list_at-2 : goal.returns-in_default-list_at-2
returns-in_default-list_at-2 c =
    eres-refused c.args.image.now _ c.in-Some.ensures c.list_at.new.index _ c.in-Some-list_at.ensures c.list_at-2.new.index
    c.in_default-list_at-2.ensures

pub returns : goal.returns
returns c =
    image-judged c.args.image.now _ c.in-Some.ensures c.list_at.new.index _ c.in-Some-list_at.ensures c.list_at-2.new.index _
    c.in-Some-list_at-2.ensures _ c.sections.ensures (omega (arith, c.if-h.false))
