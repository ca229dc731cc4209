-- `load` meets its contract: each list starts where the one before it ends, and what is refused is no accepted image.
use mathlib.Core.Path.{sym}
use Rattle.image_check.proofs.Deciding.{long-refused}
use Rattle.image_items.proofs.Standing.{never}
use Rattle.image_loader.proofs.Walking.{no-constants, no-eres, image-loaded}
use Rattle.image_loader.proofs.loading.load.Goals as goal

pub returns-then-image-ge-IMAGE_BYTES : goal.returns-then-image-ge-IMAGE_BYTES
returns-then-image-ge-IMAGE_BYTES c = λ i r k. never (sym ((long-refused c.args.image.now c.if-image-ge-IMAGE_BYTES.true).judged i r)) k

pub returns-in_default : goal.returns-in_default
returns-in_default c = λ i r k. absurd (c.in_default.ensures i r)

pub list_at-requires : goal.list_at-requires
list_at-requires c = (c.in-Some.ensures.inside, c.if-image-ge-IMAGE_BYTES.false)

pub returns-in_default-list_at : goal.returns-in_default-list_at
returns-in_default-list_at c = no-constants c.args.image.now _ c.in-Some.ensures c.list_at.new.index c.in_default-list_at.ensures _ _

pub list_at-requires-2 : goal.list_at-requires-2
list_at-requires-2 c = (c.in-Some-list_at.ensures.1.inside, c.if-image-ge-IMAGE_BYTES.false)

pub returns-in_default-list_at-2 : goal.returns-in_default-list_at-2
returns-in_default-list_at-2 c =
    no-eres c.args.image.now _ c.in-Some.ensures _ _ c.in-Some-list_at.ensures c.list_at-2.new.index c.in_default-list_at-2.ensures _ _

pub sections-s-requires : goal.sections-s-requires
sections-s-requires c = (c.in-Some-list_at-2.ensures.1.inside, c.if-image-ge-IMAGE_BYTES.false)

pub returns : goal.returns
returns c =
    image-loaded c.args.image.now _ c.in-Some.ensures _ _ c.in-Some-list_at.ensures _ _ c.in-Some-list_at-2.ensures _ _ _ _
    c.sections-s.ensures
