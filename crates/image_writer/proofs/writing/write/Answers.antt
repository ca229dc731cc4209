-- `write` meets its contract: a first pass says whether there is an image and how long what is
-- written is, a second one writes it.
use mathlib.Core.Path.{ap, ◌∙◌}
use lib.ListN.{length}
use native.Mathlib.Omega.{arith}
use Rattle.edition.specs.Outcomes.{image_malformed, room_too_small}
use Rattle.image_format.specs.Writing.{bytes_of}
use Rattle.image.specs.Copy.{copying, written_of}
use Rattle.image.proofs.Copies.{copied-malformed, copied-no-room, copied-written, nothing_lent}
use Rattle.image_writer.proofs.writing.write.Goals as goal

pub returns-in_default : goal.returns-in_default
unfolding written_of
returns-in_default c =
    let first = c.pass in
    let room = c.args.image.now in
    ap (copying image_malformed 0) (nothing_lent first.new.bytes room first.auto.bytes)
    ∙ copied-malformed bytes_of _ _ _ _ first.ensures room c.in_default.is

pub returns-then-image-bytes : goal.returns-then-image-bytes
unfolding written_of
returns-then-image-bytes c =
    let first = c.pass in
    let room = c.args.image.now in
    let e = nothing_lent first.new.bytes room first.auto.bytes in
    ap (copying room_too_small 0) e
    ∙ copied-no-room bytes_of _ _ _ _ first.ensures room _ c.in-Some.is
    (omega (arith, ap length e, c.if-image-bytes.true))

pub returns : goal.returns
unfolding written_of
returns c =
    let first = c.pass in
    let room = c.args.image.now in
    let e = nothing_lent first.new.bytes room first.auto.bytes in
    copied-written bytes_of _ _ _ _ first.ensures room _ c.in-Some.is
    (omega (arith, ap length e, c.if-image-bytes.false)) _ _
    (rw e at c.pass-2.ensures)
