-- `write_image`: a first pass that only measures, and a second one that writes.
use Rattle.program_writer.proofs.Storing.{nothing_lent, stored-small, stored-done}
use Rattle.program_writer.proofs.writing.write_image.Goals as goal

pub returns-then-image-n : goal.returns-then-image-n
returns-then-image-n c =
    let a = c.args in
    let first = c.put_image-n in
    let e = nothing_lent first.new.room a.image.now first.auto.room in
    stored-small a.image.now a.s.now _ _ _ first.result first.ensures _ e c.if-image-n.true

pub returns : goal.returns
returns c =
    let a = c.args in
    let first = c.put_image-n in
    let e = nothing_lent first.new.room a.image.now first.auto.room in
    let w = c.put_image in
    stored-done a.image.now a.s.now _ _ _ first.result first.ensures _ _ w.result e c.if-image-n.false
    w.ensures
