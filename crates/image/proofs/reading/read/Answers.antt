-- `read` meets its contract: a first pass says whether there is an image and how long what is
-- written is, a second one writes it.
use mathlib.Core.Path.{ap, ◌∙◌}
use lib.ListN.{length}
use native.Mathlib.Omega.{arith}
use Rattle.edition.specs.Outcomes.{image_malformed, room_too_small}
use Rattle.image_format.specs.Writing.{content_of}
use Rattle.image.specs.Copy.{copying, read_of}
use Rattle.image.proofs.Copies.{copied-malformed, copied-no-room, copied-written, nothing_lent}
use Rattle.image.proofs.reading.read.Goals as goal

pub returns-in_default : goal.returns-in_default
unfolding read_of
returns-in_default c =
    let first = c.pass in
    let room = c.args.content.now in
    ap (copying image_malformed 0) (nothing_lent first.new.words room first.auto.words)
    ∙ copied-malformed content_of _ _ _ _ first.ensures room c.in_default.is

pub returns-then-content-words : goal.returns-then-content-words
unfolding read_of
returns-then-content-words c =
    let first = c.pass in
    let room = c.args.content.now in
    let e = nothing_lent first.new.words room first.auto.words in
    ap (copying room_too_small 0) e
    ∙ copied-no-room content_of _ _ _ _ first.ensures room _ c.in-Some.is
    (omega (arith, ap length e, c.if-content-words.true))

pub returns : goal.returns
unfolding read_of
returns c =
    let first = c.pass in
    let room = c.args.content.now in
    let e = nothing_lent first.new.words room first.auto.words in
    copied-written content_of _ _ _ _ first.ensures room _ c.in-Some.is
    (omega (arith, ap length e, c.if-content-words.false)) _ _
    (rw e at c.pass-2.ensures)
