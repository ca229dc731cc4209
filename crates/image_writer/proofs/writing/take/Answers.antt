-- `take` meets its contract: at each stage a word comes, up to a bound.
use mathlib.Core.Path.{◌∙◌}
use native.Mathlib.Omega.{arith}
use lib.ListN.{drop}
use Rattle.image_stages.specs.Stages.{most_at}
use Rattle.image.proofs.Stage.{up-taken, up-over, up-out, words-at}
use Rattle.image_writer.proofs.writing.take.Goals as goal

pub returns-then-content-at : goal.returns-then-content-at
returns-then-content-at c =
    let a = c.args in
    let l = a.content.now in
    words-at a.stage (drop a.at l) ∙ up-out l a.at (most_at a.stage) c.if-content-at.true

pub returns-then-most-w : goal.returns-then-most-w
returns-then-most-w c =
    let a = c.args in
    let l = a.content.now in
    let inside = c.if-content-at.false in
    words-at a.stage (drop a.at l)
    ∙ up-over l a.at (most_at a.stage) inside (omega (arith, c.most.ensures, c.if-most-w.true))

pub returns : goal.returns
returns c =
    let a = c.args in
    let l = a.content.now in
    let inside = c.if-content-at.false in (
      words-at a.stage (drop a.at l)
          ∙ up-taken l a.at (most_at a.stage) inside (omega (arith, c.most.ensures, c.if-most-w.false)),
      omega arith,
      omega (arith, inside),
    )
