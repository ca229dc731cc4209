-- `constant_entry` meets its contract, by whether the constant fits.
use Rattle.image_index.specs.declared.indexes.Kind.TheVariants.{Constants}
use Rattle.image_index.proofs.Entering.{entry-unfit, number-fits, text-fits, text-long}
use Rattle.image_index.proofs.indexes.constant_entry.Goals as goal
use Rattle.image_index.proofs.indexes.constant_entry.Goals.{in-Text+else-t-gt-TEXT, in_default}

pub returns-then-t-gt-TEXT : goal.returns-then-t-gt-TEXT
returns-then-t-gt-TEXT c =
    let a = c.args in
    let y = c.in_ok-c.ensures in
    entry-unfit a.edition Constants a.image.now a.at _ _ y.found
    (text-long a.edition a.image.now _ y.inside _ c.in-Text.is c.if-t-gt-TEXT.true)

pub returns : goal.returns
returns c =
    let a = c.args in
    let y = c.in_ok-c.ensures in (
      _,
      y.found,
      elim c.match-c.branch [
        | in-Text+else-t-gt-TEXT w ↦
            text-fits a.edition a.image.now _ y.inside _ w.in-Text.is w.if-t-gt-TEXT.false
        | in_default w ↦ number-fits a.edition a.image.now _ w.in_default.not-Text
      ],
      (_, y.found),
    )
