use mathlib.Core.Path.{sym, subst}
use Rattle.ere_sets.specs.Growth.{Put}
use Rattle.ere_sets.proofs.Grown.{put_is}
use Rattle.ere_sets.proofs.sets.put.Goals as goal

pub returns : goal.returns
returns c =
    subst (Put c.args.sets.now c.args.i c.args.s) (sym c.put_three.ensures) (put_is c.args.sets.now c.args.i c.args.s c.requires c.well_formed.1.1.0.1.0.1)
