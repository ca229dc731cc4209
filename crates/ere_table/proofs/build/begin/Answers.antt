-- `begin` meets its contract: the classes of the places below p are gathered.
use mathlib.Core.Path.{refl}
use Rattle.ere_table.specs.Build.{begin_to}
use Rattle.ere_table.proofs.Begins.{begin-more}
use Rattle.ere_table.proofs.build.begin.Goals as goal

pub loop-p-init : goal.loop-p-init
unfolding begin_to
loop-p-init c = refl

pub loop-p-preserved : goal.loop-p-preserved
loop-p-preserved c = begin-more _ _ _ _ c.loop-p.invariant c.gather-next.ensures
