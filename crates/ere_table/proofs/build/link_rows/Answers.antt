-- `link_rows` meets its contract: i rows are linked.
use mathlib.Core.Path.{refl}
use Rattle.ere_table.specs.Build.{link_rows}
use Rattle.ere_table.proofs.Rows.{link-more}
use Rattle.ere_table.proofs.build.link_rows.Goals as goal

pub loop-i-init : goal.loop-i-init
unfolding link_rows
loop-i-init c = refl

pub loop-i-preserved : goal.loop-i-preserved
loop-i-preserved c = link-more _ _ _ _ _ _ c.loop-i.invariant c.link_row.ensures
