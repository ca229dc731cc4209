-- `reach` meets its contract: a match starts in one of two rows.
use mathlib.Core.Path.{ap₂, ◌∙◌}
use Rattle.ere_table.specs.Table.{join}
use Rattle.ere_classes.proofs.Reaching.{reached}
use Rattle.ere_classes.proofs.reach.reach.Goals as goal

pub returns : goal.returns
returns c =
    let start = c.union-start.ensures ∙ ap₂ join c.set_at.ensures c.set_at-2.ensures in
    rw c.unwrap_or.ensures (reached c.args.t.now c.args.bytes.now c.args.k c.reach_from.result (rw start at c.reach_from.ensures))
