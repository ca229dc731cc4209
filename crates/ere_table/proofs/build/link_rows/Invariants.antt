-- `link_rows` meets its contract: i rows are linked.
use mathlib.Core.Path.{◌≡◌}
use Rattle.ere_table.specs.Build.{link_rows}
use Rattle.ere_table.proofs.build.link_rows.Given as goal

abbrev pub invariant-loop-i : goal.invariant-loop-i
invariant-loop-i l = l.t ≡ link_rows l.initial.t l.r l.i l.y
