-- `begin` meets its contract: the classes of the places below p are gathered.
use mathlib.Core.Path.{◌≡◌}
use Rattle.ere_table.specs.Build.{begin_to}
use Rattle.ere_table.proofs.build.begin.Given as goal

abbrev pub invariant-loop-p : goal.invariant-loop-p
invariant-loop-p l = l.out ≡ begin_to l.t l.p
