-- `find_from` meets its contract: no start below s has a match, if the table is sealed.
use Prim.Native.Nat.{ℕ, ◌<◌}
use mathlib.Core.Path.{◌≡◌}
use Rattle.ere_table.specs.Wiring.{Sealed}
use Rattle.ere_search.specs.Walk.{longest_of}
use Rattle.ere_search.proofs.search.find_from.Given as goal

abbrev pub invariant-loop-s : goal.invariant-loop-s
invariant-loop-s l = (k : ℕ) → k < l.s → Sealed l.t → longest_of l.t l.rest l.at l.least k ≡ 0
