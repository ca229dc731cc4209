-- `longest_from` meets its contract: live is the set after n bytes, best the longest match of fewer.
use mathlib.Core.Path.{◌≡◌}
use Rattle.ere_search.specs.Walk.{live_at, longest_to}
use Rattle.ere_search.proofs.search.longest_from.Given as goal

abbrev pub invariant-loop-n : goal.invariant-loop-n
invariant-loop-n l =
    (l.live ≡ live_at l.t l.rest l.at l.s l.n) × (l.best ≡ longest_to l.t l.rest l.at l.least l.s l.n)
