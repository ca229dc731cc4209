-- `fill_pool` meets its contract. The loop's invariant: the pool is filled for the first k slots.
use mathlib.Core.Path.{◌≡◌}
use mathlib.Core.List.{List}
use Prim.Native.Nat.{ℕ, ◌-◌, ◌≤◌}
use lib.ListN.{length}
use Rattle.run_image.specs.Table.{Readable}
use Rattle.run_automata.specs.Automata.{pool_slots, Filled}
use Rattle.run_automata.proofs.automata.fill_pool.Given as goal

abbrev pub invariant-loop-k : goal.invariant-loop-k
invariant-loop-k l =
    (l.k ≤ pool_slots) × (length l.table ≡ length l.initial.table) × (length l.pool ≡ length l.initial.pool)
    × ((xs : List (List ℕ)) → Readable l.edition.number l.image l.index xs → Filled l.edition.number xs l.pool l.k)
