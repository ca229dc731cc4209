-- A group and its turns: each kind of turn is a move, and the loop keeps what holds.
use mathlib.Core.Path.{◌≡◌}
use Prim.Native.Nat.{◌+◌, ◌*◌, ◌-◌}
use lib.ListN.{length}
use Rattle.ere_table.specs.Table.{table_words}
use Rattle.ere_parser.specs.Standing.{Under}
use Rattle.ere_parser.proofs.reader.+item_read_group.Given as goal

abbrev pub decreases-item : goal.decreases-item
decreases-item l = l.levels * 2

abbrev pub decreases-read_group : goal.decreases-read_group
decreases-read_group l = l.levels * 2 + 1

abbrev pub invariant-read_group-loop-s : goal.invariant-read_group-loop-s
invariant-read_group-loop-s l =
    (length l.t ≡ table_words) × Under l.ere l.levels l.at l.lo l.count l.initial.t l.t l.s

abbrev pub decreases-read_group-loop-s : goal.decreases-read_group-loop-s
decreases-read_group-loop-s l = length l.ere - l.s.at
