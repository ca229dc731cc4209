-- `read_items` meets its contract: the items that are left, with the words so far, come to what all items come to.
use mathlib.Core.Path.{◌≡◌}
use mathlib.Core.Bool.{true}
use Prim.Native.Nat.{◌-◌, ◌≤◌}
use lib.ListN.{length, drop}
use Rattle.ere_byte_set.specs.Words.{no_byte}
use Rattle.ere_bracket.specs.Items.{items_of, worded}
use Rattle.ere_bracket.proofs.brackets.read_items.Given as goal

abbrev pub invariant-loop-at : goal.invariant-loop-at
invariant-loop-at l = (l.from ≤ l.at) × (worded l.words (items_of l.first (drop l.at l.ere)) ≡ worded no_byte (items_of true (drop l.from l.ere)))

abbrev pub decreases-loop-at : goal.decreases-loop-at
decreases-loop-at l = length l.ere - l.at
