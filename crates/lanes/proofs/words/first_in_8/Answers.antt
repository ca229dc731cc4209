-- `first_in_8` meets its contract: the lowest mark is in the lane of the first b.
use native.Mathlib.Omega.{arith}
use lib.Count.{trailing_le}
use Rattle.buffer.specs.Parts.{part}
use Rattle.buffer.proofs.Parts.{length_part}
use Rattle.lanes.proofs.Lanes.{lowest-of-8}
use Rattle.lanes.proofs.words.first_in_8.Goals as goal

pub overflow_cast-result : goal.overflow_cast-result
overflow_cast-result c = omega (arith, trailing_le 64 c.marks_at.result)

pub returns : goal.returns
returns c =
    let a = c.args in
    lowest-of-8 a.b (part a.at 8 a.s.now) (length_part a.at 8 a.s.now c.requires) c.marks_at.ensures
