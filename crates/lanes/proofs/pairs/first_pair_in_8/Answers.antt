-- `first_pair_in_8` meets its contract: the lowest mark of either is that of the nearer first place.
use native.Mathlib.Omega.{arith}
use lib.Count.{trailing_le}
use lib.Bits.{bit_or}
use Rattle.buffer.specs.Parts.{part}
use Rattle.buffer.proofs.Parts.{length_part}
use Rattle.lanes.proofs.Lanes.{lowest-of-8, or-lowest}
use Rattle.lanes.proofs.Runs.{leading-pair}
use Rattle.lanes.proofs.pairs.first_pair_in_8.Goals as goal

pub overflow_cast-result : goal.overflow_cast-result
overflow_cast-result c = omega (arith, trailing_le 64 (bit_or c.marks_at.result c.marks_at-2.result))

pub returns : goal.returns
returns c =
    let a = c.args in
    let s = part a.at 8 a.s.now in
    let x = c.marks_at in
    let y = c.marks_at-2 in
    let h = length_part a.at 8 a.s.now c.requires in
    omega (arith, or-lowest 64 x.result y.result, lowest-of-8 a.a s h x.ensures, lowest-of-8 a.b s h y.ensures, leading-pair a.a a.b s)
