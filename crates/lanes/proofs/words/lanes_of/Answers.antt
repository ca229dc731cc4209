-- `lanes_of` meets its contract: the lanes that are b have no digit that differs from b's.
use Prim.Native.Nat.{ℕ, ◌*◌}
use mathlib.Core.Path.{◌≡◌, ap, ◌∙◌}
use native.Mathlib.Omega.{arith}
use lib.Bits.{bit_xor}
use Rattle.little_endian.specs.Words.{le_bytes}
use Rattle.lanes.specs.Marks.{marks}
use Rattle.lanes.proofs.Lanes.{each, xor-marks}
use Rattle.lanes.proofs.words.lanes_of.Goals as goal

pub returns : goal.returns
returns c =
    let a = c.args in
    let e : a.b * 72340172838076673 ≡ each a.b 8 = omega arith in
    c.zero_lane.ensures
    ∙ ap (λ (y : ℕ). marks 0 (le_bytes 8 (bit_xor a.w y))) e
    ∙ xor-marks a.b 8 a.w (omega arith)
