-- The numbers of an instruction come back out of its word.
use mathlib.Core.Path.{◌≡◌}
use Prim.Native.Nat.{ℕ, ◌+◌, ◌*◌, ◌/◌}
use native.Mathlib.Omega.{arith}
use Rattle.program_words.specs.Words.{packed, Fits, op_in, depth_in, first_in, second_in}

module _ (op depth first second : ℕ) (h : Fits op depth first second) where
  pub op-packed : op_in (packed op depth first second) ≡ op
  op-packed = omega (arith, h.op_fits)

  pub depth-packed : depth_in (packed op depth first second) ≡ depth
  depth-packed =
      let m : packed op depth first second / 256 ≡ depth + 65536 * first + 68719476736 * second = omega (arith, h.op_fits) in
      rw m (omega (arith, h.depth_fits))

  pub first-packed : first_in (packed op depth first second) ≡ first
  first-packed =
      let m : packed op depth first second / 16777216 ≡ first + 1048576 * second = omega (arith, h.op_fits, h.depth_fits) in
      rw m (omega (arith, h.first_fits))

  pub second-packed : second_in (packed op depth first second) ≡ second
  second-packed = omega (arith, h.op_fits, h.depth_fits, h.first_fits)
