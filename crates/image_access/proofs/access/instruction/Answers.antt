-- `instruction` meets its contract: the entry's numbers are those of the definition.
use native.Mathlib.Omega.{arith}
use Rattle.image_access.proofs.access.instruction.Goals as goal

pub overflow_cast-w : goal.overflow_cast-w
overflow_cast-w c = omega (arith, (c.shared_slice_known-1.given c.args.n).fits)
