use native.Mathlib.Omega.{arith}
use native.Mathlib.Nat.{mul-le-mul_left}
use Rattle.ere_derive.proofs.Driving.{fits_in}
use Rattle.ere_derive.proofs.build.states_in.Goals as goal

pub returns-then-n-lt-MOST_STATES : goal.returns-then-n-lt-MOST_STATES
returns-then-n-lt-MOST_STATES c = (omega arith, fits_in c.args.length c.args.stride c.requires.0)

pub returns-else-n-lt-MOST_STATES : goal.returns-else-n-lt-MOST_STATES
returns-else-n-lt-MOST_STATES c = let z = fits_in c.args.length c.args.stride c.requires.0 in let y = mul-le-mul_left c.args.stride c.if-n-lt-MOST_STATES.false in (omega arith, omega arith)
