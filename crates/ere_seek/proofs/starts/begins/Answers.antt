-- `begins` meets its contract.
use mathlib.Core.Path.{ap}
use mathlib.Core.Bool.{not}
use Prim.Native.Nat.{ℕ}
use native.Mathlib.Omega.{arith}
use lib.Dec.{eqb}
use Rattle.ere_automaton.specs.Layout.{accepted_state}
use Rattle.ere_seek.proofs.starts.begins.Goals as goal

pub overflow_cast-d : goal.overflow_cast-d
overflow_cast-d c = omega (arith, c.shared_slice_known-2-1.given 2)

pub overflow_cast-result : goal.overflow_cast-result
overflow_cast-result c = omega (arith, c.shared_slice_known-3-1.given 3)

pub returns : goal.returns
returns c =
    ap (λ (q : ℕ). not (eqb q (accepted_state c.args.d.now))) c.next.ensures
