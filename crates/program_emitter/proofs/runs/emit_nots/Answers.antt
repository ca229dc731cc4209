use mathlib.Core.Path.{◌≡◌}
use Prim.Native.Nat.{ℕ, suc, ◌+◌}
use native.Mathlib.Omega.{arith}
use Rattle.program_emitter.proofs.runs.emit_nots.Goals as goal

pub returns : goal.returns
returns c =
    let n : ℕ = c.args.n in
    let n1 : n + 1 ≡ suc (n) = omega arith in
    cc n1
