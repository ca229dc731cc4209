use mathlib.Core.Path.{◌≡◌}
use Prim.Native.Nat.{ℕ, suc, ◌+◌}
use native.Mathlib.Omega.{arith}
use Rattle.program_emitter.proofs.runs.emit_on_record.Goals as goal

pub returns : goal.returns
returns c =
    let n : ℕ = c.args.n in
    let n1 : n + 1 ≡ suc (n) = omega arith in
    let n2 : n + 2 ≡ suc (suc (n)) = omega arith in
    (omega (arith, c.emit-3.ensures.0), cc (n1, n2))
