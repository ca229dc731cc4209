use mathlib.Core.Path.{◌≡◌}
use Prim.Native.Nat.{ℕ, suc, ◌+◌}
use native.Mathlib.Omega.{arith}
use borrow.Author.Rules.{rules}
use Rattle.program_emitter.proofs.runs.emit_both.Goals as goal

pub returns : goal.returns
returns c =
    let n : ℕ = c.args.n in
    let n2 : n + 2 ≡ suc (suc (n)) = omega arith in
    let n3 : n + 3 ≡ suc (suc (suc (n))) = omega arith in
    (search rules, cc (n2, n3))
