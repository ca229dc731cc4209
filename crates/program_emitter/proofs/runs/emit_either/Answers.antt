use mathlib.Core.Path.{◌≡◌}
use Prim.Native.Nat.{ℕ, suc, ◌+◌}
use native.Mathlib.Omega.{arith}
use borrow.Author.Rules.{rules}
use Rattle.program_emitter.proofs.runs.emit_either.Goals as goal

pub returns : goal.returns
returns c =
    let j : ℕ = c.args.j in
    let j1 : j + 1 ≡ suc (j) = omega arith in
    let j2 : j + 2 ≡ suc (suc (j)) = omega arith in
    (search rules, cc (j1, j2))
