-- `inside` meets its contract.
use Rattle.std.proofs.Common.{◌≡◌, ℕ, ◌+◌, ◌-◌, ◌%◌, leb, ap, arith}
use Rattle.ere_automaton.proofs.blocks.inside.Goals as goal

pub returns : goal.returns
returns c =
    let a = c.args in
    let e : c.wrapping_sub_u8.result ≡ (a.b + 256 - a.low) % 256 = omega (arith, c.wrapping_sub_u8.ensures) in
    ap (λ (y : ℕ). leb y a.width) e
