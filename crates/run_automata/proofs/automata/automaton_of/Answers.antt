-- `automaton_of` meets its contract: the part is that of the two bounds.
use mathlib.Core.Path.{◌≡◌}
use Prim.Native.Nat.{◌+◌, ◌-◌}
use native.Mathlib.Omega.{arith}
use Rattle.buffer.proofs.Lent.{part-lent}
use Rattle.run_automata.specs.Automata.{bound_in}
use Rattle.run_automata.proofs.automata.automaton_of.Goals as goal

pub returns : goal.returns
returns c =
    let a = c.args in
    let from = bound_in a.pool.now a.k in
    let end = bound_in a.pool.now (a.k + 1) in
    let fits : end ≡ from + (end - from) = omega (arith, c.requires.order) in
    part-lent a.pool.now from end (end - from) fits
