-- `fill_pool` meets its contract. The loop's invariant: the pool is filled for the first k slots.
use mathlib.Core.Path.{◌≡◌, refl, subst}
use native.Mathlib.Omega.{arith}
use Rattle.run_automata.specs.Automata.{pool_slots, Automata}
use Rattle.run_automata.proofs.Filling.{filled_none}
use borrow.Author.Rules.{rules}
use Rattle.run_automata.proofs.automata.fill_pool.Goals as goal

pub loop-k-init : goal.loop-k-init
loop-k-init c =
    let a = c.args in
    let p = c.requires in (
      omega arith,
      refl,
      search rules,
      λ xs y. filled_none a.edition.number xs a.pool.now p.2 p.3,
    )

pub add-requires : goal.add-requires
add-requires c =
    let l = c.loop-k in
    let y = c.requires.4 in
    (omega (arith, l.invariant.1), omega arith, omega arith, (y.0, y.1, l.invariant.3 y.0 y.1))

pub loop-k-preserved : goal.loop-k-preserved
loop-k-preserved c =
    let l = c.loop-k in
    let done = c.add.ensures in (
      omega arith,
      search rules,
      search rules,
      λ xs y. done xs y (l.invariant.3 xs y),
    )

pub returns : goal.returns
returns c =
    let l = c.loop-k in
    λ xs y.
    let all : l.k ≡ pool_slots = omega arith in
    subst (Automata c.args.edition.number xs l.pool) all (l.invariant.3 xs y).automata
