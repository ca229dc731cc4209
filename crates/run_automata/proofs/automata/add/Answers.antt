-- `add` meets its contract: what the slot has is made in what is left of the pool.
use native.Mathlib.Omega.{arith}
use Rattle.run_automata.specs.Automata.{bound_in}
use Rattle.run_automata.proofs.Filling.{left-size, left-length, filled-made}
use Rattle.run_automata.proofs.automata.add.Goals as goal

pub bounds-pool-k : goal.bounds-pool-k
bounds-pool-k c =
    let f = c.requires.3.2 in
    omega (arith, f.low c.args.k (omega arith), f.inside)

pub overflow_add-pool : goal.overflow_add-pool
overflow_add-pool c =
    let p = c.requires.3 in
    let old = c.args.pool.now in
    let at = bound_in old c.args.k in
    let room = (c.make-size.ensures p.0 p.1).inside in
    omega (arith, p.2.inside, p.2.small, left-size old at p.2.inside)

pub overflow_cast-pool : goal.overflow_cast-pool
overflow_cast-pool c =
    let p = c.requires.3 in
    let old = c.args.pool.now in
    let at = bound_in old c.args.k in
    let room = (c.make-size.ensures p.0 p.1).inside in
    omega (arith, p.2.inside, p.2.small, left-size old at p.2.inside)

pub bounds-pool-k-2 : goal.bounds-pool-k-2
bounds-pool-k-2 c =
    let p = c.requires.3 in
    let old = c.args.pool.now in
    let low = p.2.low c.args.k (omega arith) in
    let made = c.make-size in
    let d = made.new.d in
    let same = (made.ensures p.0 p.1).size in
    omega (arith, low, p.2.inside, left-length old d (bound_in old c.args.k) p.2.inside same)

pub returns : goal.returns
returns c =
    let a = c.args in
    let made = c.make-size in
    λ xs y f. filled-made a.edition.number xs a.pool.now _ a.k made.result c.requires.2 f (made.ensures xs y)
