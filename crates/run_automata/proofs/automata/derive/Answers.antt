-- `derive` meets its contract: the slot tells for which search.
use Rattle.run_automata.proofs.Deriving.{made-one, made-both}
use Rattle.run_automata.proofs.automata.derive.Goals as goal

pub returns-then-k-lt-ERES : goal.returns-then-k-lt-ERES
returns-then-k-lt-ERES c =
    let a = c.args in
    rw c.unwrap_or.ensures (made-one a.k a.t.now a.d.now _ c.if-k-lt-ERES.true c.derive.result c.derive.ensures)

pub returns : goal.returns
returns c =
    let a = c.args in
    rw c.unwrap_or-2.ensures (made-both a.k a.t.now a.d.now _ c.if-k-lt-ERES.false c.derive_both.result c.derive_both.ensures)
