-- `block` meets its contract, by pairs and by bytes.
use Rattle.std.proofs.Common.{sym, ◌∙◌, arith}
use borrow.Author.Tests.{not-true}
use Rattle.ere_automaton.proofs.States.{runs-count}
use Rattle.ere_automaton.proofs.any.block.Goals as goal

pub pairs_to-requires : goal.pairs_to-requires
pairs_to-requires c =
    let p = c.requires in (p.0, not-true _ (sym p.1 ∙ c.if-pairs.true), omega arith, omega arith, omega (arith, p.2))

pub returns-then-pairs : goal.returns-then-pairs
returns-then-pairs c =
    let a = c.args in
    runs-count a.d.now a.x.now a.i a.s _ 16 c.pairs_to.ensures (omega arith)

pub returns : goal.returns
returns c =
    let a = c.args in
    runs-count a.d.now a.x.now a.i a.s _ 16 c.by_bytes.ensures (omega arith)
