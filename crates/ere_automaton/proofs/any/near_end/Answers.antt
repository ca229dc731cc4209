-- `near_end` meets its contract: the places from i on are among the 16 before the last.
use Rattle.std.proofs.Common.{◌-◌, length, arith, ltb-true, leb-true}
use Rattle.lists.proofs.Tests.{and-true}
use Rattle.ere_automaton.specs.Scan.{ranges_of}
use Rattle.ere_automaton.proofs.Ranging.{skipped-last, skipped-none}
use Rattle.ere_automaton.proofs.any.near_end.Goals as goal

pub returns-then-i-last : goal.returns-then-i-last
returns-then-i-last c =
    let a = c.args in
    let n = length a.x.now in
    let r = c.next_block.result in
    let m = and-true _ _ c.if-i-last.true in
    let low = ltb-true a.i (n - 1) m.0 in
    let high = leb-true (n - 1) r m.1 in
    skipped-last (ranges_of a.d.now) a.x.now (n - 1 - 16) a.i r (n - 1) c.next_block.ensures
    (omega arith) (omega arith) high (omega arith)

pub returns : goal.returns
returns c = skipped-none _ _ _
