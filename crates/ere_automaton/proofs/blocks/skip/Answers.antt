-- `skip` meets its contract: no match starts between `from` and i.
use Rattle.std.proofs.Common.{sym, ◌∙◌, arith}
use Rattle.ere_automaton.specs.Scan.{ranges}
use Rattle.ere_automaton.proofs.Ranging.{skipped-more, skipped-none}
use Rattle.ere_automaton.proofs.blocks.skip.Goals as goal

pub loop-i-init : goal.loop-i-init
loop-i-init c = (c.requires.1, skipped-none _ _ _)

pub overflow_add-i : goal.overflow_add-i
overflow_add-i c = omega arith

pub may_start-requires : goal.may_start-requires
may_start-requires c = omega arith

pub returns-then-may_start : goal.returns-then-may_start
returns-then-may_start c = c.loop-i.invariant.1

pub overflow_add-i-in-loop-i : goal.overflow_add-i-in-loop-i
overflow_add-i-in-loop-i c = omega arith

pub loop-i-smaller : goal.loop-i-smaller
loop-i-smaller c = omega arith

pub loop-i-preserved : goal.loop-i-preserved
loop-i-preserved c =
    let a = c.args in
    let l = c.loop-i in
    let g = ranges a.low a.width a.next_low a.next_width in
    let none = sym c.may_start.ensures ∙ c.if-may_start.false in (
      omega arith,
      skipped-more g a.x.now a.from l.i 16 _ l.invariant.1 none (omega arith) (omega arith) (omega arith),
    )

pub returns : goal.returns
returns c = c.loop-i.invariant.1
