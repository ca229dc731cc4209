-- `may_start` meets its contract: j places are looked at.
use Rattle.std.proofs.Common.{◌≡◌, refl, ap, ◌∙◌, arith}
use Rattle.ere_automaton.specs.Scan.{ranges, starts}
use Rattle.ere_automaton.proofs.Ranging.{starts_more}
use Rattle.ere_automaton.proofs.blocks.may_start.Goals as goal

pub loop-j-init : goal.loop-j-init
unfolding starts
loop-j-init c = refl

pub loop-j-preserved : goal.loop-j-preserved
loop-j-preserved c =
    let a = c.args in
    let l = c.loop-j in
    let g = ranges a.low a.width a.next_low a.next_width in
    c.seen-hit.ensures ∙ starts_more g a.x.now a.i l.j l.hit l.invariant

pub returns : goal.returns
returns c =
    let a = c.args in
    let l = c.loop-j in
    let z : l.j ≡ 16 = omega arith in
    l.invariant ∙ ap (starts (ranges a.low a.width a.next_low a.next_width) a.x.now a.i) z
