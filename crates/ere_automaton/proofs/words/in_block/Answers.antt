-- `in_block` meets its contract: `hit` tells of the first j places.
use Rattle.std.proofs.Common.{◌≡◌, refl, ap, ◌∙◌, arith}
use Rattle.ere_automaton.specs.Words.{here_in}
use Rattle.ere_automaton.proofs.Spelling.{here-more}
use Rattle.ere_automaton.proofs.words.in_block.Goals as goal

pub loop-j-init : goal.loop-j-init
unfolding here_in
loop-j-init c = refl

pub here-hit-requires : goal.here-hit-requires
here-hit-requires c = let p = c.requires in (p.0, p.1, omega (arith, p.2), p.3)

pub loop-j-preserved : goal.loop-j-preserved
loop-j-preserved c =
    let a = c.args in
    let l = c.loop-j in
    here-more a.d.now a.x.now a.last a.tests a.i l.j l.hit c.here-hit.result l.invariant c.here-hit.ensures

pub returns : goal.returns
returns c =
    let a = c.args in
    let l = c.loop-j in
    let z : l.j ≡ 16 = omega arith in
    l.invariant ∙ ap (here_in a.d.now a.x.now a.last a.tests a.i) z
