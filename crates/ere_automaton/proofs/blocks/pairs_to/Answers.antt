-- `pairs_to` meets its contract: s is the state after 2 j bytes.
use Rattle.std.proofs.Common.{◌≡◌, ℕ, ◌+◌, ◌-◌, ◌*◌, ◌<◌, get_or, sym, refl, ap, ◌∙◌, subst, arith}
use Rattle.ere_automaton.specs.Layout.{State}
use Rattle.ere_automaton.specs.Scan.{runs}
use Rattle.ere_automaton.proofs.States.{runs-two, runs-state}
use Rattle.ere_automaton.proofs.blocks.pairs_to.Goals as goal

pub loop-j-init : goal.loop-j-init
unfolding runs
loop-j-init c = (c.requires.0.state, refl)

pub pair-s-requires : goal.pair-s-requires
pair-s-requires c =
    let p = c.requires in
    (record { ranged = p.0.ranged; state = c.loop-j.invariant.0; classes = p.0.classes }, p.1)

pub loop-j-preserved : goal.loop-j-preserved
loop-j-preserved c =
    let a = c.args in
    let d = a.d.now in
    let x = a.x.now in
    let l = c.loop-j in
    let R = c.requires.0.ranged in
    let at = a.from + 2 * l.j in
    let known = c.shared_slice_known-2-1 in
    let bytes : (n : ℕ) → get_or x n 0 < 256 = λ n. (known.given n).fits in
    let two = R.pairs l.s (get_or x at 0) (get_or x (at + 1) 0) l.invariant.0 (bytes at) (bytes (at + 1)) c.requires.1 in
    let z : 2 * l.j + 2 ≡ 2 * (l.j + 1) = omega arith in
    let same =
    c.pair-s.ensures ∙ two ∙ runs-two d x a.from a.state (2 * l.j) l.s l.invariant.1 ∙ ap (runs d x a.from a.state) z in (
      subst (State d) (sym same) (runs-state d R x bytes a.from a.state (2 * (l.j + 1)) c.requires.0.state),
      same,
    )

pub returns : goal.returns
returns c =
    let a = c.args in
    let l = c.loop-j in
    let z : 2 * l.j ≡ a.end - a.from = omega (arith, c.requires.3) in
    l.invariant.1 ∙ ap (runs a.d.now a.x.now a.from a.state) z
