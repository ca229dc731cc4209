-- `any_in_32` meets its contract: k bytes are looked at.
use Prim.Native.Nat.{◌+◌}
use native.Mathlib.Omega.{arith}
use native.Mathlib.Numerals.{unary_clauses}
use mathlib.Core.Path.{◌≡◌, ap, ◌∙◌, refl}
use mathlib.Core.Bool.{cond, true, Bool}
use lib.ListN.{get_or}
use lib.Dec.{eqb}
use Rattle.lanes.specs.Block.{among}
use Rattle.lanes.proofs.blocks.any_in_32.Goals as goal

pub loop-k-init : goal.loop-k-init
unfolding among
loop-k-init c = refl

pub loop-k-preserved : goal.loop-k-preserved
unfolding among
loop-k-preserved c =
    let a = c.args in
    let l = c.loop-k in
    simp unary_clauses (c.seen-hit.ensures ∙ ap (λ (h : Bool). cond h true (eqb (get_or a.s.now (a.at + l.k) 0) a.b)) l.invariant)

pub returns : goal.returns
returns c =
    let a = c.args in
    let l = c.loop-k in
    let e : l.k ≡ 32 = omega arith in
    l.invariant ∙ ap (λ n. among a.b n a.at a.s.now) e
