-- `block_seen` meets its contract, by pairs and by bytes.
use mathlib.Core.Path.{◌≡◌, sym, subst, ◌∙◌}
use Prim.Native.Nat.{ℕ, ◌+◌, ◌-◌}
use native.Mathlib.Omega.{arith}
use borrow.Author.Tests.{not-true}
use Rattle.ere_seek.specs.Pending.{Ran}
use Rattle.ere_seek.proofs.pending.block_seen.Goals as goal

pub pairs_seen-requires : goal.pairs_seen-requires
pairs_seen-requires c = let p = c.requires in (p.0, not-true _ (sym p.1 ∙ c.if-pairs.true))

pub returns : goal.returns
returns c =
    let a = c.args in
    let f = a.from in
    let r = c.bytes_seen.result in
    let z : a.i + 16 - a.i ≡ 16 = omega arith in
    subst (λ (n : ℕ). Ran a.d.now a.x.now a.i n f.state f.seen r.state r.seen) z
    c.bytes_seen.ensures
