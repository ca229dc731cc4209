-- `one_more` meets its contract, part by part.
use Prim.Native.Nat.{◌+◌}
use lib.ListN.{length, get_or}
use lib.Dec.{eqb}
use Rattle.ere_seek.proofs.Following.{ready-next, stepped-is}
use Rattle.ere_seek.proofs.one.one_more.Goals as goal

pub accept_bits-requires : goal.accept_bits-requires
accept_bits-requires c =
    let a = c.args in
    let b = get_or a.x.now a.l.at 0 in
    ready-next a.d.now a.k a.l.state b _ c.requires.0
    (c.shared_slice_known-3-1.given a.l.at).fits c.next-q.ensures

pub returns : goal.returns
returns c =
    let a = c.args in
    stepped-is a.d.now a.x.now a.l (eqb (a.l.at + 1) (length a.x.now)) _ _ _ _
    c.next-q.ensures c.accept_bits.ensures c.accepted-end.ensures
    c.either.ensures
