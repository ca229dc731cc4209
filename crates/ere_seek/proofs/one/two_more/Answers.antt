-- `two_more` meets its contract, part by part.
use mathlib.Core.Path.{refl}
use Prim.Native.Nat.{◌+◌}
use lib.ListN.{get_or}
use Rattle.ere_automaton.specs.Layout.{next_in}
use Rattle.ere_seek.proofs.Following.{ready-next, pair-two, stepped-two}
use Rattle.ere_seek.proofs.one.two_more.Goals as goal

pub accept_bits-requires : goal.accept_bits-requires
accept_bits-requires c =
    let a = c.args in
    let b = get_or a.x.now a.l.at 0 in
    ready-next a.d.now a.k a.l.state b _ c.requires.0 (c.shared_slice_known-3-1.given a.l.at).fits
    c.next-m.ensures

pub accept_bits-requires-2 : goal.accept_bits-requires-2
accept_bits-requires-2 c =
    let a = c.args in
    let p = c.requires in
    let bytes = c.shared_slice_known-3-1.given in
    let d = a.d.now in
    let b = get_or a.x.now a.l.at 0 in
    let m = next_in d a.l.state b in
    ready-next d a.k m (get_or a.x.now (a.l.at + 1) 0) _
    (ready-next d a.k a.l.state b m p.0 (bytes a.l.at).fits refl)
    (bytes (a.l.at + 1)).fits
    (pair-two d a.k a.l.state _ _ _ p.0 p.1 (bytes a.l.at).fits (bytes (a.l.at + 1)).fits
    c.pair-q.ensures)

pub returns : goal.returns
returns c =
    let a = c.args in
    let p = c.requires in
    let bytes = c.shared_slice_known-3-1.given in
    stepped-two a.d.now a.x.now a.l _ _ _ _ _ _ _ _ c.next-m.ensures
    (pair-two a.d.now a.k a.l.state _ _ _ p.0 p.1 (bytes a.l.at).fits
    (bytes (a.l.at + 1)).fits
    c.pair-q.ensures)
    c.accept_bits.ensures
    c.accepted-middle.ensures
    c.either-b.ensures
    c.accept_bits-2.ensures
    c.accepted-end.ensures
    c.either.ensures
