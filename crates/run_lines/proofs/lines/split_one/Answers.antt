-- `split_one` meets its contract: a field that is found is written to the next entry.
use native.Mathlib.Omega.{arith}
use mathlib.Core.Path.{refl}
use Rattle.run_lines.proofs.Turn.{turn-bounds, turned, ended}
use Rattle.run_lines.proofs.lines.split_one.Goals as goal

pub returns-in_default : goal.returns-in_default
returns-in_default c =
    let a = c.args in
    let p = c.requires in
    ended a.edition.number a.t.now a.kind a.work.now a.line p.0 p.1 p.3 c.record_start-a.result c.record_start-a.ensures
    c.in_default.ensures c.split.result c.split.ensures

pub put_entry-requires : goal.put_entry-requires
put_entry-requires c =
    let a = c.args in
    let p = c.requires in
    let m = c.in-Some in
    let b =
    turn-bounds a.edition.number a.t.now a.kind a.work.now a.line p.0 p.1 p.3 c.record_start-a.result c.record_start-a.ensures
    m.f m.ensures in
    (p.0, p.4, omega (arith, b.0, p.1.size), omega (arith, b.0, p.1.size))

pub returns : goal.returns
returns c =
    let a = c.args in
    let p = c.requires in
    let m = c.in-Some in
    turned a.edition.number a.t.now a.kind a.work.now a.line p.0 p.1 p.3 c.record_start-a.result c.record_start-a.ensures
    m.f m.ensures _ c.split-2.result _ p.4 c.put_entry.ensures (refl, refl, refl) c.split-2.ensures
