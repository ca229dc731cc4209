-- `pass_16` meets its contract: 16 bytes without a mark are passed.
use mathlib.Core.Path.{refl}
use Rattle.lanes.proofs.Nearing.{unmarked-16, marked-16, nearer-on, nearer-here}
use Rattle.lanes.proofs.search.pass_16.Goals as goal

pub returns-then-m-eq0 : goal.returns-then-m-eq0
returns-then-m-eq0 c =
    let a = c.args in
    let h = c.requires in
    nearer-on a.b a.at 16 a.s.now refl (unmarked-16 a.b a.at a.s.now h.0 h.1 c.marks_at.ensures c.marks_at-2.ensures c.if-m-eq0.true)

pub returns-else-m-eq0 : goal.returns-else-m-eq0
returns-else-m-eq0 c =
    let a = c.args in
    let h = c.requires in
    nearer-here a.b a.at 16 a.s.now refl h.1 (marked-16 a.b a.at a.s.now h.0 h.1 c.marks_at.ensures c.marks_at-2.ensures c.if-m-eq0.false)
