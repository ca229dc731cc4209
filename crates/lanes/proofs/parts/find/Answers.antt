-- `find` meets its contract: an empty part is at the front.
use mathlib.Core.Path.{sym}
use Rattle.lanes.proofs.Standing.{empty_first}
use Rattle.lanes.proofs.parts.find.Goals as goal

pub returns-then-t-eq0 : goal.returns-then-t-eq0
returns-then-t-eq0 c =
    let a = c.args in
    sym (empty_first a.t.now a.s.now c.if-t-eq0.true)
