-- `pass_8` meets its contract: eight bytes without a mark are passed.
use mathlib.Core.Path.{refl, sym, ◌∙◌}
use Rattle.lanes.proofs.Nearing.{unmarked, marked, nearer-on, nearer-here}
use Rattle.lanes.proofs.search.pass_8.Goals as goal

pub returns-then-marks_at-eq0 : goal.returns-then-marks_at-eq0
returns-then-marks_at-eq0 c =
    let a = c.args in
    let h = c.requires in
    nearer-on a.b a.at 8 a.s.now refl (unmarked a.b a.at 8 a.s.now h.0 h.1 (sym c.marks_at.ensures ∙ c.if-marks_at-eq0.true))

pub returns-else-marks_at-eq0 : goal.returns-else-marks_at-eq0
returns-else-marks_at-eq0 c =
    let a = c.args in
    let h = c.requires in
    nearer-here a.b a.at 8 a.s.now refl h.1 (marked a.b a.at 8 a.s.now h.0 h.1 (λ e. c.if-marks_at-eq0.false (c.marks_at.ensures ∙ e)))
