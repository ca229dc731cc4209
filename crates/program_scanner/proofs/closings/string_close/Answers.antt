-- `string_close`: what is left of the text closes where the whole does.
use mathlib.Core.Path.{refl, sym, ◌∙◌}
use Rattle.program_scanner.proofs.Closing.{string-next, string-end}
use Rattle.program_scanner.proofs.closings.string_close.Goals as goal
use Rattle.program_scanner.proofs.closings.string_close.Goals.{in-Plain, in-Backslash}

pub loop-i-init : goal.loop-i-init
loop-i-init c = refl

pub returns-in-Quote : goal.returns-in-Quote
returns-in-Quote c =
    let l = c.loop-i in
    sym (l.invariant ∙ string-next c.args.s.now l.i c.loop-i-test.true l.escaped _ c.in-Quote.ensures)

pub returns-in-Refused : goal.returns-in-Refused
returns-in-Refused c =
    let l = c.loop-i in
    sym (l.invariant ∙ string-next c.args.s.now l.i c.loop-i-test.true l.escaped _ c.in-Refused.ensures)

pub loop-i-preserved : goal.loop-i-preserved
loop-i-preserved c =
    let s = c.args.s.now in
    let l = c.loop-i in
    let next = string-next s l.i c.loop-i-test.true l.escaped in
    elim c.match-string_turn.branch [
      | in-Plain w ↦ rw (w.escaped-is) (l.invariant ∙ next _ w.in-Plain.ensures)
      | in-Backslash w ↦ rw (w.escaped-is) (l.invariant ∙ next _ w.in-Backslash.ensures)
    ]

pub returns : goal.returns
returns c =
    let l = c.loop-i in
    sym (l.invariant ∙ string-end c.args.s.now l.i l.escaped c.loop-i-test.false)
