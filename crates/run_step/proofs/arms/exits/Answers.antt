-- `exits` meets its contract, section by section.
use mathlib.Core.Path.{sym, ap, ◌∙◌}
use Rattle.semantics.specs.Moves.{Section}
use Rattle.run_step.specs.Machine.{exited_in}
use Rattle.run_step.proofs.Advance.{last-section, exits-early}
use Rattle.run_step.proofs.arms.exits.Goals as goal

pub returns-then-section-lt-FINISH : goal.returns-then-section-lt-FINISH
returns-then-section-lt-FINISH c =
    let a = c.args in
    c.stop.ensures ∙ sym (exits-early a.section a.m c.if-section-lt-FINISH.true)

pub returns : goal.returns
returns c =
    let a = c.args in
    c.stop-2.ensures ∙ ap (λ (s : Section). exited_in s a.m) (sym (last-section a.section c.if-section-lt-FINISH.false))
