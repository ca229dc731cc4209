-- `after` meets its contract: an outcome stops the machine.
use mathlib.Core.Path.{sym, ◌∙◌}
use Rattle.run_step.proofs.Advance.{goes_on, halts}
use Rattle.run_step.proofs.machine.Machine.after.Goals as goal

pub returns-then-outcome-ne0 : goal.returns-then-outcome-ne0
returns-then-outcome-ne0 c = c.stop.ensures ∙ sym (halts _ _ _ c.if-outcome-ne0.true)

pub returns : goal.returns
returns c = c.on.ensures ∙ sym (goes_on _ _ _ c.if-outcome-ne0.false)
