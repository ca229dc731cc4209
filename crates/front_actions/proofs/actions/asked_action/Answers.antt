-- `asked_action`, by the stage.
use mathlib.Core.Logic.{⊎_elim}
use mathlib.Core.Path.{sym, ap, ◌∙◌}
use Rattle.front_options.specs.declared.options.Stage.{Stage}
use Rattle.front_actions.specs.Actions.{given_action, action_at}
use Rattle.front_actions.proofs.actions.asked_action.Goals as goal

pub returns-in-Argument : goal.returns-in-Argument
unfolding action_at
returns-in-Argument c =
    let a = c.args in
    let by = λ (s : Stage). action_at s (given_action a.o a.words) in
    ⊎_elim (λ e. ap by (sym e.1)) (λ e. ap by (sym e)) c.in-Argument.is

pub returns-in-Ready : goal.returns-in-Ready
unfolding action_at
returns-in-Ready c =
    let a = c.args in
    let by = λ (s : Stage). action_at s (given_action a.o a.words) in
    c.given_action.ensures ∙ ⊎_elim (λ e. ap by (sym e)) (λ e. ap by (sym e)) c.in-Ready.is
