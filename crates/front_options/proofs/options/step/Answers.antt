-- `step`, by the stage.
use mathlib.Core.Path.{sym, ap, ◌∙◌}
use Rattle.front_options.specs.declared.options.Stage.{Stage}
use Rattle.front_options.specs.Reading.{option_in, step_at}
use Rattle.front_options.proofs.options.step.Goals as goal

pub returns-in-Argument : goal.returns-in-Argument
unfolding step_at
returns-in-Argument c =
    let a = c.args in
    c.take.ensures ∙ ap (λ (s : Stage). step_at s a.o a.k a.word.now) (sym c.in-Argument.is)

pub option_in-requires : goal.option_in-requires
option_in-requires c = c.kind_of.ensures.1

pub returns-in-Ready : goal.returns-in-Ready
unfolding step_at
returns-in-Ready c =
    let a = c.args in
    c.option_in.ensures
    ∙ ap (option_in a.o a.k) c.kind_of.ensures.0
    ∙ ap (λ (s : Stage). step_at s a.o a.k a.word.now) (sym c.in-Ready.is)

pub returns-in-Operands : goal.returns-in-Operands
unfolding step_at
returns-in-Operands c =
    let a = c.args in
    c.operand_in.ensures ∙ ap (λ (s : Stage). step_at s a.o a.k a.word.now) (sym c.in-Operands.is)

pub returns-in-Refused : goal.returns-in-Refused
unfolding step_at
returns-in-Refused c =
    let a = c.args in
    ap (λ (s : Stage). step_at s a.o a.k a.word.now) (sym c.in-Refused.is)
