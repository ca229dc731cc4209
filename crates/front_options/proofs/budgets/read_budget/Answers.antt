-- `read_budget`: the number so far, and the digits that are left.
use Rattle.std.proofs.Common.{ap, ◌∙◌, rules}
use Rattle.lists.specs.Answers.{option_of}
use Rattle.front_options.proofs.Walking.{budget-none, budget-some, digit-bad, digit-on, digit-end}
use Rattle.front_options.proofs.budgets.read_budget.Goals as goal

pub returns-then-is_empty : goal.returns-then-is_empty
returns-then-is_empty c = budget-none c.args.word.now (search rules)

pub loop-b-init : goal.loop-b-init
loop-b-init c = budget-some c.args.word.now (search rules)

pub returns-in_err-value : goal.returns-in_err-value
returns-in_err-value c =
    ap option_of c.from_residual.ensures
    ∙ digit-bad c.args.word.now c.loop-b.b-index c.loop-b-test.true c.loop-b.value c.loop-b.invariant c.in_err-value.ensures

pub loop-b-preserved : goal.loop-b-preserved
loop-b-preserved c =
    digit-on c.args.word.now c.loop-b.b-index c.loop-b-test.true c.loop-b.value c.loop-b.invariant c.in_ok-value.ensures

pub returns : goal.returns
returns c = digit-end c.args.word.now c.loop-b.b-index c.loop-b.value c.loop-b-test.false c.loop-b.invariant
