-- `option_in`, by the kind.
use mathlib.Core.Path.{sym, ◌∙◌}
use borrow.Author.Tests.{eq-eqb, ne_eqb}
use Rattle.front_options.specs.Reading.{option_in}
use Rattle.front_options.proofs.options.option_in.Goals as goal

pub returns-in-Operand : goal.returns-in-Operand
unfolding option_in
returns-in-Operand c = rw c.in-Operand.is c.operand_in.ensures

pub returns-in-Unknown : goal.returns-in-Unknown
unfolding option_in
returns-in-Unknown c = rw c.in-Unknown.is c.refuse.ensures

pub returns-in-Known-eq0 : goal.returns-in-Known-eq0
unfolding option_in
returns-in-Known-eq0 c =
    let k = c.in-Known-eq0 in
    rw (k.is, eq-eqb k.field-0 0 (sym k.field-0-is ∙ k.field-0-test))

pub returns-in-Known : goal.returns-in-Known
unfolding option_in
returns-in-Known c =
    let k = c.in-Known in
    rw (k.is, ne_eqb k.option 0 (λ e. k.option-test.1 (rw k.is e))) c.known.ensures
