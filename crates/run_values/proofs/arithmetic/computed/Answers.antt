-- `computed` meets its contract, by the code.
use mathlib.Core.Path.{sym, subst}
use Rattle.image_format.specs.Codes.{Arithmetic}
use Rattle.number.specs.Range.{unbias}
use Rattle.number.specs.Answers.{Computes}
use Rattle.values.specs.Operations.{computed}
use Rattle.run_values.specs.Codes.{arithmetic_by}
use Rattle.run_values.proofs.Computing.{last-arithmetic}
use Rattle.run_values.proofs.arithmetic.computed.Goals as goal

pub returns-in-7 : goal.returns-in-7
unfolding arithmetic_by
returns-in-7 c = rw c.in-7.is c.add.ensures

pub returns-in-8 : goal.returns-in-8
unfolding arithmetic_by
returns-in-8 c = rw c.in-8.is c.subtract.ensures

pub returns-in-9 : goal.returns-in-9
unfolding arithmetic_by
returns-in-9 c = rw c.in-9.is c.multiply.ensures

pub returns-in-10 : goal.returns-in-10
unfolding arithmetic_by
returns-in-10 c = rw c.in-10.is c.divide.ensures

pub returns-in_default : goal.returns-in_default
returns-in_default c =
    let remainder = c.remainder in
    let a = c.args in
    let no = c.in_default.in_default-own.rest in
    subst (λ (o : Arithmetic). Computes remainder.result (computed o (unbias a.x) (unbias a.y)))
    (sym (last-arithmetic a.code no.0.0.0.1 no.0.0.1 no.0.1 no.1)) remainder.ensures
