-- `judge_field` meets its contract, by the reading of the text.
use mathlib.Core.Path.{refl}
use Rattle.numeral.specs.Judgement.{number_of}
use Rattle.run_numbers.proofs.Numbered.{taken_is, taken_stop}
use Rattle.run_values.proofs.Judging.{judged-look}
use Rattle.run_values.proofs.numbers.judge_field.Goals as goal

pub returns-in-Ok : goal.returns-in-Ok
returns-in-Ok c =
    let t = c.args.text.now in
    let r = c.read_number-r in
    judged-look t _ r.ensures.look
    (taken_is (number_of t) r.result.value r.ensures.number _ _ c.in-Ok.is refl refl)

pub returns-in-Err : goal.returns-in-Err
returns-in-Err c =
    let t = c.args.text.now in
    let r = c.read_number-r in
    judged-look t _ r.ensures.look
    (taken_stop (number_of t) r.result.value r.ensures.number _ _ c.in-Err.is c.outcome.ensures)
