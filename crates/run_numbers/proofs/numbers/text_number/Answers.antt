-- `text_number` meets its contract, by the reading of the text.
use mathlib.Core.Path.{refl}
use Rattle.numeral.specs.Judgement.{number_of}
use Rattle.run_numbers.proofs.Numbered.{taken_is, taken_stop}
use Rattle.run_numbers.proofs.numbers.text_number.Goals as goal

pub returns-in-Ok : goal.returns-in-Ok
returns-in-Ok c = taken_is (number_of c.args.text.now) c.read_number.result.value c.read_number.ensures.number _ _ c.in-Ok.is refl refl

pub returns-in-Err : goal.returns-in-Err
returns-in-Err c = taken_stop (number_of c.args.text.now) c.read_number.result.value c.read_number.ensures.number _ _ c.in-Err.is c.outcome.ensures
