-- `read_digits`: what was counted and what is left is the run, and the value is that of the digits passed.
use mathlib.Core.Path.{◌≡◌}
use Prim.Native.Nat.{◌+◌}
use lib.ListN.{drop, take}
use Rattle.lists.specs.Elements.{leading}
use Rattle.numeral.specs.Form.{is_digit}
use Rattle.numeral.specs.Judgement.{digits_value}
use Rattle.numeral.specs.Capped.{capped}
use Rattle.numeral.proofs.digits.read_digits.Given as goal

abbrev pub invariant-loop-k : goal.invariant-loop-k
invariant-loop-k l = (leading is_digit l.t ≡ l.k + leading is_digit (drop l.k l.t)) × (l.value ≡ capped (digits_value (take l.k l.t)))
