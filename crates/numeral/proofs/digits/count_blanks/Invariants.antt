use mathlib.Core.Path.{◌≡◌}
use Prim.Native.Nat.{◌+◌}
use lib.ListN.{drop}
use Rattle.lists.specs.Elements.{leading}
use Rattle.numeral.specs.Form.{is_blank}
use Rattle.numeral.proofs.digits.count_blanks.Given as goal

-- `count_blanks`: the run is what was counted and what is left of it.
abbrev pub invariant-loop-k : goal.invariant-loop-k
invariant-loop-k l = (leading is_blank l.t ≡ l.k + leading is_blank (drop l.k l.t))
