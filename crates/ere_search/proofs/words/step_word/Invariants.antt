-- `step_word` meets its contract: what is left of the word, from what is gathered so far, gives what the whole word
-- gives.
use Prim.Native.Nat.{◌^◌, ◌<◌}
use mathlib.Core.Path.{◌≡◌}
use Rattle.ere_search.specs.Walk.{step_word}
use Rattle.ere_search.proofs.words.step_word.Given as goal

abbrev pub invariant-loop-rest : goal.invariant-loop-rest
invariant-loop-rest l = (l.rest < 2 ^ 64) × (step_word l.t l.b l.rest l.w l.out 64 ≡ step_word l.t l.b l.x l.w l.initial.out 64)

abbrev pub decreases-loop-rest : goal.decreases-loop-rest
decreases-loop-rest l = l.rest
