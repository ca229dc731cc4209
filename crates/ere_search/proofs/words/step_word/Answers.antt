-- `step_word` meets its contract: what is left of the word, from what is gathered so far, gives what the whole word
-- gives.
use lib.Count.{count_trailing_zeros, trailing_le}
use lib.Pow.{pow_pos}
use native.Mathlib.Omega.{arith}
use mathlib.Core.Path.{refl, sym, ◌∙◌}
use Rattle.ere_search.proofs.Steps.{word_more, word_end}
use Rattle.ere_search.proofs.Trailing.{tz-room, low-le}
use Rattle.lists.proofs.Digits.{word-pow}
use Rattle.ere_search.proofs.words.step_word.Goals as goal

pub loop-rest-init : goal.loop-rest-init
loop-rest-init c = (omega arith, refl)

pub overflow_cast-k : goal.overflow_cast-k
overflow_cast-k c = omega (arith, trailing_le 64 c.loop-rest.rest)

pub overflow_add-w : goal.overflow_add-w
overflow_add-w c = omega (arith, trailing_le 64 c.loop-rest.rest)

pub put-next-requires : goal.put-next-requires
put-next-requires c = omega (arith, tz-room _ c.loop-rest.invariant.0 c.loop-rest-test.true)

pub overflow_shl-rest : goal.overflow_shl-rest
overflow_shl-rest c = omega (arith, tz-room _ c.loop-rest.invariant.0 c.loop-rest-test.true)

pub overflow_sub-rest : goal.overflow_sub-rest
overflow_sub-rest c =
    let h = tz-room _ c.loop-rest.invariant.0 c.loop-rest-test.true in
    omega (arith, word-pow _ h, low-le _ h)

pub loop-rest-smaller : goal.loop-rest-smaller
loop-rest-smaller c =
    let h = tz-room _ c.loop-rest.invariant.0 c.loop-rest-test.true in
    omega (arith, word-pow _ h, low-le _ h, pow_pos (count_trailing_zeros 64 c.loop-rest.rest))

pub loop-rest-preserved : goal.loop-rest-preserved
loop-rest-preserved c =
    let h = tz-room _ c.loop-rest.invariant.0 c.loop-rest-test.true in
    (omega arith, word_more _ _ _ _ _ h _ _ c.put-next.ensures refl ∙ c.loop-rest.invariant.1)

pub returns : goal.returns
returns c = sym (word_end _ _ _ _ _ c.loop-rest-test.false) ∙ c.loop-rest.invariant.1
