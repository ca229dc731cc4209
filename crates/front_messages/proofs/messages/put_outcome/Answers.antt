-- `put_outcome`: the meaning, which is a word of the table, and the number.
use native.Mathlib.Omega.{arith}
use Rattle.front_lines.specs.Messages.{outcome_text}
use Rattle.front_lines.proofs.Putting.{follow, puts_of}
use Rattle.front_messages.proofs.Meanings.{meaning-is}
use Rattle.front_messages.proofs.messages.put_outcome.Goals as goal

pub put_text-meaning-requires : goal.put_text-meaning-requires
put_text-meaning-requires c = omega (arith, c.requires)

pub put_text-open-requires : goal.put_text-open-requires
put_text-open-requires c = omega (arith, c.requires)

pub put_decimal-number-requires : goal.put_decimal-number-requires
put_decimal-number-requires c = omega (arith, c.requires)

pub put_text-requires : goal.put_text-requires
put_text-requires c = omega (arith, c.requires)

pub returns : goal.returns
unfolding outcome_text
returns c = (
  follow ((puts_of (meaning-is _ _ c.find_word-w.ensures) c.put_text-meaning.ensures)) (follow c.put_text-open.ensures (follow c.put_decimal-number.ensures.0 c.put_text.ensures)),
  omega (arith, c.find_word-w.ensures, c.put_text-meaning.ensures, c.put_text-open.ensures, c.put_decimal-number.ensures, c.put_text.ensures),
)
