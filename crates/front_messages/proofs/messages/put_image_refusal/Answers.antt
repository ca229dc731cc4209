-- `put_image_refusal`: its parts, one after the other.
use native.Mathlib.Omega.{arith}
use Rattle.front_lines.specs.Messages.{image_text}
use Rattle.front_lines.proofs.Putting.{follow}
use Rattle.front_messages.proofs.messages.put_image_refusal.Goals as goal

pub put_text-b-requires : goal.put_text-b-requires
put_text-b-requires c = omega (arith, c.requires)

pub put_text-c-requires : goal.put_text-c-requires
put_text-c-requires c = omega (arith, c.requires)

pub put_outcome-d-requires : goal.put_outcome-d-requires
put_outcome-d-requires c = omega (arith, c.requires)

pub put_text-requires : goal.put_text-requires
put_text-requires c = omega (arith, c.requires)

pub returns : goal.returns
unfolding image_text
returns c = follow c.put_text-a.ensures (follow c.put_text-b.ensures (follow c.put_text-c.ensures (follow c.put_outcome-d.ensures.0 c.put_text.ensures)))
