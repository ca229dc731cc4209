-- `put_counts`: its parts, one after the other.
use native.Mathlib.Omega.{arith}
use Rattle.front_lines.specs.Messages.{counts_text}
use Rattle.front_lines.proofs.Putting.{follow}
use Rattle.front_messages.proofs.messages.put_counts.Goals as goal

pub put_text-a-requires : goal.put_text-a-requires
put_text-a-requires c = omega (arith, c.requires)

pub put_decimal-b-requires : goal.put_decimal-b-requires
put_decimal-b-requires c = omega (arith, c.requires)

pub put_text-c-requires : goal.put_text-c-requires
put_text-c-requires c = omega (arith, c.requires)

pub put_decimal-d-requires : goal.put_decimal-d-requires
put_decimal-d-requires c = omega (arith, c.requires)

pub put_text-e-requires : goal.put_text-e-requires
put_text-e-requires c = omega (arith, c.requires)

pub put_decimal-f-requires : goal.put_decimal-f-requires
put_decimal-f-requires c = omega (arith, c.requires)

pub put_text-requires : goal.put_text-requires
put_text-requires c = omega (arith, c.requires)

pub returns : goal.returns
unfolding counts_text
returns c =
    follow c.put_text-a.ensures (follow c.put_decimal-b.ensures.0 (follow c.put_text-c.ensures (follow c.put_decimal-d.ensures.0 (follow c.put_text-e.ensures (follow c.put_decimal-f.ensures.0 c.put_text.ensures)))))
