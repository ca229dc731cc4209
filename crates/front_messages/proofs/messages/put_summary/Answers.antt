-- `put_summary`: its parts, one after the other.
use native.Mathlib.Omega.{arith}
use Rattle.front_lines.specs.Messages.{summary_text}
use Rattle.front_lines.proofs.Putting.{follow}
use Rattle.front_messages.proofs.messages.put_summary.Goals as goal

pub put_outcome-b-requires : goal.put_outcome-b-requires
put_outcome-b-requires c = omega arith

pub put_counts-requires : goal.put_counts-requires
put_counts-requires c = omega (arith, c.put_text-a.ensures, c.put_outcome-b.ensures)

pub returns : goal.returns
unfolding summary_text
returns c = follow c.put_text-a.ensures (follow c.put_outcome-b.ensures.0 c.put_counts.ensures)
