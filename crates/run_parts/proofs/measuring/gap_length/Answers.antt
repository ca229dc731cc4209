-- `gap_length` meets its contract.
use native.Mathlib.Omega.{arith}
use lib.ListN.{length}
use mathlib.Core.Path.{sym, ap, ◌∙◌}
use Rattle.run_parts.proofs.Grown.{gap-none, gap-some}
use Rattle.run_parts.proofs.measuring.gap_length.Goals as goal

pub returns-then-i-eq0 : goal.returns-then-i-eq0
returns-then-i-eq0 c = (omega arith, λ b e. sym (ap length (gap-none b c.args.i c.if-i-eq0.true)))

pub returns : goal.returns
returns c = (omega arith, λ b e. sym (ap length (gap-some b c.args.i c.if-i-eq0.false) ∙ e))
