use mathlib.Core.Path.{◌∙◌}
use Rattle.program_parser.proofs.Others.{barred, not-barred}
use Rattle.program_operators.proofs.operators.tier_of.Goals as goal

pub returns-then-printed-kind : goal.returns-then-printed-kind
returns-then-printed-kind c = barred c.args.kind c.requires _ _ c.if-printed-kind.true

pub returns : goal.returns
returns c = c.plain_tier.ensures ∙ not-barred c.args.kind c.requires _ _ c.if-printed-kind.false
