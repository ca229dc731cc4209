use Rattle.program_operators.proofs.operators.joined_tier.Goals as goal

pub returns-then-starts_joined : goal.returns-then-starts_joined
returns-then-starts_joined c = rw (← c.starts_joined.ensures, c.if-starts_joined.true)

pub returns : goal.returns
returns c = rw (← c.starts_joined.ensures, c.if-starts_joined.false)
