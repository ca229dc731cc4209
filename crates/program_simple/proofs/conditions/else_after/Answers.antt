use Rattle.program_simple.proofs.Choosing.{else-start, else-none, else-found, else-nearer, else-more}
use Rattle.program_simple.proofs.conditions.else_after.Goals as goal

pub loop-ended-init : goal.loop-ended-init
loop-ended-init c = else-start _ _ _ _ c.requires.0 c.requires.1

pub returns-then-kind-ended : goal.returns-then-kind-ended
returns-then-kind-ended c =
    else-found _ _ _ c.args.free _ _ _ c.loop-ended.invariant _ c.token_after-after.ensures
    c.if-kind-ended.true

pub returns-then-kind-semicolons : goal.returns-then-kind-semicolons
returns-then-kind-semicolons c =
    else-none _ _ _ c.args.free _ _ _ c.loop-ended.invariant c.if-kind-ended.false c.if-kind-semicolons.true

pub loop-ended-smaller : goal.loop-ended-smaller
loop-ended-smaller c =
    else-nearer _ _ _ c.args.free _ _ _ c.loop-ended.invariant _ c.token_after-after.ensures
    c.if-kind-semicolons.false

pub loop-ended-preserved : goal.loop-ended-preserved
loop-ended-preserved c =
    else-more _ _ _ c.args.free _ _ _ c.loop-ended.invariant _ c.token_after-after.ensures
    c.if-kind-semicolons.false
