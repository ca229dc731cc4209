-- `has_match` meets its contract: each branch is a search.
use native.Mathlib.Omega.{arith}
use Rattle.run_match.proofs.matching.has_match.Goals as goal

pub exists-requires : goal.exists-requires
exists-requires c = (c.requires.1, c.requires.2)

pub returns-then-d-eq0 : goal.returns-then-d-eq0
returns-then-d-eq0 c = (λ h. absurd (omega (arith, c.if-d-eq0.true)), λ e. c.exists.ensures)

pub exists-requires-2 : goal.exists-requires-2
exists-requires-2 c =
    (c.requires.0 (omega (arith, c.if-d-eq0.false)), c.requires.2)

pub returns : goal.returns
returns c = (λ h. c.exists-2.ensures, λ e. absurd (c.if-d-eq0.false e))
