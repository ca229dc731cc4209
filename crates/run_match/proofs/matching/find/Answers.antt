-- `find` meets its contract: each branch is a search.
use native.Mathlib.Omega.{arith}
use Rattle.run_match.proofs.matching.find.Goals as goal

pub returns-then-d-eq0 : goal.returns-then-d-eq0
returns-then-d-eq0 c =
    let f = c.find_from.ensures in
    record { inside = f.inside; finds = (λ h. absurd (omega (arith, c.if-d-eq0.true)), λ e. f) }

pub seek-requires : goal.seek-requires
seek-requires c =
    let p = c.requires in
    (p.0 (omega (arith, c.if-d-eq0.false)), omega (arith, p.2), omega arith)

pub returns : goal.returns
returns c =
    let f = c.seek.ensures in
    record { inside = f.0; finds = (λ h. f.1, λ e. absurd (c.if-d-eq0.false e)) }
