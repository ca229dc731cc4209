-- `range_to` meets its contract.
use Rattle.ere_bracket.proofs.Steps.{refuses, goes_on, up-to-bad, up-to-back, up-to-span}
use Rattle.ere_bracket.proofs.brackets.range_to.Goals as goal

pub returns-in_err-high : goal.returns-in_err-high
returns-in_err-high c =
    rw c.from_residual.ensures (refuses _ _ (up-to-bad _ _ _ c.in_err-high.ensures.same))

pub returns-then-high-low : goal.returns-then-high-low
returns-then-high-low c =
    refuses _ _ (up-to-back _ _ _ _ _ c.in_ok-high.ensures.same c.if-high-low.true)

pub returns : goal.returns
returns c =
    let w = c.in_ok-high.ensures in
    goes_on _ _ _ _ w.further (up-to-span _ _ _ _ _ _ w.same c.if-high-low.false c.with_range-words.ensures)
