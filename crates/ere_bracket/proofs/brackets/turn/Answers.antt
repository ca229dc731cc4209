-- `turn` meets its contract.
use native.Mathlib.Omega.{arith}
use Rattle.ere_bracket.proofs.Steps.{closes, leads-from, turn-first, turn_end, turn-hyphen, turn-item}
use Rattle.ere_bracket.proofs.brackets.turn.Goals as goal

pub returns-then-first : goal.returns-then-first
returns-then-first c =
    let a = c.args in
    leads-from _ _ _ _ (omega arith) c.item.ensures (turn-first _ a.ere.now a.at _ c.if-first.true)

pub returns-then-ere-at-eq93 : goal.returns-then-ere-at-eq93
returns-then-ere-at-eq93 c =
    let a = c.args in
    let same = turn_end _ a.ere.now a.at _ c.if-first.false c.requires c.if-ere-at-eq93.true in
    closes _ _ _ _ (omega arith, omega arith) same

pub returns-then-ere-at-eq45 : goal.returns-then-ere-at-eq45
returns-then-ere-at-eq45 c =
    let a = c.args in
    let same = turn-hyphen _ a.ere.now a.at _ c.if-first.false c.requires c.if-ere-at-eq93.false c.if-ere-at-eq45.true in
    leads-from _ _ _ _ (omega arith) c.last_hyphen.ensures same

pub returns : goal.returns
returns c =
    let a = c.args in
    let same = turn-item _ a.ere.now a.at _ c.if-first.false c.requires c.if-ere-at-eq93.false c.if-ere-at-eq45.false in
    leads-from _ _ _ _ (omega arith) c.item-2.ensures same
