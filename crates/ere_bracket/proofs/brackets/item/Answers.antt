-- `item` meets its contract.
use mathlib.Core.Path.{sym, ◌∙◌}
use native.Mathlib.Omega.{arith}
use Rattle.ere_member.proofs.Reading.{joins-inside}
use Rattle.ere_bracket.proofs.Steps.{refuses, goes_on, leads-from, after-bad, after-joins, after-byte}
use Rattle.ere_bracket.proofs.brackets.item.Goals as goal

pub returns-in_err-b : goal.returns-in_err-b
returns-in_err-b c = rw c.from_residual.ensures (refuses _ _ (after-bad _ _ c.in_err-b.ensures.same))

pub overflow_add-next : goal.overflow_add-next
overflow_add-next c =
    let l = c.args.ere.now in
    let next = c.in_ok-b.next in
    omega (arith, joins-inside l next (sym c.if-joins.true ∙ c.joins.ensures))

pub returns-then-joins : goal.returns-then-joins
returns-then-joins c =
    let l = c.args.ere.now in
    let next = c.in_ok-b.next in
    let w = c.in_ok-b.ensures in
    let f = w.further in
    let joined = sym c.if-joins.true ∙ c.joins.ensures in
    leads-from _ _ _ _ (omega arith) c.range_to.ensures (after-joins _ _ l _ next w.same joined)

pub returns : goal.returns
returns c =
    let w = c.in_ok-b.ensures in
    let alone = sym c.if-joins.false ∙ c.joins.ensures in
    goes_on _ _ _ _ w.further (after-byte _ _ _ _ _ w.same alone c.with_byte-words.ensures)
