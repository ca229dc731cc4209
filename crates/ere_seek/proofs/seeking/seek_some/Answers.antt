-- `seek_some` meets its contract: from the first candidate, and from no other if no match starts elsewhere; or from
-- where nothing is pending.
use Rattle.ere_seek.proofs.Leftmost.{both-none, both_some, both-only, both-from}
use borrow.Author.Tests.{eq-eqb}
use Rattle.ere_seek.proofs.seeking.seek_some.Goals as goal

pub returns-then-x-s : goal.returns-then-x-s
returns-then-x-s c =
    let a = c.args in
    both-none a.d.now a.p.now a.x.now a.at c.candidate-s.result c.candidate-s.ensures c.if-x-s.true

pub returns-then-s-e : goal.returns-then-s-e
returns-then-s-e c =
    let a = c.args in
    let first = c.candidate-s in
    both_some a.d.now a.p.now a.x.now a.at first.result first.ensures _ c.longest-e.result
    first.ensures.inside c.if-s-e.true c.longest-e.ensures

pub returns-then-only : goal.returns-then-only
returns-then-only c =
    let a = c.args in
    let first = c.candidate-s in
    both-only a.d.now a.p.now a.x.now a.at first.result first.ensures _ _
    c.longest-e.result
    (eq-eqb _ _ c.if-only.true) c.either-until.ensures c.if-s-e.false
    c.longest-e.ensures

pub returns : goal.returns
returns c =
    let a = c.args in
    let first = c.candidate-s in
    let clear = c.first_start-f in
    both-from a.d.now a.p.now a.x.now a.at first.result first.ensures clear.result
    c.seek_from.result clear.ensures c.seek_from.ensures
