-- `seek_both` meets its contract: an empty match where the search starts, one of at least a byte, or an empty one at
-- the end.
use mathlib.Core.Path.{sym, ◌∙◌}
use mathlib.Core.Logic.{inl, inr}
use native.Mathlib.Omega.{arith}
use Rattle.ere_seek.proofs.Leftmost.{Missing, finds-first, finds-some, finds-last, finds-none}
use Rattle.ere_seek.proofs.seeking.seek_both.Goals as goal
use Rattle.ere_seek.proofs.seeking.seek_both.Goals.{Joined-else-least-eq0}
use Rattle.ere_seek.proofs.seeking.seek_both.Goals.{else-least-eq0-2-via-then-least-eq0-2+else-empty_at-2, else-least-eq0-2-via-else-least-eq0-2}
use Rattle.ere_seek.proofs.seeking.seek_both.Goals.{else-least-eq0-via-then-least-eq0+else-empty_at, else-least-eq0-via-else-least-eq0}

-- where no empty match is at the start of the search
missing : (c : Joined-else-least-eq0)
    → let a = c.args in Missing a.d.now a.x.now a.at a.least
missing c =
    elim c.else-least-eq0.branch [
      | else-least-eq0-via-then-least-eq0+else-empty_at w ↦ inl (w.if-least-eq0.true, sym w.empty_at.ensures ∙ w.if-empty_at.false)
      | else-least-eq0-via-else-least-eq0 w ↦ inr (omega (arith, w.if-least-eq0.false, c.requires.3))
    ]

pub returns-then-empty_at : goal.returns-then-empty_at
returns-then-empty_at c =
    let a = c.args in
    finds-first a.d.now a.p.now a.x.now a.at a.least c.longest-e.result
    c.if-least-eq0.true
    (sym c.empty_at.ensures ∙ c.if-empty_at.true) c.longest-e.ensures

pub returns-in-Some : goal.returns-in-Some
returns-in-Some c =
    let a = c.args in
    finds-some a.d.now a.p.now a.x.now a.at a.least c.seek_some.result c.in-Some.m.0 c.in-Some.m.1
    c.in-Some.is
    (missing (goal.at.returns-in-Some c).Joined-else-least-eq0) c.seek_some.ensures

pub returns-then-empty_at-2 : goal.returns-then-empty_at-2
returns-then-empty_at-2 c =
    let a = c.args in
    finds-last a.d.now a.p.now a.x.now a.at a.least c.seek_some.result
    c.in_default.is
    c.if-least-eq0-2.true (missing (goal.at.returns-then-empty_at-2 c).Joined-else-least-eq0) (sym c.empty_at-then-least-eq0-2.ensures ∙ c.if-empty_at-2.true)
    c.seek_some.ensures

pub returns : goal.returns
returns c =
    let a = c.args in
    finds-none a.d.now a.p.now a.x.now a.at a.least c.seek_some.result
    c.in_default.is
    (missing (goal.at.returns c).Joined-else-least-eq0)
    (λ z. elim c.else-least-eq0-2.branch [
      | else-least-eq0-2-via-then-least-eq0-2+else-empty_at-2 w ↦ sym w.empty_at-then-least-eq0-2.ensures ∙ w.if-empty_at-2.false
      | else-least-eq0-2-via-else-least-eq0-2 w ↦ absurd (w.if-least-eq0-2.false z)
    ])
    c.seek_some.ensures
