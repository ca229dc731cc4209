-- `separate`, by its tests.
use borrow.Author.Tests.{eq-eqb, ne_eqb, lt-ltb, le-ltb}
use Rattle.front_files.specs.Joining.{separated, separated_to}
use Rattle.front_files.proofs.joining.separate.Goals as goal

pub returns-then-at-eq0 : goal.returns-then-at-eq0
unfolding separated separated_to
returns-then-at-eq0 c = (simp (eq-eqb _ _ c.if-at-eq0.true), simp (eq-eqb _ _ c.if-at-eq0.true))

pub returns-then-room-at-eq10 : goal.returns-then-room-at-eq10
unfolding separated separated_to
returns-then-room-at-eq10 c = (simp (ne_eqb _ _ c.if-at-eq0.false, eq-eqb _ _ c.if-room-at-eq10.true), simp (ne_eqb _ _ c.if-at-eq0.false, eq-eqb _ _ c.if-room-at-eq10.true))

pub returns-then-room-at : goal.returns-then-room-at
unfolding separated separated_to
returns-then-room-at c = (simp (ne_eqb _ _ c.if-at-eq0.false, ne_eqb _ _ c.if-room-at-eq10.false, le-ltb _ _ c.if-room-at.true), simp (ne_eqb _ _ c.if-at-eq0.false, ne_eqb _ _ c.if-room-at-eq10.false, le-ltb _ _ c.if-room-at.true))

pub returns : goal.returns
unfolding separated separated_to
returns c = (simp (ne_eqb _ _ c.if-at-eq0.false, ne_eqb _ _ c.if-room-at-eq10.false, lt-ltb _ _ c.if-room-at.false), simp (ne_eqb _ _ c.if-at-eq0.false, ne_eqb _ _ c.if-room-at-eq10.false, lt-ltb _ _ c.if-room-at.false))
