-- `status_of`, by its test.
use native.Mathlib.Omega.{arith}
use borrow.Author.Tests.{le-leb, lt-leb}
use Rattle.front_choices.proofs.statuses.status_of.Goals as goal

pub returns-then-outcome-le-WORKING_ROOM_TOO_SMALL : goal.returns-then-outcome-le-WORKING_ROOM_TOO_SMALL
returns-then-outcome-le-WORKING_ROOM_TOO_SMALL c = (simp (le-leb _ _ c.if-outcome-le-WORKING_ROOM_TOO_SMALL.true), omega arith)

pub returns : goal.returns
returns c = (simp (lt-leb _ _ c.if-outcome-le-WORKING_ROOM_TOO_SMALL.false), omega arith)
