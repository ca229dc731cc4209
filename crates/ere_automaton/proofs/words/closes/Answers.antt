-- `closes` meets its contract: one byte, or a range.
use Rattle.std.proofs.Common.{sym, ◌∙◌, arith}
use borrow.Author.Tests.{not-true}
use Rattle.ere_automaton.proofs.Spelling.{closing-one}
use Rattle.ere_automaton.proofs.words.closes.Goals as goal
use mathlib.Core.Path.{ap}
use mathlib.Core.Bool.{not}

pub returns-then-not-ranged : goal.returns-then-not-ranged
returns-then-not-ranged c =
    let a = c.args in
    closing-one a.d.now _ (c.shared_slice_known-then-not-ranged-1.given a.q).fits (sym c.requires.2 ∙ not-true _ (ap not c.if-not-ranged.true))

pub overflow_cast-w-2 : goal.overflow_cast-w-2
overflow_cast-w-2 c = omega (arith, c.shared_slice_known-3-1.given 23)

pub returns : goal.returns
returns c = c.inside.ensures
