-- `string_turn`: each byte by its case.
use borrow.Author.Tests.{ne_eqb}
use Rattle.program_scanner.specs.Closings.{string_turn}
use Rattle.program_scanner.proofs.closings.string_turn.Goals as goal

pub returns-then-is_escape : goal.returns-then-is_escape
unfolding string_turn
returns-then-is_escape c = rw (c.if-escaped.true, ← c.is_escape.ensures, c.if-is_escape.true)

pub returns-then-escaped : goal.returns-then-escaped
unfolding string_turn
returns-then-escaped c = rw (c.if-escaped.true, ← c.is_escape.ensures, c.if-is_escape.false)

pub returns-in-34 : goal.returns-in-34
unfolding string_turn
returns-in-34 c = rw (c.if-escaped.false, c.in-34.is)

pub returns-in-10 : goal.returns-in-10
unfolding string_turn
returns-in-10 c = rw (c.if-escaped.false, c.in-10.is)

pub returns-in-92 : goal.returns-in-92
unfolding string_turn
returns-in-92 c = rw (c.if-escaped.false, c.in-92.is)

pub returns-in_default : goal.returns-in_default
unfolding string_turn
returns-in_default c =
    let other = c.in_default.in_default-own.rest in
    rw (c.if-escaped.false, ne_eqb _ 34 other.0.0.1, ne_eqb _ 10 other.0.1, ne_eqb _ 92 other.1)
