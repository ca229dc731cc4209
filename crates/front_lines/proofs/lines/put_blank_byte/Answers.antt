-- `put_blank_byte`, by its tests.
use mathlib.Core.Path.{sym, ◌∙◌}
use borrow.Author.Tests.{eq-eqb, ne_eqb}
use Rattle.front_places.specs.Shown.{blank_byte}
use Rattle.front_lines.proofs.lines.put_blank_byte.Goals as goal

pub returns-then-b-eq9 : goal.returns-then-b-eq9
unfolding blank_byte
returns-then-b-eq9 c = rw (eq-eqb _ _ c.if-b-eq9.true) c.put_text.ensures

pub returns-then-prints : goal.returns-then-prints
unfolding blank_byte
returns-then-prints c = rw (ne_eqb _ _ c.if-b-eq9.false, sym c.prints.ensures ∙ c.if-prints.true) c.put_text-then-prints.ensures

pub returns : goal.returns
unfolding blank_byte
returns c = rw (ne_eqb _ _ c.if-b-eq9.false, sym c.prints.ensures ∙ c.if-prints.false) c.put_text-2.ensures
