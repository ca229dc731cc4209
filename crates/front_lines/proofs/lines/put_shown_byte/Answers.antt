-- `put_shown_byte`, by its test.
use mathlib.Core.Path.{sym, ◌∙◌}
use Rattle.front_places.specs.Shown.{shown_byte}
use Rattle.front_lines.proofs.lines.put_shown_byte.Goals as goal

pub returns-then-prints : goal.returns-then-prints
unfolding shown_byte
returns-then-prints c = rw (sym c.prints.ensures ∙ c.if-prints.true) c.put_text.ensures

pub returns : goal.returns
unfolding shown_byte
returns c = rw (sym c.prints.ensures ∙ c.if-prints.false) c.put_text-2.ensures
