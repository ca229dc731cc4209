-- `put_blanks`: what is written, and what is left as it is spelled, are the list as it is spelled.
use borrow.Author.Rules.{rules}
use native.Mathlib.Omega.{arith}
use mathlib.Core.Path.{refl}
use lib.ListN.{get_or}
use Rattle.front_lines.proofs.Putting.{spell-start, spell_next, spell-end}
use Rattle.front_lines.proofs.Columns.{blank-few}
use Rattle.front_lines.proofs.lines.put_blanks.Goals as goal

pub loop-b-init : goal.loop-b-init
loop-b-init c = (refl, omega arith, spell-start _ _ _ _)

pub put_blank_byte-n-requires : goal.put_blank_byte-n-requires
put_blank_byte-n-requires c = omega arith

pub loop-b-preserved : goal.loop-b-preserved
loop-b-preserved c =
    (search rules, omega (arith, c.put_blank_byte-n.ensures.count, blank-few (get_or c.args.s.now c.loop-b.b-index 0)), spell_next _ _ _ _ _ _ _ _ _ c.loop-b-test.true c.loop-b.invariant.2 c.put_blank_byte-n.ensures)

pub returns : goal.returns
returns c = (spell-end _ _ _ _ _ _ _ c.loop-b-test.false c.loop-b.invariant.2, omega arith)
