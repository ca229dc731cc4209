use mathlib.Core.Path.{◌≡◌}
use Prim.Native.Nat.{◌+◌, ◌*◌, ◌-◌}
use lib.ListN.{length}
use Rattle.program_reader.specs.Statements.{statement_at}
use Rattle.program_lexer.specs.Coded.{decoded}
use Rattle.program_statements.proofs.Blocks.{BlockTurn}
use Rattle.program_statements.proofs.statements.+block_body_if_else_repeat_statement.Given as goal

abbrev pub decreases-block : goal.decreases-block
decreases-block l = l.levels * 4 + 3

abbrev pub decreases-body : goal.decreases-body
decreases-body l = l.levels * 4

abbrev pub decreases-if_else : goal.decreases-if_else
decreases-if_else l = l.levels * 4 + 1

abbrev pub decreases-repeat : goal.decreases-repeat
decreases-repeat l = l.levels * 4 + 1

abbrev pub decreases-statement : goal.decreases-statement
decreases-statement l = l.levels * 4 + 2

abbrev pub invariant-block-loop-edition : goal.invariant-block-loop-edition
invariant-block-loop-edition l =
    (length l.section ≡ length l.initial.section)
    × BlockTurn l.edition.number l.s (statement_at l.edition.number l.s l.in_main l.levels) l.n l.initial.section (decoded l.initial.r.token) l.r
    l.section

abbrev pub decreases-block-loop-edition : goal.decreases-block-loop-edition
decreases-block-loop-edition l = length l.s - l.r.token.start
