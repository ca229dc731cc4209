use mathlib.Core.Path.{◌≡◌}
use Prim.Native.Nat.{◌+◌, ◌-◌, ◌*◌}
use lib.ListN.{length}
use Rattle.program_reader.specs.Expressions.{tier as tier_of, inside as inside_of}
use Rattle.program_parser.specs.Reading.{Ready}
use Rattle.program_operations.specs.Parts.{arguments_left}
use Rattle.program_operations.proofs.Turns.{Turning}
use Rattle.program_expressions.proofs.expressions.+arguments_assignment_call_field_form_inside_more_nested_prefix_form_primary_tier.Given as goal

abbrev pub decreases-arguments : goal.decreases-arguments
decreases-arguments l = l.levels * 32 + 2 + arguments_left l.f.shapes

abbrev pub decreases-assignment : goal.decreases-assignment
decreases-assignment l = l.levels * 32 + 2

abbrev pub decreases-call : goal.decreases-call
decreases-call l = l.levels * 32 + 6

abbrev pub decreases-field_form : goal.decreases-field_form
decreases-field_form l = l.levels * 32 + 8

abbrev pub decreases-inside : goal.decreases-inside
decreases-inside l = l.levels * 32

abbrev pub decreases-more : goal.decreases-more
decreases-more l = l.levels * 32 + 9 + 2 * l.k

abbrev pub decreases-nested : goal.decreases-nested
decreases-nested l = l.levels * 32 + 1

abbrev pub decreases-prefix_form : goal.decreases-prefix_form
decreases-prefix_form l = l.levels * 32 + 9

abbrev pub decreases-primary : goal.decreases-primary
decreases-primary l = l.levels * 32 + 7

abbrev pub decreases-tier : goal.decreases-tier
decreases-tier l = l.levels * 32 + 10 + 2 * l.k

abbrev pub invariant-more-loop-edition : goal.invariant-more-loop-edition
invariant-more-loop-edition l =
    (length l.section ≡ length l.initial.section) × (Ready l.edition.number l.s l.r.token l.r.count)
    × (Turning l.edition.number l.s l.printed l.k (tier_of l.edition.number l.s (inside_of l.edition.number l.s l.levels) l.printed
    (l.k - 1)) l.depth l.initial.r l.initial.section l.r l.section)

abbrev pub decreases-more-loop-edition : goal.decreases-more-loop-edition
decreases-more-loop-edition l = length l.s - l.r.token.start
