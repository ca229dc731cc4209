use mathlib.Core.Path.{◌≡◌}
use Prim.Native.Nat.{◌-◌}
use lib.ListN.{length}
use Rattle.program_items.specs.Programs.{each}
use Rattle.program_items.proofs.Whole.{ProgramTurn}
use Rattle.program_items.proofs.programs.read_program.Given as goal

abbrev pub invariant-loop-edition : goal.invariant-loop-edition
invariant-loop-edition l =
    (length l.begin ≡ length l.initial.begin) × (length l.main ≡ length l.initial.main) × (length l.end ≡ length l.initial.end)
    × ProgramTurn l.edition.number l.s (each l.initial.begin l.initial.main l.initial.end) l.p (each l.begin l.main l.end)

abbrev pub decreases-loop-edition : goal.decreases-loop-edition
decreases-loop-edition l = length l.s - l.p.token.start
