-- `number_section`: a word a turn.
use mathlib.Core.Path.{◌≡◌}
use Prim.Native.Nat.{◌≤◌}
use lib.ListN.{length}
use Rattle.program_numberer.specs.Numbered.{SectionNumbered}
use Rattle.program_numberer.proofs.numbering.number_section.Given as goal

abbrev pub invariant-loop-i : goal.invariant-loop-i
invariant-loop-i l =
    (l.i ≤ l.count) × (length l.table ≡ length l.initial.table) × (length l.section ≡ length l.initial.section)
    × SectionNumbered l.edition.number l.s l.what l.initial.section l.i l.initial.table l.n l.section l.table l.m
