-- `kind_in`: what is left of the table says what the whole does.
use Rattle.std.proofs.Common.{◌≡◌}
use lib.ListN.{drop}
use Rattle.program_scanner.specs.Spellings.{rank_in}
use Rattle.program_scanner.proofs.Spelling.{told}
use Rattle.program_scanner.proofs.spellings.kind_in.Given as goal

abbrev pub invariant-loop-word : goal.invariant-loop-word
invariant-loop-word l =
    rank_in l.edition.number l.other l.spelling (told l.table)
    ≡ rank_in l.edition.number l.other l.spelling (told (drop l.word-index l.table))
