-- `put_words` meets its contract: the first k words are stored.
use mathlib.Core.Path.{◌≡◌}
use Rattle.ere_table.specs.Build.{words_at}
use Rattle.ere_table.proofs.build.put_words.Given as goal

abbrev pub invariant-loop-k : goal.invariant-loop-k
invariant-loop-k g l = l.s ≡ words_at l.initial.s l.at l.x l.k
