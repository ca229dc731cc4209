-- `split_into` meets its contract: n fields are written, and those from `at` on are left.
use Rattle.field_spans.proofs.Spreading.{Held}
use Rattle.separators.specs.Kinds.{Means}
use Rattle.splitting.specs.Separator.{Separator}
use Rattle.field_spans.proofs.spans.split_into.Given as goal

abbrev pub invariant-loop-n : goal.invariant-loop-n
invariant-loop-n l =
    (s : Separator) → Means l.edition.number l.t l.kind s → Held l.text s l.initial.spans l.first l.at l.n l.spans
