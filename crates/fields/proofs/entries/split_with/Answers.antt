-- `split_with` meets its contract, by the separator's kind and by how many fields there are.
use Rattle.separators.proofs.Separating.{told, not-refused}
use Rattle.fields.proofs.Entering.{filled_none, filled-many, filled-some}
use Rattle.separators.specs.Kinds.{Tells}
use Rattle.splitting.specs.Separator.{separator_of}
use mathlib.Core.Path.{subst}
use Rattle.fields.proofs.entries.split_with.Goals as goal
use native.Mathlib.Omega.{arith}
use borrow.Enum.Refused.{opened}

pub returns-in-Refused : goal.returns-in-Refused
returns-in-Refused c =
    let a = c.args in
    filled_none a.«record».now (separator_of a.edition.number a.separator.now) a.spans.now a.first
    (subst (Tells a.edition.number a.separator.now _) c.in-Refused.is c.kind_of-kind.ensures.0)

pub returns-then-n-gt-FIELDS : goal.returns-then-n-gt-FIELDS
returns-then-n-gt-FIELDS c =
    let a = c.args in
    let k = told a.edition.number a.separator.now _ c.kind_of-kind.result (not-refused c.kind_of-kind.result (opened c.in_default.in_default-own.keys2)) c.kind_of-kind.ensures.0 in
    filled-many a.«record».now (separator_of a.edition.number a.separator.now) a.spans.now a.first k.0 c.split_into-n.result _ k.1 (c.split_into-n.ensures k.0 k.2) c.if-n-gt-FIELDS.true

pub returns : goal.returns
returns c =
    let a = c.args in
    let k = told a.edition.number a.separator.now _ c.kind_of-kind.result (not-refused c.kind_of-kind.result (opened c.in_default.in_default-own.keys2)) c.kind_of-kind.ensures.0 in
    filled-some a.«record».now (separator_of a.edition.number a.separator.now) a.spans.now a.first k.0 c.split_into-n.result _ k.1 (c.split_into-n.ensures k.0 k.2) (omega arith)
