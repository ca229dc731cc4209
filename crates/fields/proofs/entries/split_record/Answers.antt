-- `split_record` meets its contract, by the record's length and by what `split_with` answers.
use Rattle.fields.proofs.Entering.{split-long, split-filled}
use Rattle.edition.specs.Limits.{first_edition}
use native.Mathlib.Omega.{arith}
use Rattle.fields.proofs.entries.split_record.Goals as goal

pub returns-then-record-gt-RECORD : goal.returns-then-record-gt-RECORD
returns-then-record-gt-RECORD c =
    let a = c.args in
    split-long first_edition a.separator.now a.«record».now a.spans.now a.first (omega (arith, c.if-record-gt-RECORD.true))

pub returns-then-separator-gt1 : goal.returns-then-separator-gt1
returns-then-separator-gt1 c =
    let a = c.args in
    split-filled first_edition a.separator.now a.«record».now a.spans.now a.first c.split_with.result _
    (omega (arith, c.if-record-gt-RECORD.false)) c.split_with.ensures

pub returns : goal.returns
returns c =
    let a = c.args in
    split-filled first_edition a.separator.now a.«record».now a.spans.now a.first c.split_with-2.result _
    (omega (arith, c.if-record-gt-RECORD.false)) c.split_with-2.ensures
