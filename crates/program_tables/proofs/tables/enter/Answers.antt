-- `enter`: the number that is found, and the entry stored where none is.
use mathlib.Core.Path.{refl}
use Rattle.program_tables.specs.Tables.{with_entry}
use Rattle.program_tables.proofs.Entries.{entered-new, entered-old}
use Rattle.program_tables.proofs.tables.enter.Goals as goal

pub returns-then-k-n : goal.returns-then-k-n
returns-then-k-n c =
    let f = c.find-k in
    let a = c.args in
    let t = a.table.now in (
      f.ensures,
      entered-new t (with_entry t a.n a.e) c.put_entry.ensures
          c.if-k-n.true,
    )

pub returns-else-k-n : goal.returns-else-k-n
returns-else-k-n c =
    let a = c.args in
    let t = a.table.now in
    (c.find-k.ensures, entered-old t (with_entry t a.n a.e) refl c.if-k-n.false)
