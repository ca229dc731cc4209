-- `put_entry`: both words, or none.
use mathlib.Core.Path.{sym}
use Rattle.program_tables.proofs.Entries.{stored, no_room}
use Rattle.program_tables.proofs.tables.put_entry.Goals as goal

pub returns-then-n-table : goal.returns-then-n-table
returns-then-n-table c =
    let a = c.args in
    sym (stored a.table.now a.n a.e c.if-n-table.true)

pub returns-else-n-table : goal.returns-else-n-table
returns-else-n-table c =
    let a = c.args in
    sym (no_room a.table.now a.n a.e c.if-n-table.false)
