-- `name_entry`: a special variable, or a user's name.
use Rattle.program_entries.proofs.Naming.{special-ready, special-stands, user-stands}
use Rattle.program_entries.proofs.entries.name_entry.Goals as goal

pub special-requires : goal.special-requires
special-requires c =
    let a = c.args in
    special-ready a.s.now a.t c.requires.0 c.if-t.true

pub returns-then-t : goal.returns-then-t
returns-then-t c =
    let a = c.args in
    special-stands a.s.now a.t c.requires.0 c.if-t.true c.special.result
    c.special.ensures

pub returns : goal.returns
returns c =
    let a = c.args in
    user-stands a.s.now a.t c.requires.0 c.requires.1 c.if-t.false
