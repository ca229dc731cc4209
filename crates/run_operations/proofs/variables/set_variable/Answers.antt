-- `set_variable` meets its contract: FS, or another variable.
use native.Mathlib.Omega.{arith}
use Rattle.run_operations.proofs.Assigning.{any-sized, sets-other, sets-separator}
use borrow.Author.Rules.{rules}
use Rattle.run_operations.proofs.variables.set_variable.Goals as goal

pub returns-then-v-ne-FS : goal.returns-then-v-ne-FS
returns-then-v-ne-FS c =
    let a = c.args in
    sets-other a.edition.number a.t.now a.kind a.work.now a.line a.v a.a _ c.requires.0
    c.requires.1 c.requires.2 c.requires.3 c.requires.4 (λ e. omega (arith, e, c.if-v-ne-FS.true)) c.copy_slot.ensures

pub set_separator-r-requires : goal.set_separator-r-requires
set_separator-r-requires c =
    (c.requires.0, c.requires.1, any-sized c.args.kind c.args.t.now c.requires.2, c.requires.4)

pub returns : goal.returns
returns c =
    let a = c.args in
    sets-separator a.edition.number a.t.now a.kind a.work.now a.line a.v a.a _ _ _
    c.separator_of-next.result c.set_separator-r.result
    (search rules) (omega (arith, c.if-v-ne-FS.false)) c.set_separator-r.ensures c.separator_of-next.ensures
