-- `find`: the number is what was passed and what is left of it.
use mathlib.Core.Path.{sym, subst, ap, ◌∙◌}
use native.Mathlib.Omega.{arith}
use Rattle.program_numbering.specs.Numbering.{same_constant}
use Rattle.program_tables.specs.declared.tables.Entry.{Entry}
use Rattle.program_tables.specs.Tables.{meant, InsideText}
use Rattle.program_tables.proofs.Entries.{number-starts, number-found, number_more, number-none}
use Rattle.program_tables.proofs.tables.find.Goals as goal

pub loop-k-init : goal.loop-k-init
loop-k-init c =
    let a = c.args in
    let q = meant a.s.now a.escapes a.e in
    (omega arith, omega (arith, number-starts a.s.now a.escapes a.table.now q a.n))

pub entry_in-requires : goal.entry_in-requires
entry_in-requires c =
    omega (arith, c.loop-k-test.true, c.requires.0)

pub same_entry-requires : goal.same_entry-requires
same_entry-requires c =
    let l = c.loop-k in (
      c.requires.2,
      subst (InsideText c.args.s.now) (sym c.entry_in.ensures)
          (c.requires.1 l.k c.loop-k-test.true),
    )

pub returns-then-same_entry : goal.returns-then-same_entry
returns-then-same_entry c =
    let a = c.args in
    let l = c.loop-k in
    let q = meant a.s.now a.escapes a.e in
    let equal =
    ap (λ (x : Entry). same_constant q (meant a.s.now a.escapes x)) (sym c.entry_in.ensures)
    ∙ (sym c.same_entry.ensures ∙ c.if-same_entry.true) in
    omega (
      arith,
      l.invariant.1,
      number-found a.s.now a.escapes a.table.now q l.k a.n
          c.loop-k-test.true equal,
    )

pub loop-k-preserved : goal.loop-k-preserved
loop-k-preserved c =
    let a = c.args in
    let l = c.loop-k in
    let q = meant a.s.now a.escapes a.e in
    let below = c.loop-k-test.true in
    let equal =
    ap (λ (x : Entry). same_constant q (meant a.s.now a.escapes x)) (sym c.entry_in.ensures)
    ∙ (sym c.same_entry.ensures ∙ c.if-same_entry.false) in (
      omega (arith, below),
      omega (arith, l.invariant.1, number_more a.s.now a.escapes a.table.now q l.k a.n below equal),
    )

pub returns : goal.returns
returns c =
    let a = c.args in
    let l = c.loop-k in
    let q = meant a.s.now a.escapes a.e in
    omega (
      arith,
      l.invariant.0,
      l.invariant.1,
      number-none a.s.now a.escapes a.table.now q l.k a.n c.loop-k-test.false,
    )
