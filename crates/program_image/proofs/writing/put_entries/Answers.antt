-- `put_entries`: what is left to write comes to the whole.
use mathlib.Core.Path.{refl, sym, ap, subst, ◌∙◌}
use mathlib.Core.List.{List, ◌++◌}
use Prim.Native.Nat.{ℕ, ◌+◌, ◌-◌}
use native.Mathlib.Omega.{arith}
use borrow.Author.Rules.{rules}
use Rattle.image_format.specs.Numbers.{coded}
use Rattle.varint.proofs.Puts.{coded-short}
use Rattle.program_tables.specs.declared.tables.Entry.{Entry}
use Rattle.program_tables.specs.Tables.{meant, InsideText}
use Rattle.program_image.specs.Written.{SmallNumber, entry_bytes}
use Rattle.program_image.proofs.Remaining.{left-start, left-more, left-none, writes-by, writes-both}
use Rattle.program_image.proofs.Parts.{entry-short}
use Rattle.program_image.proofs.Parts.{entries_left, entries-first, entries_next, entries_none}
use Rattle.program_image.proofs.writing.put_entries.Goals as goal

pub put_number-at-requires : goal.put_number-at-requires
put_number-at-requires c =
    let p = c.requires in
    (omega (arith, p.3), omega (arith, p.4))

pub loop-i-init : goal.loop-i-init
loop-i-init c =
    let a = c.args in
    let n = c.put_number-at in
    let whole = entries_left a.s.now a.constants a.table.now 0 a.n in
    let first = entries-first a.s.now a.constants a.table.now a.n in
    (omega arith, (omega arith, (left-start n.new.room n.result whole first, refl)))

pub entry_in-requires : goal.entry_in-requires
entry_in-requires c =
    let p = c.requires in
    omega (arith, c.loop-i-test.true, p.0)

pub put_entry-at-requires : goal.put_entry-at-requires
put_entry-at-requires c =
    let a = c.args in
    let p = c.requires in
    let l = c.loop-i in
    let n = c.put_number-at.ensures in
    let below = c.loop-i-test.true in
    let same = sym c.entry_in.ensures in (
      subst (InsideText a.s.now) same (p.1 l.i below),
      p.2,
      omega (arith, l.invariant.0, l.invariant.1.0, p.3, p.4, n.0, coded-short a.n),
      λ constant. subst SmallNumber same (p.5 constant l.i below),
    )

pub loop-i-preserved : goal.loop-i-preserved
loop-i-preserved c =
    let a = c.args in
    let p = c.requires in
    let l = c.loop-i in
    let n = c.put_number-at in
    let w = c.put_entry-at.ensures in
    let e = c.entry_in in
    let below = c.loop-i-test.true in
    let one : Entry → List ℕ = λ x. entry_bytes a.constants (meant a.s.now a.constants x) in
    let whole = entries_left a.s.now a.constants a.table.now 0 a.n in
    let rest = entries_left a.s.now a.constants a.table.now (l.i + 1) (a.n - (l.i + 1)) in
    let next =
    entries_next a.s.now a.constants a.table.now l.i a.n below
    ∙ ap (λ (x : Entry). one x ++ rest) (sym e.ensures) in
    let short = entry-short a.s.now a.constants e.result p.2 in (
      omega (arith, below),
      (
        omega (arith, l.invariant.1.0, w.after, short),
        (left-more n.new.room n.result whole (one e.result) rest next l.invariant.1.1.0 w, search rules),
      ),
    )

pub returns : goal.returns
returns c =
    let a = c.args in
    let l = c.loop-i in
    let n = c.put_number-at in
    let whole = entries_left a.s.now a.constants a.table.now 0 a.n in
    let none = entries_none a.s.now a.constants a.table.now l.i a.n c.loop-i-test.false in
    writes-both (coded a.n) whole (writes-by n.ensures)
    (left-none n.new.room n.result whole none l.invariant.1.1.0)
