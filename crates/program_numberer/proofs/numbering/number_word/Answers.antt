-- `number_word`: a word that names nothing here, a thing that is there, or a new one.
use mathlib.Core.Path.{refl}
use native.Mathlib.Omega.{arith}
use Rattle.program_numberer.proofs.Turns.{word-skipped, word-named, number_small, which-number, word-known, word-new}
use Rattle.program_numberer.proofs.numbering.number_word.Goals as goal

pub returns-then-is_named-table : goal.returns-then-is_named-table
returns-then-is_named-table c =
    let a = c.args in
    word-skipped a.edition.number a.s.now a.what a.section.now a.i a.table.now a.n
    c.op_in-op.result c.op_in-op.ensures c.is_named.result c.is_named.ensures c.if-is_named-table.true

pub enter-k-requires : goal.enter-k-requires
enter-k-requires c =
    let a = c.args in
    let q = word-named a.edition.number a.s.now a.what a.section.now a.i a.table.now a.n
    c.op_in-op.result c.op_in-op.ensures c.is_named.result c.is_named.ensures c.if-is_named-table.false in
    (q.1, (c.requires.3.1.held.few q.1).1, c.entry_at-e.ensures.inside)

pub instruction-requires : goal.instruction-requires
instruction-requires c =
    let a = c.args in
    let q = word-named a.edition.number a.s.now a.what a.section.now a.i a.table.now a.n
    c.op_in-op.result c.op_in-op.ensures c.is_named.result c.is_named.ensures c.if-is_named-table.false in
    let f = c.first_in in
    let e = c.entry_at-e in
    let k = c.enter-k in
    let small = number_small a.edition.number a.s.now a.what a.section.now a.i a.table.now a.n
    q.0 q.1 f.result f.ensures e.result e.ensures k.result (which-number a.s.now a.table.now a.n e.result k.result _ _ c.has_escapes.ensures k.ensures.0) c.requires.3 c.requires.2 in
    record {
      op_fits = omega (arith, c.op_in-op.ensures);
      depth_fits = omega (arith, c.depth_in.ensures);
      first_fits = small;
      second_fits = omega arith;
    }

pub returns-then-k-n : goal.returns-then-k-n
returns-then-k-n c =
    let a = c.args in
    let q = word-named a.edition.number a.s.now a.what a.section.now a.i a.table.now a.n
    c.op_in-op.result c.op_in-op.ensures c.is_named.result c.is_named.ensures c.if-is_named-table.false in
    let f = c.first_in in
    let e = c.entry_at-e in
    let k = c.enter-k in
    let d = c.depth_in in
    let v = c.instruction in
    word-known a.edition.number a.s.now a.what a.section.now a.i a.table.now a.n q.0 q.1
    f.result f.ensures e.result e.ensures k.result (which-number a.s.now a.table.now a.n e.result k.result _ _ c.has_escapes.ensures k.ensures.0) k.new.table k.ensures.1
    c.op_in-op.result d.result v.result c.op_in-op.ensures d.ensures v.ensures _ refl (omega (arith, c.if-k-n.true))

pub overflow_add-result : goal.overflow_add-result
overflow_add-result c =
    let a = c.args in
    let q = word-named a.edition.number a.s.now a.what a.section.now a.i a.table.now a.n
    c.op_in-op.result c.op_in-op.ensures c.is_named.result c.is_named.ensures c.if-is_named-table.false in
    record { fits = omega (arith, q.1, c.requires.2) }

pub returns : goal.returns
returns c =
    let a = c.args in
    let q = word-named a.edition.number a.s.now a.what a.section.now a.i a.table.now a.n
    c.op_in-op.result c.op_in-op.ensures c.is_named.result c.is_named.ensures c.if-is_named-table.false in
    let f = c.first_in in
    let e = c.entry_at-e in
    let k = c.enter-k in
    let d = c.depth_in in
    let v = c.instruction in
    word-new a.edition.number a.s.now a.what a.section.now a.i a.table.now a.n q.0 q.1
    f.result f.ensures e.result e.ensures k.result (which-number a.s.now a.table.now a.n e.result k.result _ _ c.has_escapes.ensures k.ensures.0) k.new.table k.ensures.1
    c.op_in-op.result d.result v.result c.op_in-op.ensures d.ensures v.ensures _ refl (omega (arith, c.if-k-n.false))
