use mathlib.Core.Path.{refl, ◌∙◌}
use native.Mathlib.Omega.{arith}
use lib.ListN.{length-set}
use Rattle.ere_classes.proofs.Columns.{column-low, column-high, class-found, class-new}
use Rattle.ere_classes.proofs.classes.classify.Goals as goal

pub returns-in-Some : goal.returns-in-Some
returns-in-Some c =
    let a = c.args in
    let f = c.in-Some.ensures in
    let m = c.first_word-m.ensures.0 in
    record {
      few = omega arith;
      column_size = refl;
      byte_size = refl;
      size = length-set a.d.now _ _;
      classed = class-found a.t.now a.n a.b a.columns.now a.k a.bytes.now a.d.now c.in-Some.j (omega arith) f.0
          (f.1 ∙ column-low a.t.now a.b a.n c.first_word-m.result _ m c.column-x.ensures)
          (f.2 ∙ column-high a.t.now a.b a.n c.first_word-m.result _ m c.column-y.ensures);
    }

pub bounds-columns-k-2 : goal.bounds-columns-k-2
bounds-columns-k-2 c = simp length-set (omega arith)

pub returns : goal.returns
returns c =
    let a = c.args in
    let m = c.first_word-m.ensures.0 in
    record {
      few = omega arith;
      column_size = simp length-set;
      byte_size = length-set a.bytes.now _ _;
      size = length-set a.d.now _ _;
      classed = class-new a.t.now a.n a.b a.columns.now a.k a.bytes.now a.d.now _ _
          (omega arith) (omega arith) (omega arith) (omega arith)
          (column-low a.t.now a.b a.n c.first_word-m.result _ m c.column-x.ensures)
          (column-high a.t.now a.b a.n c.first_word-m.result _ m c.column-y.ensures);
    }
