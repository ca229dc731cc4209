use Prim.Native.Nat.{ℕ, ◌-◌}
use mathlib.Core.Path.{◌≡◌, sym, ap, ◌∙◌}
use native.Mathlib.Omega.{arith}
use Rattle.ere_classes.specs.Column.{column_of}
use Rattle.ere_classes.proofs.Columns.{column-room, column-more, column-none}
use Rattle.ere_classes.proofs.classes.column.Goals as goal

pub loop-p-init : goal.loop-p-init
loop-p-init c = sym (column-none c.args.t.now c.args.b c.args.from)

pub overflow_mul-c : goal.overflow_mul-c
overflow_mul-c c = omega (arith, c.loop-p.invariant, column-room c.args.t.now c.args.b c.args.from (c.loop-p.p - c.args.from) (omega arith))

pub overflow_add-c : goal.overflow_add-c
overflow_add-c c = omega (arith, c.loop-p.invariant, c.taken.ensures, column-room c.args.t.now c.args.b c.args.from (c.loop-p.p - c.args.from) (omega arith))

pub loop-p-preserved : goal.loop-p-preserved
loop-p-preserved c = omega (arith, c.loop-p.invariant, c.taken.ensures, column-more c.args.t.now c.args.b c.args.from c.loop-p.p (omega arith))

pub returns : goal.returns
returns c = let e : c.loop-p.p ≡ c.args.to = omega arith in c.loop-p.invariant ∙ ap (λ (q : ℕ). column_of c.args.t.now c.args.b c.args.from (q - c.args.from)) e
