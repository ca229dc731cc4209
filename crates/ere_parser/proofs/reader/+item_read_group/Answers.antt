-- A group and its turns: each kind of turn is a move, and the loop keeps what holds.
use mathlib.Core.Path.{◌≡◌, sym, subst}
use Prim.Native.Nat.{ℕ, suc, ◌-◌}
use native.Mathlib.Omega.{arith}
use lib.ListN.{length}
use Rattle.ere_table.specs.Table.{table_words}
use Rattle.ere_pieces.specs.State.{grouped_of, grouped_table}
use Rattle.ere_parser.specs.Standing.{Turns, Under, GroupReads}
use Rattle.ere_parser.proofs.Moving.{moves-grouped, group-sizes, group-finished}
use Rattle.ere_parser.proofs.Items.{moves-deep, moved-in, under-start, under-turn, under-refused}
use Rattle.ere_parser.proofs.reader.+item_read_group.Goals as goal

pub item-returns-then-ere-s-ne40 : goal.item-returns-then-ere-s-ne40
item-returns-then-ere-s-ne40 t c = c.take_turn.ensures c.args.levels

pub item-returns-then-levels-eq0 : goal.item-returns-then-levels-eq0
item-returns-then-levels-eq0 t c =
    let a = c.args in
    rw c.if-levels-eq0.true (moves-deep a.t.now a.s.now c.requires.4 c.requires.2 c.if-ere-s-ne40.false)

pub item-read_group-g-requires : goal.item-read_group-g-requires
item-read_group-g-requires t c =
    (omega (arith, c.requires.0, c.if-levels-eq0.false), (c.requires.0, c.requires.1, omega (arith, c.requires.2), c.requires.4.fewer, c.requires.4.few))

pub item-put_group-requires : goal.item-put_group-requires
item-put_group-requires t c =
    let q = c.requires.4 in (
      omega (arith, c.read_group-g.auto.t, c.requires.0),
      q.order,
      omega (arith, q.fewer, q.few),
      c.requires.1,
      group-sizes (c.args.levels - 1) c.args.s.now q c.requires.2 c.if-ere-s-ne40.false c.args.t.now c.read_group-g.new.t c.read_group-g.result c.read_group-g.ensures,
    )

pub item-returns : goal.item-returns
item-returns t c =
    let a = c.args in
    let s = a.s.now in
    let g = c.read_group-g.result in
    let u = c.read_group-g.new.t in
    let full : length u ≡ table_words = omega (arith, c.read_group-g.auto.t, c.requires.0) in
    let e : suc (a.levels - 1) ≡ a.levels = omega (arith, c.if-levels-eq0.false) in
    moved-in a.ere.now a.levels a.t.now s c.put_group.new.s (grouped_of a.ere.now s g) c.put_group.result c.put_group.ensures.0 (sym c.put_group.ensures.1)
    (subst (λ (n : ℕ). Turns a.ere.now n a.t.now (grouped_table a.ere.now s g u) s (grouped_of a.ere.now s g)) e
    (moves-grouped (a.levels - 1) s c.requires.4 c.requires.2 c.if-ere-s-ne40.false a.t.now u g full c.read_group-g.ensures))

pub read_group-loop-s-init : goal.read_group-loop-s-init
read_group-loop-s-init t c =
    let a = c.args in (
      c.requires.0,
      subst (Under a.ere.now a.levels a.at a.lo a.count a.t.now a.t.now) (sym c.start-s.ensures)
          (under-start a.ere.now a.levels a.at a.lo a.count a.t.now c.requires.2 c.requires.3 c.requires.4),
    )

pub read_group-item-requires : goal.read_group-item-requires
read_group-item-requires t c =
    let open_there = c.ends.ensures.goes_on c.loop-s-test.true in
    (omega (arith, c.requires.0), (c.loop-s.invariant.0, c.requires.1, open_there.0, open_there.1, c.loop-s.invariant.1.safe))

pub read_group-loop-s-smaller : goal.read_group-loop-s-smaller
read_group-loop-s-smaller t c =
    let m = c.in_ok-item.ensures in
    let further = m.ahead in
    let inside = m.safe.inside in
    omega (arith, further, inside)

pub read_group-loop-s-preserved : goal.read_group-loop-s-preserved
read_group-loop-s-preserved t c =
    (omega (arith, c.item.auto.t, c.loop-s.invariant.0), under-turn c.loop-s.s c.loop-s.invariant.1 c.item.new.s c.in_ok-item.ensures)

pub read_group-returns-in_err-item : goal.read_group-returns-in_err-item
read_group-returns-in_err-item t c =
    let a = c.args in
    subst (GroupReads a.ere.now a.levels a.at a.lo a.count a.t.now c.item.new.t) (sym c.from_residual.ensures)
    (under-refused c.loop-s.s c.loop-s.invariant.1 c.in_err-item.ensures)

pub read_group-returns : goal.read_group-returns
read_group-returns t c =
    let a = c.args in
    subst (GroupReads a.ere.now a.levels a.at a.lo a.count a.t.now c.loop-s.t) (sym c.finish.ensures)
    (group-finished c.loop-s.s c.loop-s.invariant.1 (c.ends.ensures.closed c.loop-s-test.false))
