-- `put_gap` meets its contract.
use native.Mathlib.Omega.{arith}
use lib.ListN.{length}
use Rattle.buffer.specs.Parts.{part}
use mathlib.Core.Path.{sym, ap}
use mathlib.Core.Logic.{inl}
use Rattle.run_parts.proofs.Grown.{gap-none, gap-some, gap-size, grown-is, grown-none}
use Rattle.run_parts.proofs.joining.put_gap.Goals as goal

pub returns-then-i-eq0 : goal.returns-then-i-eq0
returns-then-i-eq0 c =
    let a = c.args in
    let e = gap-none (part a.from a.n a.work.now) a.i c.if-i-eq0.true in
    (omega (arith, ap length e), grown-is a.work.now a.work.now a.side a.at _ _ (sym e) (grown-none a.work.now a.side a.at c.requires.0 c.requires.1))

pub grow_text-requires : goal.grow_text-requires
grow_text-requires c =
    let a = c.args in
    let p = c.requires in
    (p.0, p.1, omega (arith, gap-size a.work.now a.from a.n a.i (omega (arith, p.0, p.4)) c.if-i-eq0.false, p.2), omega (arith, p.4), inl (omega (arith, p.4)))

pub returns : goal.returns
returns c =
    let a = c.args in
    let p = c.requires in (
      omega (arith, gap-size a.work.now a.from a.n a.i (omega (arith, p.0, p.4)) c.if-i-eq0.false),
      grown-is a.work.now _ a.side a.at _ _ (sym (gap-some (part a.from a.n a.work.now) a.i c.if-i-eq0.false)) c.grow_text.ensures,
    )
