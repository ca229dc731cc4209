-- `split_to` meets its contract: what has been split so far stands for the same.
use Prim.Native.Nat.{suc, ◌-◌, ◌≤◌}
use native.Mathlib.Omega.{arith}
use Rattle.run_lines.specs.Records.{Splits}
use Rattle.run_lines.proofs.Turn.{splits-none, splits-on, splits-placed}
use Rattle.run_lines.proofs.lines.split_to.Reads as reads
use Rattle.run_lines.proofs.lines.split_to.Lts as lts
use Rattle.run_lines.proofs.lines.split_one.Reads as split-one-reads
use Rattle.run_lines.proofs.lines.split_to.Goals as goal

pub loop-r-init : goal.loop-r-init
loop-r-init c = let a = c.args in (splits-none a.edition.number a.t.now a.kind a.work.now a.line, λ h. h)

pub returns-then-r : goal.returns-then-r
returns-then-r c =
    (λ h. c.if-r.true, c.loop-r.invariant.1, c.loop-r.invariant.0)

pub split_one-r-requires : goal.split_one-r-requires
split_one-r-requires c =
    let a = c.args in
    let p = c.requires in
    let i = c.loop-r.invariant.0 in
    let placed = splits-placed a.edition.number a.t.now a.kind a.work.now c.loop-r.work a.line c.loop-r.r p.1 i in
    (omega (arith, i.outside.size, p.0), placed, p.2, c.if-r.false, omega (arith, c.loop-r-test.true, p.3))

pub loop-r-smaller : goal.loop-r-smaller
loop-r-smaller c = omega (arith, c.if-r.false, c.split_one-r.ensures.0, c.split_one-r.ensures.2.size)

pub loop-r-preserved : goal.loop-r-preserved
loop-r-preserved c =
    let a = c.args in
    let i = c.loop-r.invariant in
    let o = c.split_one-r.ensures in (
      splits-on a.edition.number a.t.now a.kind a.work.now c.loop-r.work _ a.line c.loop-r.r c.split_one-r.result i.0 o.2,
      λ h. omega (arith, c.loop-r-test.true, o.1),
    )

pub returns : goal.returns
returns c = (λ h. absurd (omega (arith, h, c.loop-r-test.false)), c.loop-r.invariant.1, c.loop-r.invariant.0)
