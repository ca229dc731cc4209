-- `put_text` meets its contract, by the value's kind: a number's digits are written anew.
use native.Mathlib.Omega.{arith}
use lib.ListN.{length}
use Rattle.buffer.specs.Parts.{part}
use Rattle.buffer.proofs.Parts.{length_part}
use mathlib.Core.Path.{sym, ap, ◌∙◌}
use Prim.Native.Nat.{ℕ, ◌+◌}
use Rattle.buffer.specs.Parts.{put}
use Rattle.number.specs.Range.{unbias}
use Rattle.decimals.specs.Decimal.{decimal_text}
use Rattle.run_parts.proofs.Grown.{number-text, text-low, text-words, grown-is, grown-none, grown-whole}
use Rattle.run_parts.proofs.joining.put_text.Goals as goal

pub write_decimal-requires : goal.write_decimal-requires
write_decimal-requires c =
    let args = c.args in
    let a = args in
    let q = args.p in
    let p = c.requires in
    let e = ap length (number-text q.kind q.word c.min-w.result (part q.from q.size a.work.now) c.if-k-eq-NUMBER.true c.min-w.ensures) in
    (omega (arith, c.min-w.ensures), omega (arith, e, p.3, c.record_start.ensures))

pub returns-then-k-eq-NUMBER : goal.returns-then-k-eq-NUMBER
returns-then-k-eq-NUMBER c =
    let args = c.args in
    let a = args in
    let q = args.p in
    let p = c.requires in
    let e = number-text q.kind q.word c.min-w.result (part q.from q.size a.work.now) c.if-k-eq-NUMBER.true c.min-w.ensures in
    let l = ap length e in (
      c.write_decimal.ensures.0 ∙ sym l,
      grown-is a.work.now _ a.side a.at _ _ (sym e)
          (grown-whole a.work.now a.side a.at _ p.0 p.1 (omega (arith, l, p.3))
          (c.write_decimal.ensures.1 ∙ ap (λ (m : ℕ). put a.work.now (m + a.at) (decimal_text (unbias c.min-w.result))) c.record_start.ensures)),
    )

pub returns-then-k-lt-TEXT : goal.returns-then-k-lt-TEXT
returns-then-k-lt-TEXT c =
    let a = c.args in
    let q = c.args.p in
    let p = c.requires in
    let e = text-low q.kind q.word (part q.from q.size a.work.now) c.if-k-eq-NUMBER.false c.if-k-lt-TEXT.true in
    (ap length (sym e), grown-is a.work.now a.work.now a.side a.at _ _ (sym e) (grown-none a.work.now a.side a.at p.0 p.1))

pub grow_text-requires : goal.grow_text-requires
grow_text-requires c =
    let args = c.args in
    let a = args in
    let q = args.p in
    let p = c.requires in
    let e = ap length (text-words q.kind q.word (part q.from q.size a.work.now) c.if-k-lt-TEXT.false) in
    (p.0, p.1, omega (arith, e, length_part q.from q.size a.work.now (omega (arith, p.0, p.2.fits)), p.3), p.2.fits, p.2.apart)

pub returns : goal.returns
returns c =
    let args = c.args in
    let a = args in
    let q = args.p in
    let p = c.requires in
    let e = text-words q.kind q.word (part q.from q.size a.work.now) c.if-k-lt-TEXT.false in
    let l = ap length e in (
      omega (arith, l, length_part q.from q.size a.work.now (omega (arith, p.0, p.2.fits))),
      grown-is a.work.now _ a.side a.at _ _ (sym e) c.grow_text.ensures,
    )
