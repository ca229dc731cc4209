-- `field_part` meets its contract: the slot, an unset field, or an entry.
use native.Mathlib.Omega.{arith}
use mathlib.Core.Logic.{inl, inr}
use native.Mathlib.Decide.{dec_lt}
use Rattle.run_parts.proofs.Grown.{new-slot, new-past, new-entry}
use Rattle.run_parts.proofs.parts.field_part.Goals as goal

pub returns-then-i-k : goal.returns-then-i-k
returns-then-i-k c =
    let a = c.args in
    let t = c.text_size.ensures in (
      new-slot a.work.now a.line a.k a.v a.i c.slot_kind.result c.slot_number.result c.text_size.result c.if-i-k.true
          c.slot_kind.ensures c.slot_number.ensures t,
      λ side e. record { size = t.most; fits = omega (arith, t.most, c.requires.3); apart = inl (omega (arith, t.most, c.requires.3)) },
    )

pub returns-then-line-i : goal.returns-then-line-i
returns-then-line-i c =
    let a = c.args in (
      new-past a.work.now a.line a.k a.v a.i _ c.if-i-k.false c.if-line-i.true,
      λ side e. record { size = omega arith; fits = omega arith; apart = inl (omega arith) },
    )

pub returns : goal.returns
returns c =
    let a = c.args in
    let p = c.requires in
    let r = c.read_entry-e.ensures in
    let s = c.record_start-start.ensures in (
      new-entry a.work.now a.line a.k a.v a.i c.record_start-start.result c.read_entry-e.result s c.if-i-k.false c.if-line-i.false r,
      λ side e.
          record {
            size = omega (arith, r.inside, p.1.size);
            fits = omega (arith, r.inside, p.1.size, p.1.side, s);
            apart =
                elim (dec_lt side 1) [
                  | yes h ↦ inr (omega (arith, s, e, h))
                  | no h ↦ inl (omega (arith, s, e, h, r.inside, p.1.size))
                ];
          },
    )
