-- `join_one` meets its contract.
use native.Mathlib.Omega.{arith}
use lib.ListN.{length}
use Rattle.buffer.specs.Parts.{part}
use mathlib.Core.Path.{ap, refl}
use Prim.Native.Nat.{◌-◌}
use Rattle.values.specs.Value.{Value, text_of}
use Rattle.run_parts.proofs.Grown.{value-kept, one-joined}
use Rattle.run_parts.proofs.joining.join_one.Goals as goal

pub put_text-m-requires : goal.put_text-m-requires
put_text-m-requires c =
    let a = c.args in
    let p = c.requires in
    let side = 1 - a.line.side in
    let part_of = c.field_part-p.ensures.1 side (omega (arith, p.1.side)) in
    let e = ap (λ (q : Value). length (text_of q)) (value-kept a.work.now _ side a.at _ c.field_part-p.result part_of c.put_gap-a.ensures.1 _ c.field_part-p.ensures.0) in
    (omega (arith, p.0, c.put_gap-a.ensures.1.outside.size), omega (arith, p.1.side), part_of, omega (arith, e, c.put_gap-a.ensures.0, p.6))

pub put_entry-requires : goal.put_entry-requires
put_entry-requires c =
    let a = c.args in
    let p = c.requires in
    let side = 1 - a.line.side in
    let part_of = c.field_part-p.ensures.1 side (omega (arith, p.1.side)) in
    let e = ap (λ (q : Value). length (text_of q)) (value-kept a.work.now _ side a.at _ c.field_part-p.result part_of c.put_gap-a.ensures.1 _ c.field_part-p.ensures.0) in
    (omega (arith, p.0, c.put_gap-a.ensures.1.outside.size, c.put_text-m.ensures.1.outside.size), p.2, omega (arith, c.put_gap-a.ensures.0, p.6), omega (arith, e, c.put_text-m.ensures.0, p.6))

pub overflow_add-result : goal.overflow_add-result
overflow_add-result c =
    let a = c.args in
    let p = c.requires in
    let side = 1 - a.line.side in
    let part_of = c.field_part-p.ensures.1 side (omega (arith, p.1.side)) in
    let e = ap (λ (q : Value). length (text_of q)) (value-kept a.work.now _ side a.at _ c.field_part-p.result part_of c.put_gap-a.ensures.1 _ c.field_part-p.ensures.0) in
    omega (arith, e, c.put_gap-a.ensures.0, c.put_text-m.ensures.0, p.6)

pub returns : goal.returns
returns c =
    let a = c.args in
    let p = c.requires in
    one-joined a.work.now _ _ _ a.line a.k a.v a.i a.at c.put_gap-a.result c.put_text-m.result c.field_part-p.result
    (part a.from a.n a.work.now) (c.field_part-p.ensures.1 (1 - a.line.side) (omega (arith, p.1.side))) c.field_part-p.ensures.0
    c.put_gap-a.ensures.0 c.put_gap-a.ensures.1 c.put_text-m.ensures.0 c.put_text-m.ensures.1 _ (refl, refl, refl, refl) c.put_entry.ensures
