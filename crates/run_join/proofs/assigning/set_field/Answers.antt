-- `set_field` meets its contract: OFS shown, all fields split off, measured, and joined unless they are too long.
use native.Mathlib.Omega.{arith}
use mathlib.Core.Path.{◌≡◌, refl, ◌∙◌}
use Prim.Native.Nat.{◌+◌, ◌*◌, ◌≤◌}
use lib.ListN.{length}
use Rattle.buffer.specs.Parts.{part}
use Rattle.buffer.proofs.Parts.{length_part}
use Rattle.run_room.specs.Layout.{head_size, slot_bytes, base_end}
use Rattle.run_lines.specs.Records.{ofs_slot}
use Rattle.run_lines.proofs.Stored.{all-lined}
use Rattle.run_join.proofs.Assigned.{set_long, set-some}
use borrow.Author.Rules.{rules}
use Rattle.run_join.proofs.assigning.set_field.Reads as reads
use Rattle.run_join.proofs.assigning.set_field.Lts as lts
use Rattle.run_join.proofs.assigning.field_count.Reads as field-count-reads
use Rattle.run_parts.proofs.join_all.Reads as join-all-reads
use Rattle.run_parts.proofs.too_long.Reads as too-long-reads
use Rattle.run_lines.proofs.split_all.Reads as split-all-reads
use Rattle.run_room.proofs.show.Reads as show-reads
use Rattle.run_join.proofs.assigning.set_field.Goals as goal

pub returns-then-too_long : goal.returns-then-too_long
returns-then-too_long c =
    let a = c.args in
    let p = c.requires in
    let u = c.show-n.new.work in
    let y = c.split_all-all.new.work in
    let o = c.show-n.ensures in
    let d = c.split_all-all.ensures in
    let fits : base_end ≤ length y = omega (arith, p.0, o.slotted.outside.size, d.outside.size) in
    let b = part (ofs_slot * slot_bytes + head_size) c.show-n.result y in
    let lb : length b ≡ c.show-n.result = length_part (ofs_slot * slot_bytes + head_size) c.show-n.result y (omega (arith, fits, o.most)) in
    set_long a.edition.number a.t.now a.kind a.work.now u y a.line c.split_all-all.result a.k a.v c.field_count-count.result c.show-n.result p.0 p.1 o d p.4 c.field_count-count.ensures (c.too_long.ensures.long c.if-too_long.true b lb)

pub join_all-at-requires : goal.join_all-at-requires
join_all-at-requires c =
    let a = c.args in
    let p = c.requires in
    let u = c.show-n.new.work in
    let y = c.split_all-all.new.work in
    let o = c.show-n.ensures in
    let d = c.split_all-all.ensures in
    let fits : base_end ≤ length y = omega (arith, p.0, o.slotted.outside.size, d.outside.size) in
    let b = part (ofs_slot * slot_bytes + head_size) c.show-n.result y in
    let lb : length b ≡ c.show-n.result = length_part (ofs_slot * slot_bytes + head_size) c.show-n.result y (omega (arith, fits, o.most)) in (
      fits,
      (all-lined a.edition.number a.t.now a.kind u y a.line c.split_all-all.result p.1.placed d).placed,
      omega (arith, c.field_count-count.ensures, p.3, d.few),
      omega (arith, p.4),
      o.most,
      omega (arith, o.most),
      omega (arith, c.too_long.ensures.short c.if-too_long.false b lb),
    )

pub overflow_sub-result : goal.overflow_sub-result
overflow_sub-result c =
    let a = c.args in
    let p = c.requires in
    let u = c.show-n.new.work in
    let y = c.split_all-all.new.work in
    let o = c.show-n.ensures in
    let d = c.split_all-all.ensures in
    let fits : base_end ≤ length y = omega (arith, p.0, o.slotted.outside.size, d.outside.size) in
    let b = part (ofs_slot * slot_bytes + head_size) c.show-n.result y in
    let lb : length b ≡ c.show-n.result = length_part (ofs_slot * slot_bytes + head_size) c.show-n.result y (omega (arith, fits, o.most)) in
    omega (arith, c.join_all-at.ensures.place, c.too_long.ensures.short c.if-too_long.false b lb, d.side, p.1.placed.side)

pub overflow_add-result : goal.overflow_add-result
overflow_add-result c =
    let a = c.args in
    let p = c.requires in
    let u = c.show-n.new.work in
    let y = c.split_all-all.new.work in
    let o = c.show-n.ensures in
    let d = c.split_all-all.ensures in
    let fits : base_end ≤ length y = omega (arith, p.0, o.slotted.outside.size, d.outside.size) in
    let b = part (ofs_slot * slot_bytes + head_size) c.show-n.result y in
    let lb : length b ≡ c.show-n.result = length_part (ofs_slot * slot_bytes + head_size) c.show-n.result y (omega (arith, fits, o.most)) in
    omega (arith, c.join_all-at.ensures.place, c.too_long.ensures.short c.if-too_long.false b lb, d.side, p.1.placed.side)

pub returns : goal.returns
returns c =
    let a = c.args in
    let p = c.requires in
    let u = c.show-n.new.work in
    let y = c.split_all-all.new.work in
    let o = c.show-n.ensures in
    let d = c.split_all-all.ensures in
    let fits : base_end ≤ length y = omega (arith, p.0, o.slotted.outside.size, d.outside.size) in
    let b = part (ofs_slot * slot_bytes + head_size) c.show-n.result y in
    let lb : length b ≡ c.show-n.result = length_part (ofs_slot * slot_bytes + head_size) c.show-n.result y (omega (arith, fits, o.most)) in
    set-some a.edition.number a.t.now a.kind a.work.now u y a.line c.split_all-all.result a.k a.v c.field_count-count.result c.show-n.result p.0 p.1 o d p.4 c.field_count-count.ensures c.join_all-at.new.work _ c.join_all-at.result _ (omega (arith, c.field_count-count.ensures, p.3, d.few)) c.join_all-at.ensures
    (omega (arith, c.too_long.ensures.short c.if-too_long.false b lb))
    (omega arith) (omega arith) (omega arith) (omega arith) (omega arith)
