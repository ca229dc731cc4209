-- `field` meets its contract: what `locate` answers lies in the record.
use Rattle.fields.proofs.Inside.{span-within, handed-text, handed-none, handed-place, handed-within}
use lib.ListN.{length}
use native.Mathlib.Omega.{arith}
use Rattle.fields.proofs.entries.field.Goals as goal

pub overflow_add-result : goal.overflow_add-result
overflow_add-result c =
    let l = c.args.«record».now in
    let w = span-within 1 c.args.separator.now l c.args.k in
    omega (arith, handed-within l c.args.«record».ref_ptr c.in-Ok.f.start c.in-Ok.f.size _ c.in-Ok.ensures.1 (length l) w)

pub slice_bounds-result-end : goal.slice_bounds-result-end
slice_bounds-result-end c =
    let l = c.args.«record».now in
    let w = span-within 1 c.args.separator.now l c.args.k in
    omega (arith, handed-within l c.args.«record».ref_ptr c.in-Ok.f.start c.in-Ok.f.size _ c.in-Ok.ensures.1 (length l) w)

pub returns-in-Ok : goal.returns-in-Ok
returns-in-Ok c =
    let a = c.args in
    let f = c.in-Ok.f in
    let e = c.in-Ok.ensures.1 in (
      handed-text a.«record».now a.«record».ref_ptr f.start f.size _ e,
      handed-place a.«record».now a.«record».ref_ptr f.start f.size _ e,
    )

pub returns-in-Err : goal.returns-in-Err
returns-in-Err c =
    let a = c.args in
    let l = a.«record».now in
    let e = c.in-Err.ensures.1 in
    (handed-none l _ e, handed-place l a.«record».ref_ptr (length l) 0 _ e)
