-- `shown_around` meets its contract: the line's ends, and what fits of it.
use borrow.Author.Rules.{rules}
use native.Mathlib.Omega.{arith}
use Prim.Native.Nat.{◌+◌, ◌-◌}
use Rattle.front_places.proofs.Around.{since-few, left-few, part-few, shows-by}
use Rattle.front_places.proofs.shown.shown_around.Goals as goal

pub slice_bounds-since_newline-count : goal.slice_bounds-since_newline-count
slice_bounds-since_newline-count c = omega arith

pub overflow_sub-start : goal.overflow_sub-start
overflow_sub-start c = omega (arith, since-few c.args.text.now c.args.place _ c.since_newline.ensures.1)

pub slice_bounds-first_byte-count : goal.slice_bounds-first_byte-count
slice_bounds-first_byte-count c = omega arith

pub overflow_add-end : goal.overflow_add-end
overflow_add-end c =
    let a = c.args in
    omega (arith, left-few a.text.now a.place _ c.requires.0 c.first_byte.ensures)

pub slice_bounds-omit-count : goal.slice_bounds-omit-count
slice_bounds-omit-count c = omega arith

pub slice_bounds-omit-count-2 : goal.slice_bounds-omit-count-2
slice_bounds-omit-count-2 c = omega arith

pub slice_bounds-omit-end-2 : goal.slice_bounds-omit-end-2
slice_bounds-omit-end-2 c =
    let a = c.args in
    search (rules, left-few a.text.now a.place _ c.requires.0 c.first_byte.ensures)

pub omit-requires : goal.omit-requires
omit-requires c =
    let a = c.args in
    let t = a.text.now in
    let p = a.place in
    let s = p - c.since_newline.result in
    let e = p + c.first_byte.result in
    (omega (arith, c.requires, part-few t (p - s) s), omega (arith, c.requires, left-few t p _ c.requires.0 c.first_byte.ensures, part-few t (e - p) p))

pub overflow_add-from : goal.overflow_add-from
overflow_add-from c = omega arith

pub slice_bounds-fit_behind-count : goal.slice_bounds-fit_behind-count
slice_bounds-fit_behind-count c = omega arith

pub slice_bounds-fit_behind-count-2 : goal.slice_bounds-fit_behind-count-2
slice_bounds-fit_behind-count-2 c = omega arith

pub slice_bounds-fit_behind-end-2 : goal.slice_bounds-fit_behind-end-2
slice_bounds-fit_behind-end-2 c =
    let a = c.args in
    search (rules, left-few a.text.now a.place _ c.requires.0 c.first_byte.ensures)

pub overflow_add-result : goal.overflow_add-result
overflow_add-result c =
    let a = c.args in
    let t = a.text.now in
    let p = a.place in
    let e = p + c.first_byte.result in
    omega (arith, c.fit_behind-fits.ensures.1, left-few t p _ c.requires.0 c.first_byte.ensures, part-few t (e - p) p)

pub returns : goal.returns
returns c =
    let a = c.args in
    let t = a.text.now in
    let p = a.place in
    shows-by t p c.since_newline.result c.first_byte.result (since-few t p _ c.since_newline.ensures.1)
    c.since_newline.ensures.0 c.first_byte.ensures c.omit.result c.omit.ensures.0 c.fit_behind-fits.result
    c.omit.ensures.1 c.fit_behind-fits.ensures.0 c.fit_behind-fits.ensures.1 c.requires.0
