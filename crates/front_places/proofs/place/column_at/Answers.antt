-- `column_at` meets its contract: it counts the bytes since the last newline before the place.
use native.Mathlib.Omega.{arith}
use Rattle.front_places.proofs.Around.{column-is}
use Rattle.front_places.proofs.place.column_at.Goals as goal

pub slice_bounds-since_newline-count : goal.slice_bounds-since_newline-count
slice_bounds-since_newline-count c = omega arith

pub overflow_add-result : goal.overflow_add-result
overflow_add-result c = omega arith

pub returns : goal.returns
returns c = column-is c.args.text.now c.args.place _ c.since_newline.ensures.0
