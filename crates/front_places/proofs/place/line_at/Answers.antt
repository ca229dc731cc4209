-- `line_at` meets its contract: it counts the newlines before the place.
use native.Mathlib.Omega.{arith}
use Rattle.front_places.proofs.Around.{line-is}
use Rattle.front_places.proofs.place.line_at.Goals as goal

pub slice_bounds-count_newlines-count : goal.slice_bounds-count_newlines-count
slice_bounds-count_newlines-count c = omega arith

pub overflow_add-result : goal.overflow_add-result
overflow_add-result c = omega arith

pub returns : goal.returns
returns c = line-is c.args.text.now c.args.place _ c.count_newlines.ensures.0
