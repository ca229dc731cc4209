-- `put_words` ends: each turn takes one word more, and has room for its line.
use native.Mathlib.Omega.{arith}
use Rattle.front_runs.proofs.contents.put_words.Goals as goal

pub overflow_sub-size : goal.overflow_sub-size
overflow_sub-size c = omega arith

pub put_decimal-end-requires : goal.put_decimal-end-requires
put_decimal-end-requires c = omega arith

pub overflow_add-k : goal.overflow_add-k
overflow_add-k c = omega arith
