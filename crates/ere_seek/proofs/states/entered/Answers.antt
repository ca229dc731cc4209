-- `entered` meets its contract, by whether the text starts.
use mathlib.Core.Path.{sym, ap}
use native.Mathlib.Omega.{arith}
use Rattle.ere_seek.specs.Starts.{entry_state}
use Rattle.ere_seek.proofs.states.entered.Goals as goal

pub overflow_cast-result : goal.overflow_cast-result
overflow_cast-result c = omega (arith, c.shared_slice_known-1.given 1)

pub returns-then-first : goal.returns-then-first
returns-then-first c = ap (entry_state c.args.d.now) (sym c.if-first.true)

pub overflow_cast-result-2 : goal.overflow_cast-result-2
overflow_cast-result-2 c = omega (arith, c.shared_slice_known-2-1.given 2)

pub returns : goal.returns
returns c = ap (entry_state c.args.d.now) (sym c.if-first.false)
