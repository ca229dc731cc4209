-- `first_byte` meets its contract: k bytes are passed, and the first place in the others is the first of all.
use Prim.Native.Nat.{◌+◌}
use native.Mathlib.Omega.{arith}
use mathlib.Core.Path.{ap, ◌∙◌}
use lib.ListN.{drop, get_or, drop_of_length-le}
use Rattle.buffer.specs.First.{first_byte}
use Rattle.buffer.proofs.Parts.{drop-next}
use Rattle.buffer.proofs.First.{first-byte-here, first-byte-on}
use Rattle.buffer.proofs.search.first_byte.Goals as goal

pub returns-then-x-b : goal.returns-then-x-b
returns-then-x-b c =
    let a = c.args in
    let k = c.loop-k.k in
    let s = a.s.now in
    omega (arith, c.loop-k.invariant, ap (first_byte a.b) (drop-next s k (omega arith)) ∙ first-byte-here a.b (get_or s k 0) (drop (k + 1) s) c.if-x-b.true)

pub loop-k-preserved : goal.loop-k-preserved
loop-k-preserved c =
    let a = c.args in
    let k = c.loop-k.k in
    let s = a.s.now in
    omega (arith, c.loop-k.invariant, ap (first_byte a.b) (drop-next s k (omega arith)) ∙ first-byte-on a.b (get_or s k 0) (drop (k + 1) s) c.if-x-b.false)

pub returns : goal.returns
unfolding first_byte
returns c =
    let a = c.args in
    let k = c.loop-k.k in
    omega (arith, c.loop-k.invariant, ap (first_byte a.b) (drop_of_length-le a.s.now {i = k} (omega arith)))
