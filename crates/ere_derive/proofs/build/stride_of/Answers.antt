use native.Mathlib.Omega.{arith}
use native.Mathlib.Nat.{mul-le-mul}
use Rattle.ere_derive.proofs.Driving.{stride-plain, stride-paired}
use Rattle.ere_derive.proofs.build.stride_of.Goals as goal

pub returns-then-paired-eq0 : goal.returns-then-paired-eq0
returns-then-paired-eq0 c = stride-plain c.args.k c.args.paired c.if-paired-eq0.true

pub overflow_mul-result : goal.overflow_mul-result
overflow_mul-result c = let z = mul-le-mul c.requires c.requires in omega arith

pub overflow_add-result-3 : goal.overflow_add-result-3
overflow_add-result-3 c = let z = mul-le-mul c.requires c.requires in omega arith

pub returns : goal.returns
returns c = stride-paired c.args.k c.args.paired c.if-paired-eq0.false
