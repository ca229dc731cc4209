use native.Mathlib.Omega.{arith}
use lib.ListN.{length-set}
use Rattle.ere_derive.proofs.Driving.{headed}
use Rattle.ere_derive.proofs.build.put_head.Goals as goal

pub bounds-d-1 : goal.bounds-d-1
bounds-d-1 c = simp length-set (omega arith)

pub bounds-d-2 : goal.bounds-d-2
bounds-d-2 c = simp length-set (omega arith)

pub bounds-d-3 : goal.bounds-d-3
bounds-d-3 c = simp length-set (omega arith)

pub bounds-d-4 : goal.bounds-d-4
bounds-d-4 c = simp length-set (omega arith)

pub returns : goal.returns
returns c = headed c.args.d.now c.args.k c.args.first c.args.later c.args.accepted c.args.pairs c.requires.0
