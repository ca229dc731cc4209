use native.Mathlib.Omega.{arith}
use lib.ListN.{length-set}
use Rattle.ere_derive.proofs.Seeking.{headed-both}
use Rattle.ere_derive.proofs.both.put_both.Goals as goal

pub bounds-d-11 : goal.bounds-d-11
bounds-d-11 c = simp length-set (omega arith)

pub bounds-d : goal.bounds-d
bounds-d c = simp length-set (omega arith)

pub returns : goal.returns
returns c = headed-both c.args.t.now c.args.n c.args.d.now c.requires.1
