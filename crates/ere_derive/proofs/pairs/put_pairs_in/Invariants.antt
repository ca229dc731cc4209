use Prim.Native.Nat.{◌+◌, ◌*◌}
use Rattle.ere_classes.specs.Frames.{Frame}
use Rattle.ere_derive.specs.Layout.{Paired}
use Rattle.ere_derive.proofs.pairs.put_pairs_in.Given as goal

abbrev pub invariant-loop-c : goal.invariant-loop-c
invariant-loop-c l = (Frame (l.p + (l.k + 1)) (l.p + (l.k + 1 + l.k * l.k)) l.initial.d l.d) × (Paired l.k l.initial.d l.d l.p l.c)
