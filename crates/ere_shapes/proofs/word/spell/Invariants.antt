-- `spell` meets its contract: the first q bytes are known, and s is what comes after them.
use Prim.Native.Nat.{◌≤◌}
use Rattle.ere_classes.specs.Frames.{Frame}
use Rattle.ere_shapes.proofs.Spelling.{Begun}
use Rattle.ere_shapes.proofs.word.spell.Given as goal

abbrev pub invariant-loop-q : goal.invariant-loop-q
invariant-loop-q l = (l.e ≤ 7) × (Frame 16 24 l.initial.d l.d) × (Begun l.t l.d l.e l.q l.s)
