-- `fill` meets its contract: the part that the library filled came back, and a byte is its only clone.
use Prim.Native.Nat.{ℕ}
use mathlib.Core.Path.{ap, ◌∙◌}
use lib.ListN.{replicate, length-take, length-drop}
use native.Mathlib.Omega.{arith}
use Rattle.buffer.specs.Parts.{put}
use Rattle.buffer.proofs.Lent.{part-came}
use Rattle.buffer.proofs.copies.fill.Goals as goal

pub returns : goal.returns
returns c =
    let a = c.args in
    let f = c.fill.ensures in
    part-came a.s.now a.at _ _ (omega arith) f.len
    ∙ ap (put a.s.now a.at) (f.after (λ y is. is))
    ∙ ap (λ (n : ℕ). put a.s.now a.at (replicate n a.b)) (simp (length-take, length-drop) (omega arith))
