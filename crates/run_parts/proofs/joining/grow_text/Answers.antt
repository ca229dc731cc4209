-- `grow_text` meets its contract: a copy by blocks.
use native.Mathlib.Omega.{arith}
use mathlib.Core.Path.{ap, ◌∙◌}
use mathlib.Core.Logic.{inl, inr, ⊎_elim}
use Prim.Native.Nat.{ℕ, ◌+◌}
use Rattle.buffer.specs.Parts.{part, put}
use Rattle.block_copy.specs.Rounded.{blocks}
use Rattle.run_parts.proofs.Grown.{grown-part}
use Rattle.run_parts.proofs.joining.grow_text.Goals as goal

pub copy_blocks-requires : goal.copy_blocks-requires
copy_blocks-requires c = (omega (arith, c.record_start.ensures), omega (arith, c.record_start.ensures), ⊎_elim (λ h. inr (omega (arith, h, c.record_start.ensures))) (λ h. inl (omega (arith, h, c.record_start.ensures))) c.requires.4)

pub returns : goal.returns
returns c =
    let a = c.args in
    let p = c.requires in
    grown-part a.work.now a.side a.at a.from a.n p.0 p.1 p.2 p.3
    (c.copy_blocks.ensures ∙ ap (λ (m : ℕ). put a.work.now (m + a.at) (part a.from (blocks a.n) a.work.now)) c.record_start.ensures)
