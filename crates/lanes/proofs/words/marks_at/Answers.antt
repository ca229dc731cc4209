-- `marks_at` meets its contract: the bytes of the word that was read are those of the slice.
use Prim.Native.Nat.{ℕ}
use mathlib.Core.Path.{ap, ◌∙◌}
use Rattle.little_endian.specs.Words.{le_bytes}
use Rattle.lanes.specs.Marks.{marks}
use Rattle.block_copy.proofs.Copied.{word_read}
use Rattle.lanes.proofs.words.marks_at.Goals as goal

pub returns : goal.returns
returns c =
    let a = c.args in
    let h = c.requires in
    let s = a.s.now in
    c.lanes_of.ensures
    ∙ ap (λ (w : ℕ). marks a.b (le_bytes 8 w)) c.get_word.ensures
    ∙ ap (marks a.b) (word_read 8 a.at s (λ i. (c.type_inv.s i).fits) h)
