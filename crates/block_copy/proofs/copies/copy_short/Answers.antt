-- `copy_short` meets its contract: the last bytes begin in the first ones or right after them.
use native.Mathlib.Omega.{arith}
use mathlib.Core.Path.{◌∙◌}
use Rattle.block_copy.proofs.Copied.{ends-copied}
use Rattle.block_copy.proofs.copies.copy_short.Goals as goal

pub returns-then-src-le8 : goal.returns-then-src-le8
returns-then-src-le8 c =
    let a = c.args in
    let first = c.copy_block.ensures in
    c.copy_block-then-src-le8.ensures
    ∙ ends-copied a.dst.now a.at a.src.now 4 c.requires.0 (omega arith) (omega arith) first

pub returns : goal.returns
returns c =
    let a = c.args in
    let first = c.copy_block-2.ensures in
    c.copy_block-3.ensures
    ∙ ends-copied a.dst.now a.at a.src.now 8 c.requires.0 (omega arith) (omega arith) first
