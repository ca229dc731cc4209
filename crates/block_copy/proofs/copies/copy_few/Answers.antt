-- `copy_few` meets its contract: the first, the middle and the last element are read, and then written.
use native.Mathlib.Omega.{arith}
use Rattle.block_copy.proofs.Copied.{none-copied, few-copied}
use Rattle.block_copy.proofs.copies.copy_few.Goals as goal

pub returns-then-src-eq0 : goal.returns-then-src-eq0
returns-then-src-eq0 c = let a = c.args in none-copied a.dst.now a.at a.src.now (omega arith)

pub returns : goal.returns
returns c =
    let a = c.args in
    few-copied a.dst.now a.at a.src.now c.requires.0 (omega arith) c.requires.1
