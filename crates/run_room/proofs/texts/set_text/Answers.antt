-- `set_text` meets its contract: the word of its kind and length, and the bytes after the head.
use native.Mathlib.Omega.{arith}
use lib.ListN.{length}
use lib.Seq.{take-length}
use Rattle.run_room.proofs.Slotwise.{slotted-copied}
use Rattle.run_room.proofs.texts.set_text.Goals as goal

pub returns-then-bytes-lt4 : goal.returns-then-bytes-lt4
returns-then-bytes-lt4 c =
    let a = c.args in
    let b = a.bytes.now in
    slotted-copied a.work.now a.i (length b) b b (omega arith) (omega arith) (omega arith) (omega arith) (take-length b) c.put_kind.ensures c.copy_few.ensures

pub returns-then-bytes-le8 : goal.returns-then-bytes-le8
returns-then-bytes-le8 c =
    let a = c.args in
    let b = a.bytes.now in
    slotted-copied a.work.now a.i (length b) b b (omega arith) (omega arith) (omega arith) (omega arith) (take-length b) c.put_kind.ensures c.copy_short.ensures

pub returns-then-bytes-le-BLOCK : goal.returns-then-bytes-le-BLOCK
returns-then-bytes-le-BLOCK c =
    let a = c.args in
    let b = a.bytes.now in
    slotted-copied a.work.now a.i (length b) b b (omega arith) (omega arith) (omega arith) (omega arith) (take-length b) c.put_kind.ensures c.copy_short-then-bytes-le-BLOCK.ensures

pub returns : goal.returns
returns c =
    let a = c.args in
    let b = a.bytes.now in
    slotted-copied a.work.now a.i (length b) b b (omega arith) (omega arith) (omega arith) (omega arith) (take-length b) c.put_kind.ensures c.copy.ensures
