-- `word` meets its contract: with too few bytes, with an index too high, and else.
use native.Mathlib.Omega.{arith}
use Rattle.little_endian.proofs.Numbers.{le-at}
use Rattle.vectors_frames.proofs.Bytes.{number_in, number-out}
use Rattle.vectors_frames.proofs.payload.word.Goals as goal

pub returns-then-p-lt8 : goal.returns-then-p-lt8
returns-then-p-lt8 c = number-out 8 c.args.at c.args.p.now (omega arith)

pub returns-then-p-at : goal.returns-then-p-at
returns-then-p-at c = number-out 8 c.args.at c.args.p.now (omega arith)

pub returns : goal.returns
returns c = number_in 8 c.args.at c.args.p.now (omega arith) (omega (arith, c.from_le_bytes.ensures, le-at 7 c.args.at c.args.p.now (omega arith)))
