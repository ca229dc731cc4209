-- `compile` meets its contract: the bytes that the index leads to are the ERE's.
use native.Mathlib.Omega.{arith}
use Rattle.run_image.proofs.Compiling.{ere-inside, ere-serves}
use borrow.Author.Rules.{rules}
use Rattle.run_image.proofs.table.compile.Goals as goal

pub ere_bytes-requires : goal.ere_bytes-requires
ere_bytes-requires c =
    let y = c.requires.1 in
    (omega (arith, y.1.room), ere-inside y.1 c.args.n y.2)

pub returns : goal.returns
returns c =
    record {
      size = search rules;
      serves = ere-serves c.args.n c.ere_bytes.ensures.1 c.compile.ensures;
    }
