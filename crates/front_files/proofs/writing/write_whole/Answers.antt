-- `write_whole`: what a writer holds grows by the bytes that are taken.
use Rattle.std.proofs.Common.{sym, subst, arith}
use lib.Seq.{take-add}
use Rattle.std.specs.Io.KnownBytes.{Appends}
use Rattle.std.proofs.KnownBytes.{Appends-trans}
use Rattle.front_files.proofs.writing.write_whole.Goals as goal

pub loop-preserved : goal.loop-preserved
loop-preserved g c = (
  omega (arith, c.in_ok-at.ensures.inside, c.loop.invariant.0),
  subst (Appends _ _) (sym (take-add c.loop.at c.in_ok-at.field-0 c.args.bytes.now))
      (Appends-trans _ _ _ _ _ c.loop.invariant.1 c.in_ok-at.ensures.taken),
)
