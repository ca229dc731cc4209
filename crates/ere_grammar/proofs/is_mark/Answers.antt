-- `is_mark` meets its contract: a bit of its table for each mark.
-- Assumes nothing.
use Rattle.ere_grammar.proofs.Marks.{marked}
use Rattle.ere_grammar.proofs.is_mark.Goals as goal

pub returns : goal.returns
returns c = marked c.args.b c.ranges.b.fits
