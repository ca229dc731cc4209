-- `check_instructions` meets its contract: what the instructions so far leave to be checked is what the section leaves.
use Rattle.image_instructions.proofs.Judging.{Reached}
use Rattle.image_instructions.proofs.instructions.check_instructions.Given as goal

abbrev pub invariant-loop-n : goal.invariant-loop-n
invariant-loop-n l = Reached l.context l.index l.count l.n
