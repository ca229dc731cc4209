-- `free` meets its contract, by its test.
use Rattle.image_instructions.proofs.instructions.zero_if.Goals as goal

pub returns-else-not-over : goal.returns-else-not-over
returns-else-not-over c = rw c.if-not-over.false
