-- `step` meets its contract: one word after the other.
use Rattle.ere_search.proofs.words.step.Goals as goal

pub returns : goal.returns
returns c = rw (← c.step_word-out.ensures) c.step_word.ensures
