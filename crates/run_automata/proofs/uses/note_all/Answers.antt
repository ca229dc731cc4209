-- `note_all` meets its contract.
use mathlib.Core.Path.{refl}
use Rattle.run_automata.proofs.uses.note_all.Goals as goal

pub loop-k-init : goal.loop-k-init
loop-k-init c = refl
