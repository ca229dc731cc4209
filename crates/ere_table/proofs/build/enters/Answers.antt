-- `enters` meets its contract, word for word. The proof is written out so that a wrong word shows as such.
use mathlib.Core.Path.{refl}
use Rattle.ere_table.proofs.build.enters.Goals as goal

pub returns : goal.returns
returns c = refl
