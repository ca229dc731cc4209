-- `prepare` meets its contract: the table is that of the ERE, now or already.
use mathlib.Core.Path.{refl}
use Rattle.run_image.proofs.Compiling.{prepared-anew}
use Rattle.run_image.proofs.table.prepare.Goals as goal

pub returns : goal.returns
returns c =
    let done = c.compile.ensures in
    (done.size, refl, λ xs y p. prepared-anew y done)
