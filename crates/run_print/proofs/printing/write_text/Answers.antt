-- `write_text` meets its contract.
use mathlib.Core.Path.{refl}
use Rattle.run_print.proofs.Written.{wrote-text}
use Rattle.run_print.proofs.printing.write_text.Goals as goal

pub returns : goal.returns
returns c =
    let a = c.args in
    (wrote-text a.work.now a.out.now a.i a.n a.at _ refl c.requires.2 c.copy.ensures, refl)
