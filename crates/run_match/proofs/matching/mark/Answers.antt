-- `mark` meets its contract.
use Rattle.run_match.proofs.Marked.{marks}
use Rattle.run_match.proofs.matching.mark.Goals as goal

pub returns : goal.returns
returns c =
    let a = c.args in
    marks a.work.now _ _ _ a.a a.start a.size c.requires.1 c.set_number.ensures
    c.set_number-2.ensures
    c.set_number-3.ensures
