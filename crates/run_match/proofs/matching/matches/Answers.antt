-- `matches` meets its contract: the text is shown, and it has a match where the definition finds one.
use mathlib.Core.Path.{refl}
use Rattle.run_match.proofs.Marked.{tested}
use Rattle.run_match.proofs.matching.matches.Goals as goal

pub returns : goal.returns
returns c =
    let a = c.args in
    tested a.t.now a.work.now _ _ a.a c.show-n.result _ c.show-n.ensures c.requires.1 refl
    (λ i. (c.slice_known-2-1.given i).fits) a.d.now c.has_match-b.result c.has_match-b.ensures
    c.set_truth.ensures
