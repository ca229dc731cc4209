-- `next_by_pattern` meets its contract, by what `find_from` answers.
use Rattle.std.specs.Prelude.{Some, None}
use Rattle.splitting.specs.Field.{span, field}
use Prim.Native.Nat.{◌-◌}
use native.Mathlib.Numerals.{add-one}
use Rattle.separators.proofs.Stepping.{ere-is, found-goes, end_goes}
use lib.ListN.{length}
use mathlib.Core.Path.{ap, ◌∙◌}
use Rattle.separators.proofs.steps.next_by_pattern.Goals as goal

pub returns-in-Some : goal.returns-in-Some
returns-in-Some c =
    let a = c.args in
    let p = c.requires.1 in
    let m = c.in-Some in (
      found-goes a.text.now a.at m.s m.n p m.ensures.inside,
      λ x v. ere-is a.text.now a.at a.t.now (Some (m.s, m.n)) p (λ i h. (c.shared_slice_known-2-1.given i).fits) m.ensures x v,
    )

pub returns-in-None : goal.returns-in-None
returns-in-None c =
    let a = c.args in
    let p = c.requires.1 in (
      end_goes a.text.now a.at p,
      λ x v.
          ap (field (span a.at (length a.text.now - a.at))) (add-one (length a.text.now))
          ∙ ere-is a.text.now a.at a.t.now None p (λ i h. (c.shared_slice_known-2-1.given i).fits) c.in-None.ensures x v,
    )
