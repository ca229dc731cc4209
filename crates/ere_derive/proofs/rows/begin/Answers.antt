use mathlib.Core.Path.{subst, ◌∙◌}
use native.Mathlib.Omega.{arith}
use Rattle.ere_sets.specs.Growth.{Has}
use Rattle.ere_sets.proofs.Grown.{has_on}
use Rattle.ere_derive.proofs.rows.begin.Goals as goal

pub returns : goal.returns
returns c =
    let x = c.in_ok-a.ensures in
    let y = c.in_ok-l.ensures in
    let z = c.in_ok-f.ensures in
    let h = y.entered.grows in
    let i = z.entered.grows in
    let sets = c.enter-3.new.sets in
    let n = c.in_ok-f.f.count in
    record {
      size = z.size ∙ y.size ∙ x.size;
      begun = record {
        few = z.entered.few;
        fair = i.fair (h.fair (x.entered.grows.fair (λ j m. absurd (omega arith))));
        is_accepted = subst (Has sets n c.in_ok-a.a.number) c.last.ensures (has_on (has_on x.entered.has h) i);
        is_later = subst (Has sets n c.in_ok-l.l.number) c.later.ensures (has_on y.entered.has i);
        is-first = subst (Has sets n c.in_ok-f.f.number) c.first.ensures z.entered.has;
      };
    }
