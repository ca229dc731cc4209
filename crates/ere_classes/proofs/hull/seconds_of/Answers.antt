use Prim.Native.Nat.{ℕ}
use mathlib.Core.Path.{sym, ap, subst, ◌∙◌}
use mathlib.Core.List.{List}
use Rattle.ere_search.specs.Walk.{step}
use Rattle.ere_classes.specs.Bounds.{SecondsOf}
use Rattle.ere_classes.proofs.Bounded.{all-follow}
use Rattle.ere_classes.proofs.hull.seconds_of.Goals as goal

pub returns-then-has : goal.returns-then-has
returns-then-has c = all-follow _ _ _ _ _ c.requires.1

pub returns : goal.returns
returns c =
    subst (λ (s : List ℕ). SecondsOf c.args.t.now c.args.bytes.now c.args.k s c.args.out c.led.result)
    (c.step-s.ensures ∙ ap (λ (s : List ℕ). step c.args.t.now s c.args.b) c.set_at.ensures)
    (record { keeps = c.led.ensures.keeps; follows = record { none = c.led.ensures.none; unended = λ i h f. sym c.has.ensures ∙ c.if-has.false } })
