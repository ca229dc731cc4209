-- `empty_at` meets its contract, by whether the text starts.
use mathlib.Core.Path.{sym, ap, ◌∙◌}
use mathlib.Core.Bool.{Bool}
use Rattle.ere_seek.specs.Seeking.{empty_at}
use Rattle.ere_seek.proofs.seeking.empty_at.Goals as goal

pub returns-then-first : goal.returns-then-first
returns-then-first c =
    let a = c.args in
    c.accepted.ensures ∙ ap (λ (y : Bool). empty_at a.d.now y a.last) (sym c.if-first.true)

pub returns : goal.returns
returns c =
    let a = c.args in
    c.accepted-2.ensures ∙ ap (λ (y : Bool). empty_at a.d.now y a.last) (sym c.if-first.false)
