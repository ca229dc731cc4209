-- `joins` meets its contract.
use mathlib.Core.Path.{sym, ◌∙◌}
use mathlib.Core.List.{[], ◌∷◌}
use native.Mathlib.Omega.{arith}
use Rattle.ere_member.proofs.Reading.{here, past, begins-inside, joins-not, joins-on, joins-last}
use Rattle.ere_member.proofs.members.joins.Goals as goal

pub returns-then-not-stands : goal.returns-then-not-stands
returns-then-not-stands c =
    let a = c.args in joins-not a.ere.now a.at (sym c.if-not-stands.true ∙ c.stands.ensures)

pub overflow_add-at : goal.overflow_add-at
overflow_add-at c =
    let a = c.args in
    let h = begins-inside a.ere.now a.at (45 ∷ []) (sym c.if-not-stands.false ∙ c.stands.ensures) in
    omega arith

pub returns-in-Some : goal.returns-in-Some
returns-in-Some c =
    let a = c.args in
    let h = here _ _ _ c.get.ensures.lookup (sym c.copied.ensures ∙ c.in-Some.is) in
    joins-on a.ere.now a.at (sym c.if-not-stands.false ∙ c.stands.ensures) h

pub returns-in-None : goal.returns-in-None
returns-in-None c =
    let a = c.args in
    let h = past _ _ _ c.get.ensures.lookup (sym c.copied.ensures ∙ c.in-None.is) in
    joins-last a.ere.now a.at (sym c.if-not-stands.false ∙ c.stands.ensures) h
