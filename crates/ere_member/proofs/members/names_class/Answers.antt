-- `names_class` meets its contract.
use mathlib.Core.Path.{sym, ◌∙◌}
use Rattle.ere_member.specs.Members.{class_marks}
use Rattle.ere_member.proofs.Reading.{here, past, begins-class, begins-past}
use Rattle.ere_member.proofs.members.names_class.Goals as goal

pub returns-in-Some : goal.returns-in-Some
returns-in-Some c = begins-class _ _ (here _ _ _ c.get.ensures.lookup (sym c.copied.ensures ∙ c.in-Some.is))

pub returns-in-None : goal.returns-in-None
returns-in-None c =
    let a = c.args in
    begins-past a.ere.now a.at (past _ _ _ c.get.ensures.lookup (sym c.copied.ensures ∙ c.in-None.is)) class_marks
