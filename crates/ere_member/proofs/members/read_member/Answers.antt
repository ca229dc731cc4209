-- `read_member` meets its contract.
use mathlib.Core.Path.{sym, ◌∙◌}
use Rattle.ere_member.proofs.Reading.{here, past, member-past, member-escape, member-plain, member-class, member-open}
use Rattle.ere_member.proofs.members.read_member.Goals as goal
use Rattle.ere_member.proofs.members.read_member.Goals.{else-b-eq91-via-then-b-eq91+else-names_class, else-b-eq91-via-else-b-eq91}

pub returns-in_err-b : goal.returns-in_err-b
returns-in_err-b c =
    rw c.from_residual.ensures (member-past _ _ (past _ _ _ c.get.ensures.lookup (sym c.copied.ensures ∙ c.in_err-b.was)))

pub returns-then-b-eq92 : goal.returns-then-b-eq92
returns-then-b-eq92 c =
    let h = here _ _ _ c.get.ensures.lookup (sym c.copied.ensures ∙ c.in_ok-b.was) in
    member-escape _ _ h _ c.if-b-eq92.true c.read_escape.ensures

pub returns-then-names_class : goal.returns-then-names_class
returns-then-names_class c =
    let h = here _ _ _ c.get.ensures.lookup (sym c.copied.ensures ∙ c.in_ok-b.was) in
    member-class _ _ h c.if-b-eq92.false c.if-b-eq91.true (sym c.if-names_class.true ∙ c.names_class.ensures)

pub returns : goal.returns
returns c =
    let h = here _ _ _ c.get.ensures.lookup (sym c.copied.ensures ∙ c.in_ok-b.was) in
    elim c.else-b-eq91.branch [
      | else-b-eq91-via-then-b-eq91+else-names_class w ↦
          member-open _ _ h c.if-b-eq92.false w.if-b-eq91.true (sym w.if-names_class.false ∙ w.names_class.ensures)
      | else-b-eq91-via-else-b-eq91 w ↦ member-plain _ _ h c.if-b-eq92.false w.if-b-eq91.false
    ]
