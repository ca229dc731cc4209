-- `read_escape` meets its contract.
use mathlib.Core.Path.{sym, ◌∙◌}
use Rattle.ere_member.proofs.Reading.{here, past, escape-past, escape-byte, escape-bad}
use Rattle.ere_member.proofs.members.read_escape.Goals as goal

pub returns-in_err-b : goal.returns-in_err-b
returns-in_err-b c =
    rw c.from_residual.ensures (escape-past _ _ (past _ _ _ c.get.ensures.lookup (sym c.copied.ensures ∙ c.in_err-b.was)))

pub returns-in_err-c : goal.returns-in_err-c
returns-in_err-c c =
    let h = here _ _ _ c.get.ensures.lookup (sym c.copied.ensures ∙ c.in_ok-b.was) in
    let e = c.escape_of.ensures in
    rw c.from_residual-in_err-c.ensures (escape-bad _ _ h (rw c.in_err-c.was at e))

pub returns : goal.returns
returns c =
    let h = here _ _ _ c.get.ensures.lookup (sym c.copied.ensures ∙ c.in_ok-b.was) in
    let e = c.escape_of.ensures in
    escape-byte _ _ h _ (rw c.in_ok-c.was at e)
