use mathlib.Core.Path.{sym, ◌∙◌}
use Rattle.program_statements.proofs.Blocks.{followed_same, followed-ended, followed-closed, followed-refused}
use Rattle.program_statements.proofs.statements.followed.Goals as goal

pub returns-then-r : goal.returns-then-r
returns-then-r c =
    followed_same c.args.edition.number c.args.s.now c.args.r c.if-r.true

pub returns-then-is_ender : goal.returns-then-is_ender
returns-then-is_ender c =
    followed-ended c.args.edition.number c.args.s.now c.args.r c.if-r.false
    c.requires _ _ (sym c.is_ender.ensures ∙ c.if-is_ender.true)
    c.token_after.ensures c.ok.ensures

pub returns-then-kind-eq-CLOSE_BRACE : goal.returns-then-kind-eq-CLOSE_BRACE
returns-then-kind-eq-CLOSE_BRACE c =
    followed-closed c.args.edition.number c.args.s.now c.args.r c.if-r.false
    c.requires (sym c.is_ender.ensures ∙ c.if-is_ender.false) c.if-kind-eq-CLOSE_BRACE.true

pub returns : goal.returns
returns c =
    followed-refused c.args.edition.number c.args.s.now c.args.r c.if-r.false
    c.requires (sym c.is_ender.ensures ∙ c.if-is_ender.false) _ c.if-kind-eq-CLOSE_BRACE.false
    c.refuse.ensures
