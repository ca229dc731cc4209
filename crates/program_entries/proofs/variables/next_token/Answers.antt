-- `next_token`: the token after, up to its closing slash where an ERE follows.
use mathlib.Core.Path.{sym, ◌∙◌}
use Rattle.program_entries.proofs.Walking.{next-ready, next-ere, next-plain}
use Rattle.program_entries.proofs.variables.next_token.Goals as goal

pub as_ere-requires : goal.as_ere-requires
as_ere-requires c =
    let a = c.args in
    let u = c.token_after-u in
    next-ready a.edition.number a.s.now a.t u.result a.parens u.ensures c.requires.1
    c.requires.2

pub returns-then-ere_follows : goal.returns-then-ere_follows
returns-then-ere_follows c =
    let a = c.args in
    let u = c.token_after-u in
    let r = c.as_ere in
    next-ere a.edition.number a.s.now a.t u.result a.parens u.ensures
    (sym c.ere_follows.ensures ∙ c.if-ere_follows.true) r.result r.ensures

pub returns : goal.returns
returns c =
    let a = c.args in
    let u = c.token_after-u in
    next-plain a.edition.number a.s.now a.t u.result a.parens u.ensures
    (sym c.ere_follows.ensures ∙ c.if-ere_follows.false)
