-- `variable_at`: past the text's end, or the token at a place.
use mathlib.Core.Path.{sym, subst}
use mathlib.Core.Bool.{false}
use Rattle.program_tokens.specs.Tokens.{Token, spelling}
use Rattle.program_parser.specs.Meaning.{token_from}
use Rattle.program_parser.proofs.Codes.{decoded-back}
use Rattle.program_entries.specs.Named.{variable_of, Stands, WordToken}
use Rattle.program_entries.proofs.Placing.{word_at, past-stands}
use Rattle.program_entries.proofs.entries.variable_at.Goals as goal

pub returns-then-s-x : goal.returns-then-s-x
returns-then-s-x c =
    let a = c.args in
    past-stands a.edition.number a.s.now a.x c.if-s-x.true c.requires.1

pub name_entry-requires : goal.name_entry-requires
name_entry-requires c =
    let a = c.args in
    let t = c.token_of in
    let back = decoded-back t.result (token_from a.edition.number a.s.now a.x) t.ensures in
    let w = word_at a.edition.number a.s.now a.x c.requires.2 c.if-s-x.false in
    (subst (WordToken a.s.now) (sym back) w, c.requires.0)

pub returns : goal.returns
returns c =
    let a = c.args in
    let t = c.token_of in
    let e = c.name_entry in
    let back = decoded-back t.result (token_from a.edition.number a.s.now a.x) t.ensures in
    subst (λ (u : Token). Stands a.s.now false (variable_of (spelling a.s.now u)) e.result) back e.ensures
