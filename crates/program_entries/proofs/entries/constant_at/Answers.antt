-- `constant_at`: a number that the text doesn't have, a NUMBER, or a STRING.
use mathlib.Core.Path.{sym, ap, ◌∙◌}
use native.Mathlib.Omega.{arith}
use borrow.Author.Tests.{eq-eqb, ne_eqb}
use Rattle.program_lexer.specs.declared.tokens.Token.{Token as Coded}
use Rattle.program_tokens.specs.Kinds.{rank}
use Rattle.program_entries.proofs.Placing.{number-inside, implied-stands, text-stands, number-stands}
use Rattle.program_entries.proofs.entries.constant_at.Goals as goal

pub returns-then-x-ge-FILTER_TEXT : goal.returns-then-x-ge-FILTER_TEXT
returns-then-x-ge-FILTER_TEXT c =
    let a = c.args in
    implied-stands a.edition.number a.s.now a.x c.if-x-ge-FILTER_TEXT.true c.requires

pub slice_bounds-read_digits-count : goal.slice_bounds-read_digits-count
unfolding rank
slice_bounds-read_digits-count c =
    let a = c.args in
    let kind = sym (ap (λ (t : Coded). t.kind) c.token_of-t.ensures) ∙ c.if-t-eq-NUMBER.true in
    omega (arith, number-inside a.edition.number a.s.now a.x (eq-eqb _ 4 kind))

pub slice_bounds-read_digits-start : goal.slice_bounds-read_digits-start
unfolding rank
slice_bounds-read_digits-start c =
    let a = c.args in
    let kind = sym (ap (λ (t : Coded). t.kind) c.token_of-t.ensures) ∙ c.if-t-eq-NUMBER.true in
    omega (arith, number-inside a.edition.number a.s.now a.x (eq-eqb _ 4 kind))

pub returns-then-t-eq-NUMBER : goal.returns-then-t-eq-NUMBER
unfolding rank
returns-then-t-eq-NUMBER c =
    let token-of = c.token_of-t in
    let if1 = c.if-x-ge-FILTER_TEXT in
    let a = c.args in
    let kind = sym (ap (λ (t : Coded). t.kind) token-of.ensures) ∙ c.if-t-eq-NUMBER.true in
    let d = c.read_digits-digits in
    number-stands a.edition.number a.s.now a.x (omega (arith, if1.false)) (eq-eqb _ 4 kind) d.result
    d.ensures

pub returns : goal.returns
unfolding rank
returns c =
    let if1 = c.if-x-ge-FILTER_TEXT in
    let a = c.args in
    let same = sym (ap (λ (t : Coded). t.kind) c.token_of-t.ensures) in
    let e = c.string_entry in
    text-stands a.edition.number a.s.now a.x (omega (arith, if1.false)) e.result
    (ne_eqb _ 4 (λ z. c.if-t-eq-NUMBER.false (sym same ∙ z))) e.ensures
