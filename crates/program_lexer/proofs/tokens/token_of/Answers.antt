-- `token_of`: by its first byte.
use mathlib.Core.Path.{◌∙◌}
use Rattle.program_lexer.proofs.Coding.{of_end, of-newline, of_word, of_number, of-string, of-operator}
use Rattle.program_lexer.proofs.tokens.token_of.Goals as goal

pub returns-then-s-a : goal.returns-then-s-a
returns-then-s-a c =
    let a = c.args in
    of_end a.edition.number a.s.now a.a c.if-s-a.true

pub returns-then-b-eq10 : goal.returns-then-b-eq10
returns-then-b-eq10 c =
    let a = c.args in
    let if1 = c.if-s-a in
    of-newline a.edition.number a.s.now a.a if1.false c.if-b-eq10.true

pub returns-then-is_letter : goal.returns-then-is_letter
returns-then-is_letter c =
    let a = c.args in
    let if1 = c.if-s-a in
    let if2 = c.if-b-eq10 in
    let if3 = c.if-is_letter in
    let w = c.is_letter in
    c.word.ensures
    ∙ of_word a.edition.number a.s.now a.a if1.false if2.false w.result w.ensures if3.true

pub returns-then-is_digit : goal.returns-then-is_digit
returns-then-is_digit c =
    let a = c.args in
    let if1 = c.if-s-a in
    let if2 = c.if-b-eq10 in
    let if3 = c.if-is_letter in
    let if4 = c.if-is_digit in
    let w = c.is_letter in
    let d = c.is_digit in
    c.number.ensures
    ∙ of_number a.edition.number a.s.now a.a if1.false if2.false w.result w.ensures if3.false
    d.result d.ensures if4.true

pub returns-then-b-eq34 : goal.returns-then-b-eq34
returns-then-b-eq34 c =
    let a = c.args in
    let if1 = c.if-s-a in
    let if2 = c.if-b-eq10 in
    let if3 = c.if-is_letter in
    let if4 = c.if-is_digit in
    let if5 = c.if-b-eq34 in
    let w = c.is_letter in
    let d = c.is_digit in
    c.string.ensures
    ∙ of-string a.edition.number a.s.now a.a if1.false if2.false w.result w.ensures if3.false
    d.result d.ensures if4.false if5.true

pub returns : goal.returns
returns c =
    let a = c.args in
    let if1 = c.if-s-a in
    let if2 = c.if-b-eq10 in
    let if3 = c.if-is_letter in
    let if4 = c.if-is_digit in
    let if5 = c.if-b-eq34 in
    let w = c.is_letter in
    let d = c.is_digit in
    c.operator.ensures
    ∙ of-operator a.edition.number a.s.now a.a if1.false if2.false w.result w.ensures if3.false
    d.result d.ensures if4.false if5.false
