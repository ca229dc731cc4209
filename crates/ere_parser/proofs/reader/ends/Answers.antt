-- `ends`: by the byte there, if there is one.
use mathlib.Core.Path.{sym, ◌∙◌}
use mathlib.Core.Bool.{true≢false}
use borrow.Author.Tests.{eq-eqb, eqb-true}
use Rattle.ere_parser.proofs.Items.{closed-end, closed-paren}
use Rattle.ere_parser.proofs.reader.ends.Goals as goal

pub returns-then-at-ere : goal.returns-then-at-ere
returns-then-at-ere c =
    let a = c.args in
    record { closed = λ e. closed-end a.ere.now a.at c.if-at-ere.true; goes_on = λ e. absurd (true≢false e) }

pub returns : goal.returns
returns c =
    let a = c.args in
    record {
      closed = λ e. closed-paren a.ere.now a.at c.if-at-ere.false (eqb-true _ 41 e);
      goes_on = λ e. (c.if-at-ere.false, λ k. true≢false (sym (eq-eqb _ 41 k) ∙ e));
    }
