use mathlib.Core.Path.{sym, ap, ◌∙◌}
use Prim.Native.Nat.{ℕ}
use borrow.Author.Tests.{eq-eqb, ne_eqb, le-leb, lt-leb}
use Rattle.program_reader.specs.Expressions.{right_of}
use Rattle.program_lexer.specs.Coded.{coded, decoded}
use Rattle.program_lexer.proofs.Coding.{rank-of}
use Rattle.program_operations.proofs.Readings.{at_right}
use Rattle.program_operations.proofs.operations.right_of.Goals as goal

pub returns-then-tier-eq-CONCATENATIONS : goal.returns-then-tier-eq-CONCATENATIONS
returns-then-tier-eq-CONCATENATIONS c =
    ap (λ (i : ℕ). record {
      start = c.args.t.start;
      kind = i;
      stop =
          c.args.t.stop;
    }) (sym (rank-of c.args.t.kind
    c.requires.1))
    ∙ sym (ap coded (at_right c.args.edition.number c.args.s.now
    c.args.tier (decoded c.args.t) (eq-eqb _ 4 c.if-tier-eq-CONCATENATIONS.true)))

pub returns-then-tier-ge-CONJUNCTIONS : goal.returns-then-tier-ge-CONJUNCTIONS
unfolding right_of
returns-then-tier-ge-CONJUNCTIONS c = c.line_after.ensures ∙ sym (rw (
  ne_eqb _ 4 c.if-tier-eq-CONCATENATIONS.false,
  le-leb 8 _
      c.if-tier-ge-CONJUNCTIONS.true,
))

pub returns : goal.returns
unfolding right_of
returns c = c.operand_after.ensures ∙ sym (rw (
  ne_eqb _ 4 c.if-tier-eq-CONCATENATIONS.false,
  lt-leb 8 _
      c.if-tier-ge-CONJUNCTIONS.false,
))
