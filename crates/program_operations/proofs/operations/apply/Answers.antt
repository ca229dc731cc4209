use borrow.Author.Rules.{rules}
use mathlib.Core.Path.{sym, ap, subst, ◌∙◌}
use mathlib.Core.List.{[], ◌∷◌}
use Prim.Native.Nat.{ℕ, ◌+◌, ◌<◌}
use lib.Seq.{sets}
use borrow.Author.Tests.{eq-eqb, ne_eqb}
use Rattle.image_format.specs.Codes.{action}
use Rattle.program_code.specs.Emitted.{opcode}
use Rattle.program_lexer.specs.Coded.{kind_of}
use Rattle.program_words.specs.Words.{word}
use Rattle.program_parser.specs.Tables.{action_of}
use Rattle.program_parser.specs.Reading.{answered}
use Rattle.program_operations.proofs.Primaries.{fits}
use Rattle.program_operations.proofs.Turns.{code-small}
use Rattle.program_operations.proofs.operations.apply.Goals as goal

pub returns-then-kind-eq-AND_AND : goal.returns-then-kind-eq-AND_AND
returns-then-kind-eq-AND_AND c =
    let ok = c.ok in
    let emit-both = c.emit_both-count in
    let if1 = c.if-kind-eq-AND_AND in
    let args = c.args in
    let kind = eq-eqb _ 61 if1.true in (
      ok.ensures ∙ (ap (λ (i : ℕ). answered args.r.token i 0) emit-both.ensures.0 ∙ sym (rw kind)),
      emit-both.ensures.1 ∙ sym (rw kind),
    )

pub returns-then-kind-eq-OR_OR : goal.returns-then-kind-eq-OR_OR
returns-then-kind-eq-OR_OR c =
    let ok2 = c.ok-then-kind-eq-OR_OR in
    let emit-either = c.emit_either-count in
    let if2 = c.if-kind-eq-OR_OR in
    let if1 = c.if-kind-eq-AND_AND in
    let args = c.args in
    let first = ne_eqb _ 61 if1.false in
    let kind = eq-eqb _ 60 if2.true in (
      ok2.ensures ∙ (ap (λ (i : ℕ). answered args.r.token i 0) emit-either.ensures.0 ∙ sym (rw (first, kind))),
      emit-either.ensures.1 ∙ sym (rw (first, kind)),
    )

pub emit-count-requires : goal.emit-count-requires
unfolding opcode
emit-count-requires c =
    let operator-code = c.operator_code-op in
    let args = c.args in
    let small = code-small (action (action_of (kind_of args.kind))) in (
      fits _ _ 0 (subst (λ (i : ℕ). i < 256) (sym operator-code.ensures) small) (search rules) (search rules),
      search rules,
    )

pub returns : goal.returns
returns c =
    let ok3 = c.ok-2 in
    let emit = c.emit-count in
    let operator-code = c.operator_code-op in
    let if2 = c.if-kind-eq-OR_OR in
    let if1 = c.if-kind-eq-AND_AND in
    let args = c.args in
    let first = ne_eqb _ 61 if1.false in
    let second = ne_eqb _ 60 if2.false in (
      ok3.ensures ∙ (ap (λ (i : ℕ). answered args.r.token i 0) emit.ensures.0 ∙ sym (rw (first, second))),
      emit.ensures.1 ∙ (ap (λ (i : ℕ). sets args.section.now args.r.count (word i (args.depth + 2) 0 ∷ []))
          operator-code.ensures
          ∙ sym (rw (first, second))),
    )
