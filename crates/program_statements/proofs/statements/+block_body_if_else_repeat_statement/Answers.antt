use Rattle.program_statements.proofs.Blocks.{turn-nearer, turn_more}
use mathlib.Core.Path.{refl, sym, ◌∙◌}
use native.Mathlib.Omega.{arith}
use Rattle.program_reader.specs.Statements.{statement_at}
use Rattle.program_lexer.specs.Coded.{decoded}
use Rattle.program_simple.specs.Statements.{body_of}
use Rattle.program_simple.proofs.Answers.{statement-known}
use Rattle.program_statements.proofs.Cases.{kind-block, kind-print, kind-expression}
use Rattle.program_statements.proofs.Forms.{statement-is, block-deep, after-ready, if-read, while-read, empty-read, exit_read, next-read}
use Rattle.program_statements.proofs.Blocks.{first-token, first-place, block-begun, block-ready, block-done, line-nearer, block-line, statement-ready, block-failed}
use Rattle.program_statements.proofs.Bodies.{body-ready, body-deep, body-bad, body-read, if-unmet, while-unmet, then_ready, met-small, then-failed, while-failed, done-small, done-ready, while-done, if-done, else-ready, else-failed, other-small, else-done}
use Rattle.program_statements.proofs.statements.+block_body_if_else_repeat_statement.Goals as goal

pub block-loop-edition-init : goal.block-loop-edition-init
block-loop-edition-init t c =
    let a = c.args in (
      refl,
      block-begun a.edition.number a.s.now
          (statement_at a.edition.number a.s.now a.in_main a.levels) a.t _ a.n _
          c.token_after.ensures c.ok-r.ensures a.section.now c.requires.0,
    )

pub block-returns-then-kind-eq-CLOSE_BRACE : goal.block-returns-then-kind-eq-CLOSE_BRACE
block-returns-then-kind-eq-CLOSE_BRACE t c =
    let a = c.args in
    let st = statement_at a.edition.number a.s.now a.in_main a.levels in
    let at = first-place a.edition.number a.s.now st a.t _ a.n _ c.token_after.ensures
    c.ok-r.ensures c.requires.0 c.requires.2 in
    block-done a.edition.number a.s.now st a.n a.section.now _ _ _ c.loop-edition.invariant.1
    (decoded a.t) _ _ c.requires.0.good.ordered at.0
    (sym (first-token a.edition.number a.s.now st a.t _ a.n _ c.token_after.ensures
    c.ok-r.ensures)) c.if-kind-eq-CLOSE_BRACE.true c.token_after-then-kind-eq-CLOSE_BRACE.ensures
    c.ok.ensures

pub block-loop-edition-smaller-then-kind-eq-NEWLINE : goal.block-loop-edition-smaller-then-kind-eq-NEWLINE
block-loop-edition-smaller-then-kind-eq-NEWLINE t c =
    let a = c.args in
    line-nearer a.edition.number a.s.now
    (statement_at a.edition.number a.s.now a.in_main a.levels) a.n a.section.now _ _ _
    c.loop-edition.invariant.1 c.if-kind-eq-CLOSE_BRACE.false c.if-kind-eq-NEWLINE.true _ _ c.token_after-then-kind-eq-NEWLINE.ensures
    c.ok-r-then-kind-eq-NEWLINE.ensures

pub block-loop-edition-preserved-then-kind-eq-NEWLINE : goal.block-loop-edition-preserved-then-kind-eq-NEWLINE
block-loop-edition-preserved-then-kind-eq-NEWLINE t c =
    let a = c.args in (
      c.loop-edition.invariant.0,
      block-line a.edition.number a.s.now
          (statement_at a.edition.number a.s.now a.in_main a.levels) a.n a.section.now _ _ _
          c.loop-edition.invariant.1 c.if-kind-eq-CLOSE_BRACE.false c.if-kind-eq-NEWLINE.true _ _ c.token_after-then-kind-eq-NEWLINE.ensures
          c.ok-r-then-kind-eq-NEWLINE.ensures,
    )

pub block-past_newlines-first-requires : goal.block-past_newlines-first-requires
block-past_newlines-first-requires t c =
    let a = c.args in
    let st = statement_at a.edition.number a.s.now a.in_main a.levels in
    let at = first-place a.edition.number a.s.now st a.t _ a.n _ c.token_after.ensures
    c.ok-r.ensures c.requires.0 c.requires.2 in
    let h = block-ready a.edition.number a.s.now st a.n a.section.now _ _ _ c.loop-edition.invariant.1
    c.requires.0.small at.1 in
    (h.good, h.known)

pub block-statement-a-requires : goal.block-statement-a-requires
block-statement-a-requires t c =
    let a = c.args in
    let st = statement_at a.edition.number a.s.now a.in_main a.levels in
    let at = first-place a.edition.number a.s.now st a.t _ a.n _ c.token_after.ensures
    c.ok-r.ensures c.requires.0 c.requires.2 in (
      omega (arith, c.decreases),
      (
        statement-ready a.edition.number a.s.now st a.n a.section.now _ _ _ c.loop-edition.invariant.1
            c.if-kind-eq-CLOSE_BRACE.false c.if-kind-eq-NEWLINE.false _ c.past_newlines-first.ensures
            c.requires.0.small at.1,
        c.requires.1,
      ),
    )

pub block-followed-r-requires : goal.block-followed-r-requires
block-followed-r-requires t c =
    statement-known c.args.edition.number c.args.s.now _ _ _ _ _ _ c.statement-a.ensures

pub block-returns-then-r-ne0 : goal.block-returns-then-r-ne0
block-returns-then-r-ne0 t c =
    let a = c.args in
    let st = statement_at a.edition.number a.s.now a.in_main a.levels in
    block-failed a.edition.number a.s.now st a.n a.section.now _ _ _ c.loop-edition.invariant.1
    c.if-kind-eq-CLOSE_BRACE.false c.if-kind-eq-NEWLINE.false _ c.past_newlines-first.ensures _ _ _
    c.statement-a.ensures c.followed-r.ensures (decoded a.t)
    (sym (first-token a.edition.number a.s.now st a.t _ a.n _ c.token_after.ensures
    c.ok-r.ensures)) c.if-r-ne0.true

pub block-loop-edition-smaller : goal.block-loop-edition-smaller
block-loop-edition-smaller t c =
    let a = c.args in
    let st = statement_at a.edition.number a.s.now a.in_main a.levels in
    let at = first-place a.edition.number a.s.now st a.t _ a.n _ c.token_after.ensures
    c.ok-r.ensures c.requires.0 c.requires.2 in
    turn-nearer a.edition.number a.s.now a.in_main a.levels a.n a.section.now _ _ _
    c.loop-edition.invariant.1 c.requires.0.small at.1
    c.if-kind-eq-CLOSE_BRACE.false c.if-kind-eq-NEWLINE.false _ c.past_newlines-first.ensures _ _ _
    c.statement-a.ensures c.followed-r.ensures c.if-r-ne0.false

pub block-loop-edition-preserved : goal.block-loop-edition-preserved
block-loop-edition-preserved t c =
    let a = c.args in
    let st = statement_at a.edition.number a.s.now a.in_main a.levels in
    let at = first-place a.edition.number a.s.now st a.t _ a.n _ c.token_after.ensures
    c.ok-r.ensures c.requires.0 c.requires.2 in (
      omega (arith, c.statement-a.auto.section, c.loop-edition.invariant.0),
      turn_more a.edition.number a.s.now a.in_main a.levels a.n a.section.now _ _ _
          c.loop-edition.invariant.1 c.requires.0.small at.1
          c.if-kind-eq-CLOSE_BRACE.false c.if-kind-eq-NEWLINE.false _ c.past_newlines-first.ensures _ _ _
          c.statement-a.ensures c.followed-r.ensures c.if-r-ne0.false,
    )

pub body-past_newlines-first-requires : goal.body-past_newlines-first-requires
body-past_newlines-first-requires t c = (c.requires.0.good, c.requires.0.known)

pub body-starts_statement-requires : goal.body-starts_statement-requires
body-starts_statement-requires t c =
    let a = c.args in
    (body-ready a.edition.number a.s.now a.in_main a.levels a.t a.n a.section.now
    c.requires.0 _ c.past_newlines-first.ensures
    ).known

pub body-returns-then-starts_statement : goal.body-returns-then-starts_statement
body-returns-then-starts_statement t c =
    let a = c.args in
    body-deep a.edition.number a.s.now a.in_main a.levels a.t a.n a.section.now
    c.requires.0 _ c.past_newlines-first.ensures _ _
    c.if-levels-eq0.true (sym c.starts_statement.ensures ∙ c.if-starts_statement.true)
    c.too_deep.ensures

pub body-refuse-requires : goal.body-refuse-requires
body-refuse-requires t c =
    let a = c.args in
    (body-ready a.edition.number a.s.now a.in_main a.levels a.t a.n a.section.now
    c.requires.0 _ c.past_newlines-first.ensures
    ).known

pub body-returns-then-levels-eq0 : goal.body-returns-then-levels-eq0
body-returns-then-levels-eq0 t c =
    let a = c.args in
    body-bad a.edition.number a.s.now a.in_main a.levels a.t a.n a.section.now
    c.requires.0 _ c.past_newlines-first.ensures _ _
    c.if-levels-eq0.true (sym c.starts_statement.ensures ∙ c.if-starts_statement.false) c.refuse.ensures

pub body-statement-requires : goal.body-statement-requires
body-statement-requires t c =
    let a = c.args in (
      omega (arith, c.decreases, c.if-levels-eq0.false),
      (
        body-ready a.edition.number a.s.now a.in_main a.levels a.t a.n a.section.now
            c.requires.0 _ c.past_newlines-first.ensures,
        omega (arith, c.requires.1),
      ),
    )

pub body-returns : goal.body-returns
body-returns t c =
    let a = c.args in
    body-read a.edition.number a.s.now a.in_main a.levels a.t a.n a.section.now
    c.requires.0 _ c.past_newlines-first.ensures _ _
    c.if-levels-eq0.false c.statement.ensures

pub if_else-condition-c-requires : goal.if_else-condition-c-requires
if_else-condition-c-requires t c =
    c.requires

pub if_else-returns-then-c-ne0 : goal.if_else-returns-then-c-ne0
if_else-returns-then-c-ne0 t c =
    let a = c.args in
    if-unmet a.edition.number a.s.now (body_of a.edition.number a.s.now a.in_main a.levels)
    a.levels a.u a.n a.section.now
    c.requires.0 _ _ c.condition-c.ensures c.if-c-ne0.true

pub if_else-overflow_add-j : goal.if_else-overflow_add-j
if_else-overflow_add-j t c =
    let a = c.args in
    omega (
      arith,
      met-small a.edition.number a.s.now (body_of a.edition.number a.s.now a.in_main a.levels)
          a.levels a.u a.n
          a.section.now c.requires.0 _ _ c.condition-c.ensures c.if-c-ne0.false,
    )

pub if_else-body-a-requires : goal.if_else-body-a-requires
if_else-body-a-requires t c =
    let a = c.args in (
      omega (arith, c.decreases),
      (
        then_ready a.edition.number a.s.now (body_of a.edition.number a.s.now a.in_main a.levels)
            a.levels a.u a.n a.section.now
            c.requires.0 _ _ c.condition-c.ensures c.if-c-ne0.false,
        c.requires.1,
      ),
    )

pub if_else-returns-then-a-ne0 : goal.if_else-returns-then-a-ne0
if_else-returns-then-a-ne0 t c =
    let a = c.args in
    then-failed a.edition.number a.s.now (body_of a.edition.number a.s.now a.in_main a.levels)
    a.levels a.u a.n a.section.now
    c.requires.0 _ _ c.condition-c.ensures c.if-c-ne0.false _ _ c.body-a.ensures
    c.if-a-ne0.true

pub if_else-else_after-requires : goal.if_else-else_after-requires
if_else-else_after-requires t c =
    let a = c.args in
    done-ready a.edition.number a.s.now (body_of a.edition.number a.s.now a.in_main a.levels)
    a.levels a.u a.n a.section.now
    c.requires.0 _ _ c.condition-c.ensures c.if-c-ne0.false _ _ c.body-a.ensures
    c.if-a-ne0.false

pub if_else-emit-requires : goal.if_else-emit-requires
if_else-emit-requires t c =
    let a = c.args in
    let c0 = met-small a.edition.number a.s.now
    (body_of a.edition.number a.s.now a.in_main a.levels) a.levels a.u a.n
    a.section.now c.requires.0 _ _ c.condition-c.ensures c.if-c-ne0.false in
    let a0 = done-small a.edition.number a.s.now
    (body_of a.edition.number a.s.now a.in_main a.levels) a.levels a.u a.n
    a.section.now c.requires.0 _ _ c.condition-c.ensures c.if-c-ne0.false _ _
    c.body-a.ensures c.if-a-ne0.false in
    omega (arith, c0, a0)

pub if_else-returns-in_default : goal.if_else-returns-in_default
if_else-returns-in_default t c =
    let a = c.args in
    if-done a.edition.number a.s.now (body_of a.edition.number a.s.now a.in_main a.levels)
    a.levels a.u a.n a.section.now
    c.requires.0 _ _ c.condition-c.ensures c.if-c-ne0.false _ _ c.body-a.ensures
    c.if-a-ne0.false _ c.else_after.ensures _ c.in_default.is
    c.emit.ensures.1

pub if_else-overflow_add-i : goal.if_else-overflow_add-i
if_else-overflow_add-i t c =
    let a = c.args in
    omega (
      arith,
      done-small a.edition.number a.s.now (body_of a.edition.number a.s.now a.in_main a.levels)
          a.levels a.u a.n
          a.section.now c.requires.0 _ _ c.condition-c.ensures c.if-c-ne0.false _ _
          c.body-a.ensures c.if-a-ne0.false,
    )

pub if_else-body-b-requires : goal.if_else-body-b-requires
if_else-body-b-requires t c =
    let a = c.args in (
      omega (arith, c.decreases),
      (
        else-ready a.edition.number a.s.now (body_of a.edition.number a.s.now a.in_main a.levels)
            a.levels a.u a.n a.section.now
            c.requires.0 _ _ c.condition-c.ensures c.if-c-ne0.false _ _ c.body-a.ensures
            c.if-a-ne0.false _ c.else_after.ensures _ c.in-Some.is,
        c.requires.1,
      ),
    )

pub if_else-returns-then-b-ne0 : goal.if_else-returns-then-b-ne0
if_else-returns-then-b-ne0 t c =
    let a = c.args in
    else-failed a.edition.number a.s.now (body_of a.edition.number a.s.now a.in_main a.levels)
    a.levels a.u a.n a.section.now
    c.requires.0 _ _ c.condition-c.ensures c.if-c-ne0.false _ _ c.body-a.ensures
    c.if-a-ne0.false _ c.else_after.ensures _ c.in-Some.is _ _
    c.body-b.ensures c.if-b-ne0.true

pub if_else-emit-requires-2 : goal.if_else-emit-requires-2
if_else-emit-requires-2 t c =
    let a = c.args in
    let a0 = done-small a.edition.number a.s.now
    (body_of a.edition.number a.s.now a.in_main a.levels) a.levels a.u a.n
    a.section.now c.requires.0 _ _ c.condition-c.ensures c.if-c-ne0.false _ _
    c.body-a.ensures c.if-a-ne0.false in
    let b0 = other-small a.edition.number a.s.now
    (body_of a.edition.number a.s.now a.in_main a.levels) a.levels a.u a.n
    a.section.now c.requires.0 _ _ c.condition-c.ensures c.if-c-ne0.false _ _
    c.body-a.ensures c.if-a-ne0.false _ c.else_after.ensures _ c.in-Some.is _ _
    c.body-b.ensures c.if-b-ne0.false in
    omega (arith, a0, b0)

pub if_else-overflow_add-i-2 : goal.if_else-overflow_add-i-2
if_else-overflow_add-i-2 t c =
    let a = c.args in
    omega (
      arith,
      done-small a.edition.number a.s.now (body_of a.edition.number a.s.now a.in_main a.levels)
          a.levels a.u a.n
          a.section.now c.requires.0 _ _ c.condition-c.ensures c.if-c-ne0.false _ _
          c.body-a.ensures c.if-a-ne0.false,
    )

pub if_else-emit-requires-3 : goal.if_else-emit-requires-3
if_else-emit-requires-3 t c =
    let a = c.args in
    let c0 = met-small a.edition.number a.s.now
    (body_of a.edition.number a.s.now a.in_main a.levels) a.levels a.u a.n
    a.section.now c.requires.0 _ _ c.condition-c.ensures c.if-c-ne0.false in
    let a0 = done-small a.edition.number a.s.now
    (body_of a.edition.number a.s.now a.in_main a.levels) a.levels a.u a.n
    a.section.now c.requires.0 _ _ c.condition-c.ensures c.if-c-ne0.false _ _
    c.body-a.ensures c.if-a-ne0.false in
    omega (arith, c0, a0)

pub if_else-returns : goal.if_else-returns
if_else-returns t c =
    let a = c.args in
    else-done a.edition.number a.s.now (body_of a.edition.number a.s.now a.in_main a.levels)
    a.levels a.u a.n a.section.now
    c.requires.0 _ _ c.condition-c.ensures c.if-c-ne0.false _ _ c.body-a.ensures
    c.if-a-ne0.false _ c.else_after.ensures _ c.in-Some.is _ _
    c.body-b.ensures c.if-b-ne0.false _ _ c.emit-2.ensures.1 c.emit-3.ensures.1

pub repeat-condition-c-requires : goal.repeat-condition-c-requires
repeat-condition-c-requires t c =
    c.requires

pub repeat-returns-then-c-ne0 : goal.repeat-returns-then-c-ne0
repeat-returns-then-c-ne0 t c =
    let a = c.args in
    while-unmet a.edition.number a.s.now (body_of a.edition.number a.s.now a.in_main a.levels)
    a.levels a.u a.n a.section.now
    c.requires.0 _ _ c.condition-c.ensures c.if-c-ne0.true

pub repeat-overflow_add-j : goal.repeat-overflow_add-j
repeat-overflow_add-j t c =
    let a = c.args in
    omega (
      arith,
      met-small a.edition.number a.s.now (body_of a.edition.number a.s.now a.in_main a.levels)
          a.levels a.u a.n
          a.section.now c.requires.0 _ _ c.condition-c.ensures c.if-c-ne0.false,
    )

pub repeat-body-a-requires : goal.repeat-body-a-requires
repeat-body-a-requires t c =
    let a = c.args in (
      omega (arith, c.decreases),
      (
        then_ready a.edition.number a.s.now (body_of a.edition.number a.s.now a.in_main a.levels)
            a.levels a.u a.n a.section.now
            c.requires.0 _ _ c.condition-c.ensures c.if-c-ne0.false,
        c.requires.1,
      ),
    )

pub repeat-returns-then-a-ne0 : goal.repeat-returns-then-a-ne0
repeat-returns-then-a-ne0 t c =
    let a = c.args in
    while-failed a.edition.number a.s.now (body_of a.edition.number a.s.now a.in_main a.levels)
    a.levels a.u a.n a.section.now
    c.requires.0 _ _ c.condition-c.ensures c.if-c-ne0.false _ _ c.body-a.ensures
    c.if-a-ne0.true

pub repeat-emit-count-requires : goal.repeat-emit-count-requires
repeat-emit-count-requires t c =
    let a = c.args in
    let a0 = done-small a.edition.number a.s.now
    (body_of a.edition.number a.s.now a.in_main a.levels) a.levels a.u a.n
    a.section.now c.requires.0 _ _ c.condition-c.ensures c.if-c-ne0.false _ _
    c.body-a.ensures c.if-a-ne0.false in
    omega (
      arith,
      a0,
      c.requires.0.count,
      c.requires.0.small,
      c.requires.0.good.ordered,
      c.requires.0.good.within,
    )

pub repeat-emit-requires : goal.repeat-emit-requires
repeat-emit-requires t c =
    let a = c.args in
    let c0 = met-small a.edition.number a.s.now
    (body_of a.edition.number a.s.now a.in_main a.levels) a.levels a.u a.n
    a.section.now c.requires.0 _ _ c.condition-c.ensures c.if-c-ne0.false in
    let a0 = done-small a.edition.number a.s.now
    (body_of a.edition.number a.s.now a.in_main a.levels) a.levels a.u a.n
    a.section.now c.requires.0 _ _ c.condition-c.ensures c.if-c-ne0.false _ _
    c.body-a.ensures c.if-a-ne0.false in
    omega (arith, c0, a0, c.emit-count.ensures.0)

pub repeat-returns : goal.repeat-returns
repeat-returns t c =
    let a = c.args in
    while-done a.edition.number a.s.now (body_of a.edition.number a.s.now a.in_main a.levels)
    a.levels a.u a.n a.section.now
    c.requires.0 _ _ c.condition-c.ensures c.if-c-ne0.false _ _ c.body-a.ensures
    c.if-a-ne0.false _ _ _ _ c.emit-count.ensures.0 c.emit-count.ensures.1
    c.emit.ensures.1 c.ok.ensures

pub statement-returns-then-levels-eq0 : goal.statement-returns-then-levels-eq0
statement-returns-then-levels-eq0 t c =
    let a = c.args in
    block-deep a.edition.number a.s.now a.in_main a.levels a.t a.n a.section.now
    c.requires.0 _ _ c.if-kind-eq-OPEN_BRACE.true c.if-levels-eq0.true
    c.too_deep.ensures

pub statement-block-requires : goal.statement-block-requires
statement-block-requires t c = (
  omega (arith, c.decreases, c.if-levels-eq0.false),
  (c.requires.0, omega (arith, c.requires.1), c.if-kind-eq-OPEN_BRACE.true),
)

pub statement-returns-then-kind-eq-OPEN_BRACE : goal.statement-returns-then-kind-eq-OPEN_BRACE
statement-returns-then-kind-eq-OPEN_BRACE t c =
    let a = c.args in
    statement-is a.edition.number a.s.now a.in_main a.levels a.t a.n a.section.now
    c.requires.0 _ _ _
    (kind-block a.edition.number a.s.now a.in_main a.levels a.t c.requires.0.known
    c.if-kind-eq-OPEN_BRACE.true c.if-levels-eq0.false) c.block.ensures

pub statement-returns-then-kind-eq-SEMICOLON : goal.statement-returns-then-kind-eq-SEMICOLON
statement-returns-then-kind-eq-SEMICOLON t c =
    let a = c.args in
    empty-read a.edition.number a.s.now a.in_main a.levels a.t a.n a.section.now
    c.requires.0 (λ z. omega (arith, c.if-kind-eq-SEMICOLON.true)) _
    c.token_after.ensures _ c.if-kind-eq-SEMICOLON.true c.ok.ensures

pub statement-if_else-requires : goal.statement-if_else-requires
statement-if_else-requires t c =
    let a = c.args in (
      omega (arith, c.decreases),
      (
        after-ready a.edition.number a.s.now a.in_main a.levels a.t a.n a.section.now
            c.requires.0 (λ z. omega (arith, c.if-kind-eq-IF.true)) _
            c.token_after-u.ensures,
        c.requires.1,
      ),
    )

pub statement-returns-then-kind-eq-IF : goal.statement-returns-then-kind-eq-IF
statement-returns-then-kind-eq-IF t c =
    let a = c.args in
    if-read a.edition.number a.s.now a.in_main a.levels a.t a.n a.section.now
    c.requires.0 (λ z. omega (arith, c.if-kind-eq-IF.true)) _
    c.token_after-u.ensures _ _ c.if-kind-eq-IF.true c.if_else.ensures

pub statement-repeat-requires : goal.statement-repeat-requires
statement-repeat-requires t c =
    let a = c.args in (
      omega (arith, c.decreases),
      (
        after-ready a.edition.number a.s.now a.in_main a.levels a.t a.n a.section.now
            c.requires.0 (λ z. omega (arith, c.if-kind-eq-WHILE.true)) _
            c.token_after-v.ensures,
        c.requires.1,
      ),
    )

pub statement-returns-then-kind-eq-WHILE : goal.statement-returns-then-kind-eq-WHILE
statement-returns-then-kind-eq-WHILE t c =
    let a = c.args in
    while-read a.edition.number a.s.now a.in_main a.levels a.t a.n a.section.now
    c.requires.0 (λ z. omega (arith, c.if-kind-eq-WHILE.true)) _
    c.token_after-v.ensures _ _ c.if-kind-eq-WHILE.true c.repeat.ensures

pub statement-print-requires : goal.statement-print-requires
statement-print-requires t c =
    (c.requires.0, c.requires.1, c.if-kind-eq-PRINT.true)

pub statement-returns-then-kind-eq-PRINT : goal.statement-returns-then-kind-eq-PRINT
statement-returns-then-kind-eq-PRINT t c =
    let a = c.args in
    statement-is a.edition.number a.s.now a.in_main a.levels a.t a.n a.section.now
    c.requires.0 _ _ _
    (kind-print a.edition.number a.s.now a.in_main a.levels a.t c.requires.0.known
    c.if-kind-eq-PRINT.true) c.print.ensures

pub statement-single-requires : goal.statement-single-requires
statement-single-requires t c =
    (c.requires.0, omega arith)

pub statement-returns-then-kind-eq-EXIT : goal.statement-returns-then-kind-eq-EXIT
statement-returns-then-kind-eq-EXIT t c =
    let a = c.args in
    exit_read a.edition.number a.s.now a.in_main a.levels a.t a.n a.section.now
    c.requires.0 _ _ c.if-kind-eq-EXIT.true
    c.single.ensures.0 c.single.ensures.1

pub statement-single-requires-then-kind-in_main : goal.statement-single-requires-then-kind-in_main
statement-single-requires-then-kind-in_main t c =
    (c.requires.0, omega arith)

pub statement-returns-then-kind-in_main : goal.statement-returns-then-kind-in_main
statement-returns-then-kind-in_main t c =
    let a = c.args in
    next-read a.edition.number a.s.now a.in_main a.levels a.t a.n a.section.now
    c.requires.0 _ _ c.if-kind-in_main.true
    c.single-then-kind-in_main.ensures.0 c.single-then-kind-in_main.ensures.1

pub statement-expression-requires : goal.statement-expression-requires
statement-expression-requires t c =
    c.requires

pub statement-returns : goal.statement-returns
statement-returns t c =
    let a = c.args in
    statement-is a.edition.number a.s.now a.in_main a.levels a.t a.n a.section.now
    c.requires.0 _ _ _
    (kind-expression a.edition.number a.s.now a.in_main a.levels a.t c.requires.0.known
    c.if-kind-eq-OPEN_BRACE.false c.if-kind-eq-SEMICOLON.false c.if-kind-eq-IF.false c.if-kind-eq-WHILE.false
    c.if-kind-eq-PRINT.false c.if-kind-eq-EXIT.false c.if-kind-in_main.false) c.expression.ensures
