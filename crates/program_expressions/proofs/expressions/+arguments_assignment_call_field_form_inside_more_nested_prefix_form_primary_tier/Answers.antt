use mathlib.Core.Path.{refl, sym, ap, subst, ◌∙◌}
use mathlib.Core.List.{[]}
use Prim.Native.Nat.{ℕ, ◌+◌, ◌-◌, ◌<◌}
use native.Mathlib.Omega.{arith}
use borrow.Author.Tests.{not-true, not-false}
use Rattle.program_tree.specs.Functions.{function_of}
use Rattle.program_reader.specs.Expressions.{inside as inside_of}
use Rattle.program_lexer.specs.Coded.{decoded, kind_of, kind_count}
use Rattle.program_parser.specs.declared.read.Read.{Read}
use Rattle.program_parser.specs.Reading.{closed_of}
use Rattle.program_operations.specs.declared.parts.PendingCall.{PendingCall}
use Rattle.program_operations.specs.Parts.{Suffixed, arguments_left}
use Rattle.program_operations.proofs.Readings.{ready-next, ready-operand, ready-fewer, refused-level, reading-fits, reading-ready}
use Rattle.program_operations.proofs.Written.{reading-some}
use Rattle.program_operations.proofs.Primaries.{fits, begun, prefix-small, primary-constant, primary-ere, primary-name, primary-called, primary-paren, field-read, field-other, prefix-read, prefix-other}
use Rattle.program_expressions.proofs.Assignments.{assign-none, assign-name, assign-to-field}
use Rattle.program_expressions.proofs.Calls.{left-few, left-falls, function-fits, function-completes, function-begun, call_none, call-refused, call-read, closed-count, calls-end, calls-comma, start-ready, calls-failed, calls-next, calls-no-ere, calls-ere}
use Rattle.program_operations.proofs.Turns.{between-few, depth-few, right-ready, next-ready, next-further, turning-first, turning-stop, turning-failed, turning-single, turning-again}
use Rattle.program_operations.proofs.Tiers.{inside-none, inside-read, read-fields, read-prefixed, tier-failed, read-matched, read-assigned, read_more}
use Rattle.program_expressions.proofs.expressions.+arguments_assignment_call_field_form_inside_more_nested_prefix_form_primary_tier.Goals as goal
use mathlib.Core.Bool.{not}

pub arguments-closed-r-requires : goal.arguments-closed-r-requires
arguments-closed-r-requires t c =
    let ok = c.ok in
    let pre = c.requires in
    subst (λ (y : Read). y.token.kind < kind_count) (sym ok.ensures) pre.0.known

pub arguments-suffix-requires : goal.arguments-suffix-requires
arguments-suffix-requires t c =
    let closed = c.closed-r in
    let ok = c.ok in
    let pre = c.requires in
    let args = c.args in
    let h = pre.0 in (
      omega (
        arith,
        closed-count _ _ args.t args.n _ (closed.ensures
            ∙ ap (closed_of args.edition.number args.s.now) ok.ensures),
        h.count,
        h.good.ordered,
        h.good.within,
        h.small,
      ),
      fits _ _ _ pre.3 (omega (arith, pre.1)) pre.4,
    )

pub arguments-returns-then-shapes-eq0 : goal.arguments-returns-then-shapes-eq0
arguments-returns-then-shapes-eq0 t c =
    let suffix = c.suffix in
    let closed = c.closed-r in
    let ok = c.ok in
    let if1 = c.if-shapes-eq0 in
    let args = c.args in
    let pre = c.requires in
    calls-end _ _ _ args.f _ args.t _ _ _ pre.0 _ _ if1.true (omega (arith, pre.1)) pre.4 _
    (closed.ensures ∙ ap (closed_of args.edition.number args.s.now) ok.ensures) suffix.ensures

pub arguments-refuse-requires : goal.arguments-refuse-requires
arguments-refuse-requires t c = c.requires.0.known

pub arguments-returns-then-first-t : goal.arguments-returns-then-first-t
arguments-returns-then-first-t t c =
    let refuse = c.refuse in
    let if2 = c.if-first-t in
    let if1 = c.if-shapes-eq0 in
    let args = c.args in
    let pre = c.requires in
    calls-comma _ _ _ args.f args.first args.t _ _ _ pre.0 _ _ if1.false if2.true refuse.ensures

pub arguments-argument_after-start-requires : goal.arguments-argument_after-start-requires
arguments-argument_after-start-requires t c =
    let pre = c.requires in
    (pre.0.good, pre.0.known)

pub arguments-nested-r-requires : goal.arguments-nested-r-requires
arguments-nested-r-requires t c =
    let argument-after = c.argument_after-start in
    let pre = c.requires in
    let args = c.args in (
      omega (arith, c.decreases),
      (
        start-ready _ _ args.first args.t args.n pre.0 _
            argument-after.ensures,
        omega (arith, pre.1),
      ),
    )

pub arguments-returns-then-r-ne0 : goal.arguments-returns-then-r-ne0
arguments-returns-then-r-ne0 t c =
    let if4 = c.if-r-ne0 in
    let nested = c.nested-r in
    let if3 = c.if-shapes-eq-AN_EXPRESSION in
    let argument-after = c.argument_after-start in
    let if2 = c.if-first-t in
    let if1 = c.if-shapes-eq0 in
    let args = c.args in
    let pre = c.requires in
    calls-failed _ _ _ args.f args.first args.t _ _ _ pre.0 nested.result [] if1.false if2.false
    _ argument-after.ensures if3.true _ _ nested.ensures if4.true

pub arguments-overflow_add-d : goal.arguments-overflow_add-d
arguments-overflow_add-d t c =
    let pre = c.requires in
    record { fits = omega (arith, pre.1) }

pub arguments-arguments-requires : goal.arguments-arguments-requires
arguments-arguments-requires t c =
    let after-argument = c.after_argument-rest in
    let if4 = c.if-r-ne0 in
    let nested = c.nested-r in
    let argument-after = c.argument_after-start in
    let if1 = c.if-shapes-eq0 in
    let args = c.args in
    let pre = c.requires in
    let falls-by = left-falls args.f.shapes if1.false pre.2 in
    let left = ap (λ (y : PendingCall). arguments_left y.shapes) after-argument.ensures in
    let shapes = ap (λ (y : PendingCall). y.shapes) after-argument.ensures in
    let op = ap (λ (y : PendingCall). y.op) after-argument.ensures in
    let operand = ap (λ (y : PendingCall). y.operand) after-argument.ensures in (
      omega (arith, c.decreases, falls-by, left),
      (
        reading-ready _ _ _ _ _ _ (start-ready _ _ args.first args.t args.n pre.0 _
            argument-after.ensures) _ _ _ nested.ensures if4.false,
        omega (arith, pre.1, falls-by, left),
        omega (arith, pre.2, shapes),
        omega (arith, pre.3, op),
        omega
            (arith, pre.4, operand),
      ),
    )

pub arguments-returns-then-shapes-eq-AN_EXPRESSION : goal.arguments-returns-then-shapes-eq-AN_EXPRESSION
arguments-returns-then-shapes-eq-AN_EXPRESSION t c =
    let arguments = c.arguments in
    let after-argument = c.after_argument-rest in
    let if4 = c.if-r-ne0 in
    let nested = c.nested-r in
    let if3 = c.if-shapes-eq-AN_EXPRESSION in
    let argument-after = c.argument_after-start in
    let if2 = c.if-first-t in
    let if1 = c.if-shapes-eq0 in
    let args = c.args in
    let pre = c.requires in
    calls-next _ _ _ args.f args.first args.t _ _ _ pre.0 _ _ if1.false if2.false _
    argument-after.ensures if3.true _ _ nested.ensures if4.false _ after-argument.ensures
    arguments.ensures

pub arguments-refuse-requires-then-start-ne-ERE : goal.arguments-refuse-requires-then-start-ne-ERE
arguments-refuse-requires-then-start-ne-ERE t c =
    let argument-after = c.argument_after-start in
    let args = c.args in
    let pre = c.requires in
    (start-ready _ _ args.first args.t args.n pre.0 _ argument-after.ensures).known

pub arguments-returns-then-start-ne-ERE : goal.arguments-returns-then-start-ne-ERE
arguments-returns-then-start-ne-ERE t c =
    let refuse2 = c.refuse-then-start-ne-ERE in
    let if5 = c.if-start-ne-ERE in
    let if3 = c.if-shapes-eq-AN_EXPRESSION in
    let argument-after = c.argument_after-start in
    let if2 = c.if-first-t in
    let if1 = c.if-shapes-eq0 in
    let args = c.args in
    let pre = c.requires in
    calls-no-ere _ _ _ args.f args.first args.t _ _ _ pre.0 _ _ if1.false if2.false _
    argument-after.ensures if3.false if5.true refuse2.ensures

pub arguments-arguments-requires-2 : goal.arguments-arguments-requires-2
arguments-arguments-requires-2 t c =
    let token-after = c.token_after-next in
    let after-argument2 = c.after_argument-rest-2 in
    let argument-after = c.argument_after-start in
    let if1 = c.if-shapes-eq0 in
    let args = c.args in
    let pre = c.requires in
    let falls-by = left-falls args.f.shapes if1.false pre.2 in
    let r = start-ready _ _ args.first args.t args.n pre.0 _ argument-after.ensures in
    let left = ap (λ (y : PendingCall). arguments_left y.shapes) after-argument2.ensures in
    let shapes = ap (λ (y : PendingCall). y.shapes) after-argument2.ensures in
    let op = ap (λ (y : PendingCall). y.op) after-argument2.ensures in
    let operand = ap (λ (y : PendingCall). y.operand) after-argument2.ensures in (
      omega (arith, c.decreases, falls-by, left),
      (
        ready-next _ _ _ _ r _ token-after.ensures,
        omega (arith, pre.1, falls-by, left),
        omega
            (arith, pre.2, shapes),
        omega (arith, pre.3, op),
        omega (arith, r.good.ordered, r.good.within, r.small, operand),
      ),
    )

pub arguments-returns : goal.arguments-returns
arguments-returns t c =
    let arguments2 = c.arguments-2 in
    let token-after = c.token_after-next in
    let after-argument2 = c.after_argument-rest-2 in
    let if5 = c.if-start-ne-ERE in
    let if3 = c.if-shapes-eq-AN_EXPRESSION in
    let argument-after = c.argument_after-start in
    let if2 = c.if-first-t in
    let if1 = c.if-shapes-eq0 in
    let args = c.args in
    let pre = c.requires in
    calls-ere _ _ _ args.f args.first args.t _ _ _ pre.0 _ _ if1.false if2.false _
    argument-after.ensures if3.false if5.false _ token-after.ensures _ after-argument2.ensures
    arguments2.ensures

pub assignment-returns-then-t-r : goal.assignment-returns-then-t-r
assignment-returns-then-t-r t c =
    let if1 = c.if-t-r in
    let args = c.args in
    assign-none _ _ _ _ _ _ args.r _ if1.true

pub assignment-nested-e-requires : goal.assignment-nested-e-requires
assignment-nested-e-requires t c =
    let operand-after = c.operand_after-first in
    let pre = c.requires in
    let args = c.args in (
      omega (arith, c.decreases),
      (
        ready-fewer _ _ _ _ (args.r.count - 1) (omega arith)
            (ready-operand _ _ args.r.token args.r.count pre.0 _ operand-after.ensures),
        omega
            (arith, pre.3),
      ),
    )

pub assignment-overflow_add-depth : goal.assignment-overflow_add-depth
assignment-overflow_add-depth t c =
    let pre = c.requires in
    record { fits = omega (arith, pre.3) }

pub assignment-suffix-requires : goal.assignment-suffix-requires
assignment-suffix-requires t c =
    let nested = c.nested-e in
    let operand-after = c.operand_after-first in
    let args = c.args in
    let pre = c.requires in
    let r = ready-fewer _ _ _ _ (args.r.count - 1) (omega arith)
    (ready-operand _ _ args.r.token args.r.count pre.0 _ operand-after.ensures) in (
      omega (arith, (reading-fits _ _ _ _ _ _ r _ _ _ nested.ensures).0),
      fits 3 _ _ (omega arith) (omega (arith, pre.3)) pre.2,
    )

pub assignment-returns-then-r-eq-NAME : goal.assignment-returns-then-r-eq-NAME
assignment-returns-then-r-eq-NAME t c =
    let suffix = c.suffix in
    let nested = c.nested-e in
    let if2 = c.if-r-eq-NAME in
    let operand-after = c.operand_after-first in
    let if1 = c.if-t-r in
    let args = c.args in
    let pre = c.requires in
    assign-name _ _ _ _ _ _ args.r _ if1.false _ operand-after.ensures (omega (arith, pre.3)) pre.2
    _ _ _ _ if2.true nested.ensures suffix.ensures

pub assignment-nested-e-requires-2 : goal.assignment-nested-e-requires-2
assignment-nested-e-requires-2 t c =
    let operand-after = c.operand_after-first in
    let pre = c.requires in
    let args = c.args in (
      omega (arith, c.decreases),
      (
        ready-fewer _ _ _ _ (args.r.count - 1) (omega arith)
            (ready-operand _ _ args.r.token args.r.count pre.0 _ operand-after.ensures),
        omega
            (arith, pre.3),
      ),
    )

pub assignment-overflow_add-depth-2 : goal.assignment-overflow_add-depth-2
assignment-overflow_add-depth-2 t c =
    let pre = c.requires in
    record { fits = omega (arith, pre.3) }

pub assignment-suffix-requires-2 : goal.assignment-suffix-requires-2
assignment-suffix-requires-2 t c =
    let nested2 = c.nested-e-2 in
    let operand-after = c.operand_after-first in
    let args = c.args in
    let pre = c.requires in
    let r = ready-fewer _ _ _ _ (args.r.count - 1) (omega arith)
    (ready-operand _ _ args.r.token args.r.count pre.0 _ operand-after.ensures) in (
      omega (arith, (reading-fits _ _ _ _ _ _ r _ _ _ nested2.ensures).0),
      fits 5 _ 0 (omega arith) (omega (arith, pre.3)) (omega arith),
    )

pub assignment-returns : goal.assignment-returns
assignment-returns t c =
    let suffix2 = c.suffix-2 in
    let nested2 = c.nested-e-2 in
    let if2 = c.if-r-eq-NAME in
    let operand-after = c.operand_after-first in
    let if1 = c.if-t-r in
    let args = c.args in
    let pre = c.requires in
    assign-to-field _ _ _ _ _ _ args.r _ if1.false _ operand-after.ensures (omega (arith, pre.3))
    pre.2 _ _ _ _ if2.false nested2.ensures suffix2.ensures

pub call-function_of-requires : goal.call-function_of-requires
call-function_of-requires t c = c.requires.0.known

pub call-refuse-requires : goal.call-refuse-requires
call-refuse-requires t c = c.requires.0.known

pub call-returns-in_default : goal.call-returns-in_default
call-returns-in_default t c =
    let args = c.args in
    let pre = c.requires in
    call_none _ _ _ args.t _ _ _ pre.0 _ _ (function_of args.edition.number (kind_of args.t.kind))
    (sym c.function_of.ensures ∙ c.in_default.is) c.refuse.ensures

pub call-refuse-requires-then-opener-ne-OPEN_PAREN : goal.call-refuse-requires-then-opener-ne-OPEN_PAREN
call-refuse-requires-then-opener-ne-OPEN_PAREN t c =
    let token-after = c.token_after-opener in
    let args = c.args in
    let pre = c.requires in
    (ready-next _ _ args.t args.n pre.0 _ token-after.ensures).known

pub call-returns-then-opener-ne-OPEN_PAREN : goal.call-returns-then-opener-ne-OPEN_PAREN
call-returns-then-opener-ne-OPEN_PAREN t c =
    let refuse2 = c.refuse-then-opener-ne-OPEN_PAREN in
    let if2 = c.if-opener-ne-OPEN_PAREN in
    let token-after = c.token_after-opener in
    let args = c.args in
    let pre = c.requires in
    call-refused _ _ _ args.t _ _ _ pre.0 _ _ _ token-after.ensures
    (function_of args.edition.number (kind_of args.t.kind)) c.in-Some.f
    (sym c.in-Some.ensures)
    if2.true refuse2.ensures

pub call-arguments-requires : goal.call-arguments-requires
call-arguments-requires t c =
    let token-after = c.token_after-opener in
    let args = c.args in
    let pre = c.requires in
    let u = ready-next _ _ args.t args.n pre.0 _ token-after.ensures in
    let f = function-fits args.edition.number (kind_of args.t.kind) c.in-Some.f (sym c.in-Some.ensures) in
    let few = left-few c.in-Some.f.shapes in (
      omega (arith, c.decreases, few),
      (
        u,
        omega (arith, pre.1, few),
        f.1,
        f.0,
        omega arith,
      ),
    )

pub call-returns : goal.call-returns
call-returns t c =
    let arguments = c.arguments in
    let if2 = c.if-opener-ne-OPEN_PAREN in
    let token-after = c.token_after-opener in
    let args = c.args in
    let pre = c.requires in
    let known = sym c.in-Some.ensures in
    call-read _ _ _ args.t _ _ _ pre.0 _ _ _ token-after.ensures
    (function_of args.edition.number (kind_of args.t.kind))
    (function-completes args.edition.number (kind_of args.t.kind))
    c.in-Some.f known
    (begun _ _ (inside_of args.edition.number args.s.now args.levels) args.t args.n args.depth []
    pre.0
    (function-begun args.edition.number args.t.kind c.in-Some.f pre.0.known known))
    if2.false arguments.ensures

pub field_form-primary-requires : goal.field_form-primary-requires
field_form-primary-requires t c =
    let pre = c.requires in
    (omega (arith, c.decreases), pre)

pub field_form-returns-then-t-ne-DOLLAR : goal.field_form-returns-then-t-ne-DOLLAR
field_form-returns-then-t-ne-DOLLAR t c =
    let primary = c.primary in
    let if1 = c.if-t-ne-DOLLAR in
    let args = c.args in
    let pre = c.requires in
    field-other _ _ _ args.t _ _ _ pre.0 _ _ if1.true primary.ensures

pub field_form-inside-r-requires : goal.field_form-inside-r-requires
field_form-inside-r-requires t c =
    let operand-after = c.operand_after-first in
    let pre = c.requires in
    let args = c.args in (
      omega (arith, c.decreases),
      (
        ready-operand _ _ args.t args.n pre.0 _ operand-after.ensures,
        omega
            (arith, pre.1),
        omega arith,
      ),
    )

pub field_form-suffix-requires : goal.field_form-suffix-requires
field_form-suffix-requires t c =
    let inside = c.inside-r in
    let operand-after = c.operand_after-first in
    let args = c.args in
    let pre = c.requires in
    let r = ready-operand _ _ args.t args.n pre.0 _ operand-after.ensures in (
      omega (arith, (reading-fits _ _ _ _ _ _ r _ _ _ inside.ensures).0),
      fits 4 _ 0 (omega arith) (omega (arith, pre.1)) (omega arith),
    )

pub field_form-returns : goal.field_form-returns
field_form-returns t c =
    let suffix = c.suffix in
    let inside = c.inside-r in
    let operand-after = c.operand_after-first in
    let if1 = c.if-t-ne-DOLLAR in
    let args = c.args in
    let pre = c.requires in
    field-read _ _ _ args.t _ _ _ pre.0 _ operand-after.ensures (omega (arith, pre.1)) _ _ _ _
    if1.false
    inside.ensures suffix.ensures

pub inside-returns-then-levels-eq0 : goal.inside-returns-then-levels-eq0
inside-returns-then-levels-eq0 t c =
    let too-deep = c.too_deep in
    let if1 = c.if-levels-eq0 in
    let args = c.args in
    refused-level _ _ _ _ _ _ _ _ _ (decoded args.opener) (inside-none _ _ args.levels _ _ _ _ if1.true)
    too-deep.ensures

pub inside-tier-requires : goal.inside-tier-requires
inside-tier-requires t c =
    let if1 = c.if-levels-eq0 in
    let pre = c.requires in (
      omega (arith, c.decreases, pre.2, if1.false),
      (
        pre.0,
        omega (arith, pre.1, pre.2, if1.false),
        pre.2,
      ),
    )

pub inside-returns : goal.inside-returns
inside-returns t c =
    let tier = c.tier in
    let if1 = c.if-levels-eq0 in
    let args = c.args in
    inside-read _ _ args.levels _ _ _ _ _ _ _ _ _ if1.false tier.ensures

pub more-loop-edition-init : goal.more-loop-edition-init
more-loop-edition-init t c = (refl, c.requires.0, turning-first _ _ _ _ _ _ _ _)

pub more-tier_of-requires : goal.more-tier_of-requires
more-tier_of-requires t c = c.loop-edition.invariant.1.known

pub more-returns-then-tier_of-k : goal.more-returns-then-tier_of-k
more-returns-then-tier_of-k t c = turning-stop _ _ _ _ _ _ _ _ _ _ c.loop-edition.invariant.2
    (λ z. c.if-tier_of-k.true (c.tier_of.ensures ∙ z))

pub more-right_of-first-requires : goal.more-right_of-first-requires
more-right_of-first-requires t c = (
  c.loop-edition.invariant.1.good,
  c.loop-edition.invariant.1.known,
)

pub more-overflow_add-m : goal.more-overflow_add-m
more-overflow_add-m t c =
    let between = c.between in
    let loop = c.loop-edition in
    let h = loop.invariant.1 in
    record {
      fits = omega (
        arith,
        between.ensures,
        between-few loop.r.token.kind,
        h.count,
        h.good.ordered,
        h.good.within,
        h.small,
      );
    }

pub more-right_depth-d-requires : goal.more-right_depth-d-requires
more-right_depth-d-requires t c = omega
    (arith, c.requires.1)

pub more-tier-right-requires : goal.more-tier-right-requires
more-tier-right-requires t c =
    let right-depth = c.right_depth-d in
    let between = c.between in
    let right_of = c.right_of-first in
    let if1 = c.if-tier_of-k in
    let tier-of = c.tier_of in
    let loop = c.loop-edition in
    let args = c.args in
    let pre = c.requires in
    let few = depth-few loop.r.token.kind args.depth in (
      omega (arith, c.decreases, pre.2),
      (
        right-ready _ _ args.printed args.k (λ z. omega (arith, z, pre.2)) loop.r loop.invariant.1
            (sym tier-of.ensures ∙ if1.false) _ right_of.ensures _
            (ap (λ (i : ℕ). loop.r.count + i) between.ensures),
        omega
            (arith, pre.1, pre.2, few, right-depth.ensures),
        omega (arith, pre.3),
      ),
    )

pub more-returns-then-right-ne0 : goal.more-returns-then-right-ne0
more-returns-then-right-ne0 t c =
    let if2 = c.if-right-ne0 in
    let tier = c.tier-right in
    let right_of = c.right_of-first in
    let if1 = c.if-tier_of-k in
    let tier-of = c.tier_of in
    let loop = c.loop-edition in
    let pre = c.requires in
    turning-failed _ _ _ _ _ _ _ _ loop.r _ loop.invariant.2 (λ z. omega (arith, z, pre.2)) loop.invariant.1
    (sym tier-of.ensures ∙ if1.false) _ right_of.ensures _ _ _ _ tier.ensures if2.true

pub more-apply-r-requires : goal.more-apply-r-requires
more-apply-r-requires t c =
    let tier = c.tier-right in
    let between = c.between in
    let right_of = c.right_of-first in
    let if1 = c.if-tier_of-k in
    let tier-of = c.tier_of in
    let loop = c.loop-edition in
    let args = c.args in
    let pre = c.requires in
    let h = loop.invariant.1 in (
      omega (
        arith,
        (reading-fits _ _ _ _ _ _ (right-ready _ _ args.printed args.k
            (λ z. omega (arith, z, pre.2)) loop.r loop.invariant.1 (sym tier-of.ensures ∙ if1.false) _
            right_of.ensures _ (ap (λ (i : ℕ). loop.r.count + i) between.ensures)) _ _ _ tier.ensures).0,
      ),
      omega (arith, h.count, h.good.ordered, h.good.within, h.small),
      omega (arith, pre.1),
      h.known,
    )

pub more-returns-then-k-eq-COMPARED : goal.more-returns-then-k-eq-COMPARED
more-returns-then-k-eq-COMPARED t c =
    let if3 = c.if-k-eq-COMPARED in
    let apply = c.apply-r in
    let if2 = c.if-right-ne0 in
    let tier = c.tier-right in
    let right-depth = c.right_depth-d in
    let between = c.between in
    let right_of = c.right_of-first in
    let if1 = c.if-tier_of-k in
    let tier-of = c.tier_of in
    let loop = c.loop-edition in
    let pre = c.requires in
    let args = c.args in
    turning-single _ _ _ _ _ _ _ _ loop.r _ loop.invariant.2 (λ z. omega (arith, z, pre.2)) loop.invariant.1
    (sym tier-of.ensures ∙ if1.false) _ right_of.ensures _ _ _ _ tier.ensures (omega (arith, pre.1))
    (ap (λ (i : ℕ). loop.r.count + i) between.ensures) right-depth.ensures if2.false
    (omega (
      arith,
      (reading-fits _ _ _ _ _ _ (right-ready _ _ args.printed args.k
          (λ z. omega (arith, z, pre.2)) loop.r loop.invariant.1 (sym tier-of.ensures ∙ if1.false) _
          right_of.ensures _ (ap (λ (i : ℕ). loop.r.count + i) between.ensures)) _ _ _ tier.ensures).0,
    )) _ _
    apply.ensures.0 apply.ensures.1 if3.true

pub more-loop-edition-smaller : goal.more-loop-edition-smaller
more-loop-edition-smaller t c =
    let apply = c.apply-r in
    let if2 = c.if-right-ne0 in
    let tier = c.tier-right in
    let between = c.between in
    let right_of = c.right_of-first in
    let if1 = c.if-tier_of-k in
    let tier-of = c.tier_of in
    let loop = c.loop-edition in
    let args = c.args in
    let pre = c.requires in
    let next = next-ready _ _ args.printed args.k (λ z. omega (arith, z, pre.2)) loop.r loop.invariant.1
    (sym tier-of.ensures ∙ if1.false) _ right_of.ensures _ _ _
    (ap (λ (i : ℕ). loop.r.count + i) between.ensures) _ _ _ tier.ensures if2.false _
    apply.ensures.0 in
    omega (
      arith,
      next-further _ _ args.printed args.k (λ z. omega (arith, z, pre.2)) loop.r
          loop.invariant.1 (sym tier-of.ensures ∙ if1.false) _ right_of.ensures _ _ _
          (ap (λ (i : ℕ). loop.r.count + i) between.ensures) _ _ _ tier.ensures if2.false _
          apply.ensures.0,
      next.good.ordered,
      next.good.within,
    )

pub more-loop-edition-preserved : goal.more-loop-edition-preserved
more-loop-edition-preserved t c =
    let if3 = c.if-k-eq-COMPARED in
    let apply = c.apply-r in
    let if2 = c.if-right-ne0 in
    let tier = c.tier-right in
    let right-depth = c.right_depth-d in
    let between = c.between in
    let right_of = c.right_of-first in
    let if1 = c.if-tier_of-k in
    let tier-of = c.tier_of in
    let loop = c.loop-edition in
    let args = c.args in
    let pre = c.requires in (
      omega (arith, loop.invariant.0, tier.auto.section, apply.auto.section),
      next-ready _ _ args.printed args.k
          (λ z. omega (arith, z, pre.2)) loop.r loop.invariant.1 (sym tier-of.ensures ∙ if1.false) _
          right_of.ensures _ _ _ (ap (λ (i : ℕ). loop.r.count + i) between.ensures) _ _ _ tier.ensures
          if2.false _ apply.ensures.0,
      turning-again _ _ _ _ _ _ _ _ loop.r _ loop.invariant.2 (λ z. omega (arith, z, pre.2)) loop.invariant.1
          (sym tier-of.ensures ∙ if1.false) _ right_of.ensures _ _ _ _ tier.ensures (omega (arith, pre.1))
          (ap (λ (i : ℕ). loop.r.count + i) between.ensures) right-depth.ensures if2.false
          (omega (
            arith,
            (reading-fits _ _ _ _ _ _ (right-ready _ _ args.printed args.k
                (λ z. omega (arith, z, pre.2)) loop.r loop.invariant.1 (sym tier-of.ensures ∙ if1.false) _
                right_of.ensures _ (ap (λ (i : ℕ). loop.r.count + i) between.ensures)) _ _ _ tier.ensures).0,
          )) _ _
          apply.ensures.0 apply.ensures.1 if3.false,
    )

pub nested-inside-requires : goal.nested-inside-requires
nested-inside-requires t c = (
  omega (arith, c.decreases),
  (c.requires.0, c.requires.1, omega arith),
)

pub nested-returns : goal.nested-returns
nested-returns t c = c.inside.ensures

pub prefix_form-field_form-requires : goal.prefix_form-field_form-requires
prefix_form-field_form-requires t c =
    let pre = c.requires in
    (omega (arith, c.decreases), pre)

pub prefix_form-returns-then-not-is_prefix : goal.prefix_form-returns-then-not-is_prefix
prefix_form-returns-then-not-is_prefix t c =
    let field-form = c.field_form in
    let if1 = c.if-not-is_prefix in
    let is-prefix = c.is_prefix in
    let args = c.args in
    let pre = c.requires in
    prefix-other _ _ _ args.t _ _ _ pre.0 _ _ _ (sym is-prefix.ensures ∙ not-true _ (ap not if1.true))
    field-form.ensures

pub prefix_form-inside-r-requires : goal.prefix_form-inside-r-requires
prefix_form-inside-r-requires t c =
    let operand-after = c.operand_after-first in
    let pre = c.requires in
    let args = c.args in (
      omega (arith, c.decreases),
      (
        ready-operand _ _ args.t args.n pre.0 _ operand-after.ensures,
        omega
            (arith, pre.1),
        omega arith,
      ),
    )

pub prefix_form-suffix-requires : goal.prefix_form-suffix-requires
prefix_form-suffix-requires t c =
    let prefix-code = c.prefix_code-op in
    let inside = c.inside-r in
    let operand-after = c.operand_after-first in
    let args = c.args in
    let pre = c.requires in
    let r = ready-operand _ _ args.t args.n pre.0 _ operand-after.ensures in (
      omega (arith, (reading-fits _ _ _ _ _ _ r _ _ _ inside.ensures).0),
      fits _ _ 0 (subst (λ (i : ℕ). i < 256) (sym prefix-code.ensures) (prefix-small (kind_of args.t.kind)))
          (omega (arith, pre.1)) (omega arith),
    )

pub prefix_form-returns : goal.prefix_form-returns
prefix_form-returns t c =
    let suffix = c.suffix in
    let prefix-code = c.prefix_code-op in
    let inside = c.inside-r in
    let operand-after = c.operand_after-first in
    let if1 = c.if-not-is_prefix in
    let is-prefix = c.is_prefix in
    let args = c.args in
    let pre = c.requires in
    prefix-read _ _ _ args.t _ _ _ pre.0 _ operand-after.ensures (omega (arith, pre.1)) _ _ _ _ _
    (sym is-prefix.ensures ∙ not-false _ (ap not if1.false)) inside.ensures
    (subst (λ (i : ℕ). Suffixed inside.result i (args.depth + 1) 0 0 inside.new.section suffix.result
    suffix.new.section)
    prefix-code.ensures suffix.ensures)

pub primary-leaf-requires : goal.primary-leaf-requires
primary-leaf-requires t c =
    let pre = c.requires in
    (pre.0, omega (arith, pre.1), omega arith)

pub primary-returns-then-kind : goal.primary-returns-then-kind
primary-returns-then-kind t c =
    let leaf = c.leaf in
    let if1 = c.if-kind in
    let args = c.args in
    let pre = c.requires in
    primary-constant _ _ _ args.t _ _ _ pre.0 (omega (arith, pre.1)) _ _ if1.true leaf.ensures.0
    leaf.ensures.1

pub primary-ere-requires : goal.primary-ere-requires
primary-ere-requires t c =
    let pre = c.requires in
    (pre.0, omega (arith, pre.1))

pub primary-returns-then-kind-eq-ERE : goal.primary-returns-then-kind-eq-ERE
primary-returns-then-kind-eq-ERE t c =
    let ere = c.ere in
    let if2 = c.if-kind-eq-ERE in
    let args = c.args in
    let pre = c.requires in
    primary-ere _ _ _ args.t _ _ _ pre.0 (omega (arith, pre.1)) _ _ if2.true ere.ensures.0
    ere.ensures.1

pub primary-leaf-requires-then-is_name : goal.primary-leaf-requires-then-is_name
primary-leaf-requires-then-is_name t c =
    let pre = c.requires in
    (pre.0, omega (arith, pre.1), omega arith)

pub primary-returns-then-is_name : goal.primary-returns-then-is_name
primary-returns-then-is_name t c =
    let leaf2 = c.leaf-then-is_name in
    let name-form = c.name_form-form in
    let if3 = c.if-is_name in
    let is_name = c.is_name in
    let if2 = c.if-kind-eq-ERE in
    let if1 = c.if-kind in
    let args = c.args in
    let pre = c.requires in
    primary-name _ _ _ args.t _ _ _ pre.0 if1.false if2.false (omega (arith, pre.1)) _ _ _
    (sym is_name.ensures ∙ if3.true) name-form.ensures leaf2.ensures.0 leaf2.ensures.1

pub primary-call-requires : goal.primary-call-requires
primary-call-requires t c =
    let pre = c.requires in
    (omega (arith, c.decreases), pre)

pub primary-returns-then-kind-ne-OPEN_PAREN : goal.primary-returns-then-kind-ne-OPEN_PAREN
primary-returns-then-kind-ne-OPEN_PAREN t c =
    let call = c.call in
    let if4 = c.if-kind-ne-OPEN_PAREN in
    let if3 = c.if-is_name in
    let is_name = c.is_name in
    let if2 = c.if-kind-eq-ERE in
    let if1 = c.if-kind in
    let args = c.args in
    let pre = c.requires in
    primary-called _ _ _ args.t _ _ _ pre.0 if1.false if2.false (sym is_name.ensures ∙ if3.false)
    if4.true _ _
    call.ensures

pub primary-nested-r-requires : goal.primary-nested-r-requires
primary-nested-r-requires t c =
    let operand-after = c.operand_after-first in
    let pre = c.requires in
    let args = c.args in (
      omega (arith, c.decreases),
      (
        ready-operand _ _ args.t args.n pre.0 _ operand-after.ensures,
        omega
            (arith, pre.1),
      ),
    )

pub primary-closed-requires : goal.primary-closed-requires
primary-closed-requires t c =
    let nested = c.nested-r in
    let operand-after = c.operand_after-first in
    let args = c.args in
    let pre = c.requires in
    (reading-fits _ _ _ _ _ _ (ready-operand _ _ args.t args.n pre.0 _ operand-after.ensures) _ _ _
    nested.ensures).1

pub primary-returns : goal.primary-returns
primary-returns t c =
    let closed = c.closed in
    let nested = c.nested-r in
    let operand-after = c.operand_after-first in
    let if4 = c.if-kind-ne-OPEN_PAREN in
    let if3 = c.if-is_name in
    let is_name = c.is_name in
    let if2 = c.if-kind-eq-ERE in
    let if1 = c.if-kind in
    let args = c.args in
    let pre = c.requires in
    primary-paren _ _ _ args.t _ _ _ pre.0 if1.false if2.false (sym is_name.ensures ∙ if3.false)
    if4.false _ _ _ _
    operand-after.ensures nested.ensures closed.ensures

pub tier-field_form-requires : goal.tier-field_form-requires
tier-field_form-requires t c =
    let pre = c.requires in
    (omega (arith, c.decreases), (pre.0, omega (arith, pre.1)))

pub tier-returns-then-k-eq-FIELDS : goal.tier-returns-then-k-eq-FIELDS
tier-returns-then-k-eq-FIELDS t c =
    let field-form = c.field_form in
    let if1 = c.if-k-eq-FIELDS in
    let args = c.args in
    read-fields _ _ _ _ args.k _ _ _ _ _ _ if1.true field-form.ensures

pub tier-prefix_form-requires : goal.tier-prefix_form-requires
tier-prefix_form-requires t c =
    let pre = c.requires in
    (omega (arith, c.decreases), (pre.0, omega (arith, pre.1)))

pub tier-returns-then-k-eq-PREFIXED : goal.tier-returns-then-k-eq-PREFIXED
tier-returns-then-k-eq-PREFIXED t c =
    let prefix-form = c.prefix_form in
    let if2 = c.if-k-eq-PREFIXED in
    let args = c.args in
    read-prefixed _ _ _ _ args.k _ _ _ _ _ _ if2.true prefix-form.ensures

pub tier-tier-r-requires : goal.tier-tier-r-requires
tier-tier-r-requires t c =
    let if1 = c.if-k-eq-FIELDS in
    let pre = c.requires in
    (omega (arith, c.decreases, if1.false), (pre.0, omega (arith, pre.1), omega (arith, pre.2)))

pub tier-returns-then-r-ne0 : goal.tier-returns-then-r-ne0
tier-returns-then-r-ne0 t c =
    let if3 = c.if-r-ne0 in
    let tier = c.tier-r in
    let if2 = c.if-k-eq-PREFIXED in
    let if1 = c.if-k-eq-FIELDS in
    let args = c.args in
    tier-failed _ _ _ _ args.k _ _ _ _ _ _ if1.false if2.false tier.ensures if3.true

pub tier-matching-requires : goal.tier-matching-requires
tier-matching-requires t c =
    let if3 = c.if-r-ne0 in
    let tier = c.tier-r in
    let pre = c.requires in
    (reading-ready _ _ _ _ _ _ pre.0 _ _ _ tier.ensures if3.false, omega (arith, pre.1))

pub tier-returns-then-k-eq-MATCHED : goal.tier-returns-then-k-eq-MATCHED
tier-returns-then-k-eq-MATCHED t c =
    let matching = c.matching in
    let if4 = c.if-k-eq-MATCHED in
    let if3 = c.if-r-ne0 in
    let tier = c.tier-r in
    let args = c.args in
    read-matched _ _ _ _ args.k _ _ _ _ _ _ _ _ tier.ensures if3.false if4.true matching.ensures

pub tier-assignment-requires : goal.tier-assignment-requires
tier-assignment-requires t c =
    let if5 = c.if-k-eq-EXPRESSIONS in
    let if3 = c.if-r-ne0 in
    let tier = c.tier-r in
    let pre = c.requires in
    let h = pre.0 in (
      omega (arith, c.decreases, if5.true),
      (
        reading-ready _ _ _ _ _ _ pre.0 _ _ _ tier.ensures if3.false,
        reading-some _ _ _ _ _ _ _ _ _
            tier.ensures if3.false,
        omega (arith, h.good.ordered, h.good.within, h.small),
        omega (arith, pre.1),
      ),
    )

pub tier-returns-then-k-eq-EXPRESSIONS : goal.tier-returns-then-k-eq-EXPRESSIONS
tier-returns-then-k-eq-EXPRESSIONS t c =
    let assignment = c.assignment in
    let if5 = c.if-k-eq-EXPRESSIONS in
    let if3 = c.if-r-ne0 in
    let tier = c.tier-r in
    let args = c.args in
    read-assigned _ _ _ _ args.k _ _ _ _ _ _ _ _ tier.ensures if3.false if5.true _ refl
    assignment.ensures

pub tier-more-requires : goal.tier-more-requires
tier-more-requires t c =
    let if3 = c.if-r-ne0 in
    let tier = c.tier-r in
    let if2 = c.if-k-eq-PREFIXED in
    let if1 = c.if-k-eq-FIELDS in
    let pre = c.requires in (
      omega (arith, c.decreases),
      (
        reading-ready _ _ _ _ _ _ pre.0 _ _ _ tier.ensures if3.false,
        omega
            (arith, pre.1),
        omega (arith, if1.false, if2.false),
        pre.2,
      ),
    )

pub tier-returns : goal.tier-returns
tier-returns t c =
    let more = c.more in
    let if5 = c.if-k-eq-EXPRESSIONS in
    let if4 = c.if-k-eq-MATCHED in
    let if3 = c.if-r-ne0 in
    let tier = c.tier-r in
    let if2 = c.if-k-eq-PREFIXED in
    let if1 = c.if-k-eq-FIELDS in
    let args = c.args in
    read_more _ _ _ _ args.k _ _ _ _ _ _ _ _ tier.ensures if3.false if1.false if2.false if4.false
    if5.false more.ensures
