use borrow.Author.Rules.{rules}
use mathlib.Core.Path.{ap, ◌∙◌}
use mathlib.Core.List.{[], ◌∷◌}
use Prim.Native.Nat.{ℕ, ◌+◌}
use native.Mathlib.Omega.{arith}
use lib.Seq.{sets}
use Rattle.program_words.specs.Words.{word}
use Rattle.program_parser.specs.Reading.{answered}
use Rattle.program_operations.proofs.Readings.{ready-operand}
use Rattle.program_operations.proofs.Primaries.{fits}
use Rattle.program_operations.proofs.Matching.{match_none, match-refused, match-tilde, match-not}
use Rattle.program_operations.proofs.parts.matching.Goals as goal

pub returns-then-kind : goal.returns-then-kind
returns-then-kind c =
    let if1 = c.if-kind in
    let pre = c.requires in
    match_none _ _ _ _ _ pre.0 if1.true

pub refuse-requires : goal.refuse-requires
refuse-requires c =
    let operand-after = c.operand_after-u in
    let pre = c.requires in
    (ready-operand _ _ _ _ pre.0 _ operand-after.ensures).known

pub returns-then-found-ne-ERE : goal.returns-then-found-ne-ERE
returns-then-found-ne-ERE c =
    let refuse = c.refuse in
    let if2 = c.if-found-ne-ERE in
    let operand-after = c.operand_after-u in
    let if1 = c.if-kind in
    let pre = c.requires in
    match-refused _ _ _ _ _ pre.0 if1.false _ operand-after.ensures _ _ if2.true refuse.ensures

pub emit-n-requires : goal.emit-n-requires
emit-n-requires c =
    let operand-after = c.operand_after-u in
    let pre = c.requires in
    let u = ready-operand _ _ _ _ pre.0 _ operand-after.ensures in (
      fits 22 _ _ (omega arith) (search rules) (omega (arith, u.good.ordered, u.good.within, u.small)),
      search
          rules,
    )

pub returns-then-kind-eq-TILDE : goal.returns-then-kind-eq-TILDE
returns-then-kind-eq-TILDE c =
    let ok = c.ok in
    let if3 = c.if-kind-eq-TILDE in
    let token-after = c.token_after-next in
    let emit = c.emit-n in
    let if2 = c.if-found-ne-ERE in
    let operand-after = c.operand_after-u in
    let if1 = c.if-kind in
    let pre = c.requires in
    match-tilde _ _ _ _ _ pre.0 if1.false _ operand-after.ensures if2.false pre.1 _
    token-after.ensures _ emit.ensures.1 _
    if3.true (ok.ensures ∙ ap (λ (i : ℕ). answered token-after.result i 0) emit.ensures.0)

pub returns : goal.returns
returns c =
    let ok2 = c.ok-2 in
    let emit2 = c.emit-count in
    let if3 = c.if-kind-eq-TILDE in
    let token-after = c.token_after-next in
    let emit = c.emit-n in
    let if2 = c.if-found-ne-ERE in
    let operand-after = c.operand_after-u in
    let if1 = c.if-kind in
    let pre = c.requires in
    let args = c.args in
    match-not _ _ _ _ _ pre.0 if1.false _ operand-after.ensures if2.false pre.1 _ token-after.ensures
    _ emit.ensures.1 _ _
    if3.false (emit2.ensures.1 ∙ ap (λ (i : ℕ). sets emit.new.section i (word 14 (args.depth + 1) 0 ∷ []))
    emit.ensures.0)
    (ok2.ensures ∙ (ap (λ (i : ℕ). answered token-after.result i 0) emit2.ensures.0
    ∙ ap (λ (i : ℕ). answered token-after.result (i + 1) 0) emit.ensures.0))
