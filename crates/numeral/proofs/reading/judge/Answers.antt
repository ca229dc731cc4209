-- `judge`: one law for each way.
use mathlib.Core.Path.{sym, ap, ◌∙◌}
use mathlib.Core.Bool.{Bool}
use native.Mathlib.Omega.{arith}
use Rattle.number.specs.Range.{number}
use Rattle.number.proofs.Bias.{unbias-plus, unbias-minus}
use Rattle.numeral.specs.Judgement.{with_sign}
use Rattle.numeral.proofs.Judging.{judged-over, judged-broken, judged-whole}
use Rattle.numeral.proofs.reading.judge.Goals as goal

pub returns-then-whole-gt-NUMBER : goal.returns-then-whole-gt-NUMBER
returns-then-whole-gt-NUMBER c = record { answer = sym (judged-over _ _ _ c.if-whole-gt-NUMBER.true); bounded = tt }

pub returns-then-fraction-gt0 : goal.returns-then-fraction-gt0
returns-then-fraction-gt0 c = record { answer = sym (judged-broken _ _ _ (omega arith) c.if-fraction-gt0.true); bounded = tt }

pub returns-then-negative : goal.returns-then-negative
returns-then-negative c =
    let a = c.args in
    record {
      answer =
          ap number (unbias-minus a.whole c.if-whole-gt-NUMBER.false ∙ ap (λ (b : Bool). with_sign b a.whole) (sym c.if-negative.true))
          ∙ sym (judged-whole a.negative a.whole a.fraction c.if-whole-gt-NUMBER.false (omega arith));
      bounded = omega arith;
    }

pub returns-else-negative : goal.returns-else-negative
returns-else-negative c =
    let a = c.args in
    record {
      answer =
          ap number (unbias-plus a.whole ∙ ap (λ (b : Bool). with_sign b a.whole) (sym c.if-negative.false))
          ∙ sym (judged-whole a.negative a.whole a.fraction c.if-whole-gt-NUMBER.false (omega arith));
      bounded = omega arith;
    }
