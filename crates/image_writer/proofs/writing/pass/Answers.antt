-- `pass` meets its contract: what it comes to is the same after each turn.
use mathlib.Core.Path.{sym, ◌∙◌}
use native.Mathlib.Omega.{arith}
use borrow.Author.Rules.{rules}
use Rattle.image_format.specs.Numbers.{coded}
use Rattle.image_format.specs.Reading.{from_words}
use Rattle.image.proofs.Stage.{words-most, bytes-written}
use Rattle.image.proofs.Passing.{Took, pass-starts, pass-cut, pass-unknown, pass-goes}
use Rattle.image.proofs.Passing.{pass-followed, pass-whole}
use Rattle.image_writer.proofs.writing.pass.Goals as goal
use Rattle.image_writer.proofs.writing.pass.Goals.{In-Some}

-- what was taken in a turn
took : (c : In-Some)
    → let i = c.loop-s in
    let a = c.args in
    let g = c.in-Some in
    Took from_words coded a.content.now a.bytes.now 8 i.bytes i.s i.at i.k g.v g.end
took c =
    let i = c.loop-s in
    let a = c.args in
    record {
      going = i.invariant.0;
      opens = omega (arith, c.loop-s-test.true);
      takes = c.in-Some.ensures;
    }

pub loop-s-init : goal.loop-s-init
loop-s-init c = (pass-starts from_words coded _ _ 8 _ c.start-s.ensures, search rules)

pub take-requires : goal.take-requires
take-requires c = c.loop-s.invariant.0.within

pub returns-in_default : goal.returns-in_default
returns-in_default c = pass-cut c.loop-s.invariant.0 (omega (arith, c.loop-s-test.true)) c.in_default.ensures

pub put-k-requires : goal.put-k-requires
put-k-requires c =
    let i = c.loop-s in
    let t = (took (goal.at.put-k-requires c).In-Some).takes in (
      words-most i.s.stage c.args.content.now i.at c.in-Some.v _ t,
      omega (arith, t.1, t.2, i.invariant.0.few),
    )

pub returns-in_default-after : goal.returns-in_default-after
returns-in_default-after c =
    let t = took (goal.at.returns-in_default-after c).In-Some in
    pass-unknown t _ (sym c.after.ensures ∙ c.in_default-after.is)

pub loop-s-smaller : goal.loop-s-smaller
loop-s-smaller c =
    let t = (took (goal.at.loop-s-smaller c).In-Some).takes in
    omega (arith, t.1, t.2)

pub loop-s-preserved : goal.loop-s-preserved
loop-s-preserved c =
    let i = c.loop-s in
    let put = c.put-k in (
      pass-goes (took (goal.at.loop-s-preserved c).In-Some) _ _ _ (sym c.after.ensures ∙ c.in-Some-after.is)
          (bytes-written i.s.stage c.in-Some.v) put.ensures.0 put.ensures.1,
      search rules,
    )

pub returns-then-at-content : goal.returns-then-at-content
returns-then-at-content c = pass-followed c.loop-s.invariant.0 c.loop-s-test.false c.if-at-content.true

pub returns : goal.returns
returns c = pass-whole c.loop-s.invariant.0 c.loop-s-test.false c.if-at-content.false
