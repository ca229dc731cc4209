-- `pass` meets its contract: what it comes to is the same after each turn.
use mathlib.Core.Path.{sym, ap, ◌∙◌}
use mathlib.Core.List.{[], ◌∷◌}
use native.Mathlib.Omega.{arith}
use lib.ListN.{length}
use borrow.Author.Rules.{rules}
use Rattle.image_format.specs.Reading.{from_bytes}
use Rattle.varint.specs.Room.{with_all}
use Rattle.image.proofs.Stage.{word-written}
use Rattle.image.proofs.Passing.{Took, pass-starts, pass-cut, pass-unknown, pass-goes}
use Rattle.image.proofs.Passing.{pass-followed, pass-whole}
use Rattle.image.proofs.reading.pass.Goals as goal
use Rattle.image.proofs.reading.pass.Goals.{In-Some}

-- what was taken in a turn
took : (c : In-Some)
    → let i = c.loop-s in
    let a = c.args in
    let g = c.in-Some in
    Took from_bytes (λ n. n ∷ []) a.image.now a.words.now 1 i.words i.s i.at i.k g.v g.end
took c =
    let i = c.loop-s in
    let a = c.args in
    record {
      going = i.invariant.0;
      opens = omega (arith, c.loop-s-test.true);
      takes = c.in-Some.ensures;
    }

pub loop-s-init : goal.loop-s-init
loop-s-init c = (pass-starts from_bytes (λ n. n ∷ []) _ _ 1 _ c.start-s.ensures, search rules)

pub take-requires : goal.take-requires
take-requires c = c.loop-s.invariant.0.within

pub returns-in_default : goal.returns-in_default
returns-in_default c = pass-cut c.loop-s.invariant.0 (omega (arith, c.loop-s-test.true)) c.in_default.ensures

pub returns-in_default-after : goal.returns-in_default-after
returns-in_default-after c =
    let t = took (goal.at.returns-in_default-after c).In-Some in
    pass-unknown t _ (sym c.after.ensures ∙ c.in_default-after.is)

pub loop-s-smaller : goal.loop-s-smaller
loop-s-smaller c =
    let t = (took (goal.at.loop-s-smaller c).In-Some).takes in
    omega (arith, t.1, t.2)

pub loop-s-preserved : goal.loop-s-preserved
unfolding with_all
loop-s-preserved c =
    let i = c.loop-s in
    let e = word-written i.s.stage c.in-Some.v in
    let put = c.put_word in (
      pass-goes (took (goal.at.loop-s-preserved c).In-Some) _ _ _ (sym c.after.ensures ∙ c.in-Some-after.is)
          (omega (arith, ap length e)) (omega (arith, ap length e))
          (put.ensures ∙ ap (with_all i.words i.k) (sym e)),
      search rules,
    )

pub returns-then-at-image : goal.returns-then-at-image
returns-then-at-image c = pass-followed c.loop-s.invariant.0 c.loop-s-test.false c.if-at-image.true

pub returns : goal.returns
returns c = pass-whole c.loop-s.invariant.0 c.loop-s-test.false c.if-at-image.false
