-- `known`, by its tests.
use borrow.Author.Tests.{eq-eqb, ne_eqb, lt-ltb, le-ltb}
use Rattle.front_options.proofs.options.known.Goals as goal

pub returns-then-given-option-ne0 : goal.returns-then-given-option-ne0
returns-then-given-option-ne0 c = simp (ne_eqb _ _ c.if-given-option-ne0.true) c.refuse.ensures

pub returns-then-option-lt-WITH_ARGUMENT : goal.returns-then-option-lt-WITH_ARGUMENT
returns-then-option-lt-WITH_ARGUMENT c = simp (eq-eqb _ _ c.if-given-option-ne0.false, lt-ltb _ _ c.if-option-lt-WITH_ARGUMENT.true) c.take.ensures

pub returns : goal.returns
returns c = simp (eq-eqb _ _ c.if-given-option-ne0.false, le-ltb _ _ c.if-option-lt-WITH_ARGUMENT.false)
