use mathlib.Core.Path.{◌∙◌}
use Rattle.program_lexer.specs.Coded.{kind_of}
use Rattle.program_parser.proofs.Others.{no-function, length-function, index-function, substr-function, match-function}
use Rattle.program_parser.proofs.calls.function_of.Goals as goal

pub returns-in-29 : goal.returns-in-29
unfolding kind_of
returns-in-29 c = rw c.in-29.is (c.with_since.ensures ∙ length-function _)

pub returns-in-30 : goal.returns-in-30
unfolding kind_of
returns-in-30 c = rw c.in-30.is (c.with_since-in-30.ensures ∙ index-function _)

pub returns-in-31 : goal.returns-in-31
unfolding kind_of
returns-in-31 c = rw c.in-31.is (c.with_since-in-31.ensures ∙ substr-function _)

pub returns-in-32 : goal.returns-in-32
unfolding kind_of
returns-in-32 c = rw c.in-32.is (c.with_since-in-32.ensures ∙ match-function _)

pub returns-in_default : goal.returns-in_default
returns-in_default c = no-function c.args.kind c.requires _ c.in_default.in_default-own.rest.0.0.0.1 c.in_default.in_default-own.rest.0.0.1 c.in_default.in_default-own.rest.0.1 c.in_default.in_default-own.rest.1
