use mathlib.Core.Path.{◌∙◌}
use Rattle.program_tokens.specs.Kinds.{rank}
use Rattle.program_reader.specs.Operators.{tier_of, operator_in}
use Rattle.program_lexer.specs.Coded.{kind_of}
use Rattle.program_parser.proofs.Others.{other-tier}
use Rattle.program_operators.proofs.operators.plain_tier.Goals as goal

pub returns-in-60 : goal.returns-in-60
unfolding tier_of operator_in kind_of rank
returns-in-60 c = rw c.in-60.is

pub returns-in-61 : goal.returns-in-61
unfolding tier_of operator_in kind_of rank
returns-in-61 c = rw c.in-61.is

pub returns-in-53 : goal.returns-in-53
unfolding tier_of operator_in kind_of rank
returns-in-53 c = rw c.in-53.is

pub returns-in-64 : goal.returns-in-64
unfolding tier_of operator_in kind_of rank
returns-in-64 c = rw c.in-64.is

pub returns-in-63 : goal.returns-in-63
unfolding tier_of operator_in kind_of rank
returns-in-63 c = rw c.in-63.is

pub returns-in-66 : goal.returns-in-66
unfolding tier_of operator_in kind_of rank
returns-in-66 c = rw c.in-66.is

pub returns-in-52 : goal.returns-in-52
unfolding tier_of operator_in kind_of rank
returns-in-52 c = rw c.in-52.is

pub returns-in-65 : goal.returns-in-65
unfolding tier_of operator_in kind_of rank
returns-in-65 c = rw c.in-65.is

pub returns-in-45 : goal.returns-in-45
unfolding tier_of operator_in kind_of rank
returns-in-45 c = rw c.in-45.is

pub returns-in-46 : goal.returns-in-46
unfolding tier_of operator_in kind_of rank
returns-in-46 c = rw c.in-46.is

pub returns-in-47 : goal.returns-in-47
unfolding tier_of operator_in kind_of rank
returns-in-47 c = rw c.in-47.is

pub returns-in-48 : goal.returns-in-48
unfolding tier_of operator_in kind_of rank
returns-in-48 c = rw c.in-48.is

pub returns-in-49 : goal.returns-in-49
unfolding tier_of operator_in kind_of rank
returns-in-49 c = rw c.in-49.is

pub returns-in_default : goal.returns-in_default
returns-in_default c = c.joined_tier.ensures ∙ other-tier c.args.kind c.requires _ c.in_default.in_default-own.rest.0.0.0.0.0.0.0.0.0.0.0.0.1 c.in_default.in_default-own.rest.0.0.0.0.0.0.0.0.0.0.0.1 c.in_default.in_default-own.rest.0.0.0.0.0.0.0.0.0.0.1 c.in_default.in_default-own.rest.0.0.0.0.0.0.0.0.0.1 c.in_default.in_default-own.rest.0.0.0.0.0.0.0.0.1 c.in_default.in_default-own.rest.0.0.0.0.0.0.0.1 c.in_default.in_default-own.rest.0.0.0.0.0.0.1 c.in_default.in_default-own.rest.0.0.0.0.0.1 c.in_default.in_default-own.rest.0.0.0.0.1 c.in_default.in_default-own.rest.0.0.0.1 c.in_default.in_default-own.rest.0.0.1 c.in_default.in_default-own.rest.0.1 c.in_default.in_default-own.rest.1
