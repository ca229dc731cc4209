use Rattle.program_tokens.specs.Kinds.{rank}
use Rattle.program_code.specs.Emitted.{action_code, arithmetic_code, comparison_code}
use Rattle.program_lexer.specs.Coded.{kind_of}
use Rattle.program_parser.specs.Tables.{action_of}
use Rattle.program_parser.proofs.Others.{other-code}
use Rattle.program_operators.proofs.operators.operator_code.Goals as goal

pub returns-in-45 : goal.returns-in-45
unfolding action_of action_code arithmetic_code comparison_code kind_of rank
returns-in-45 c = rw c.in-45.is

pub returns-in-46 : goal.returns-in-46
unfolding action_of action_code arithmetic_code comparison_code kind_of rank
returns-in-46 c = rw c.in-46.is

pub returns-in-47 : goal.returns-in-47
unfolding action_of action_code arithmetic_code comparison_code kind_of rank
returns-in-47 c = rw c.in-47.is

pub returns-in-48 : goal.returns-in-48
unfolding action_of action_code arithmetic_code comparison_code kind_of rank
returns-in-48 c = rw c.in-48.is

pub returns-in-49 : goal.returns-in-49
unfolding action_of action_code arithmetic_code comparison_code kind_of rank
returns-in-49 c = rw c.in-49.is

pub returns-in-53 : goal.returns-in-53
unfolding action_of action_code arithmetic_code comparison_code kind_of rank
returns-in-53 c = rw c.in-53.is

pub returns-in-64 : goal.returns-in-64
unfolding action_of action_code arithmetic_code comparison_code kind_of rank
returns-in-64 c = rw c.in-64.is

pub returns-in-63 : goal.returns-in-63
unfolding action_of action_code arithmetic_code comparison_code kind_of rank
returns-in-63 c = rw c.in-63.is

pub returns-in-66 : goal.returns-in-66
unfolding action_of action_code arithmetic_code comparison_code kind_of rank
returns-in-66 c = rw c.in-66.is

pub returns-in-52 : goal.returns-in-52
unfolding action_of action_code arithmetic_code comparison_code kind_of rank
returns-in-52 c = rw c.in-52.is

pub returns-in-65 : goal.returns-in-65
unfolding action_of action_code arithmetic_code comparison_code kind_of rank
returns-in-65 c = rw c.in-65.is

pub returns-in_default : goal.returns-in_default
returns-in_default c = other-code c.args.kind c.requires c.in_default.in_default-own.rest.0.0.0.0.0.0.0.0.0.0.1 c.in_default.in_default-own.rest.0.0.0.0.0.0.0.0.0.1 c.in_default.in_default-own.rest.0.0.0.0.0.0.0.0.1 c.in_default.in_default-own.rest.0.0.0.0.0.0.0.1 c.in_default.in_default-own.rest.0.0.0.0.0.0.1 c.in_default.in_default-own.rest.0.0.0.0.0.1 c.in_default.in_default-own.rest.0.0.0.0.1 c.in_default.in_default-own.rest.0.0.0.1 c.in_default.in_default-own.rest.0.0.1 c.in_default.in_default-own.rest.0.1 c.in_default.in_default-own.rest.1
