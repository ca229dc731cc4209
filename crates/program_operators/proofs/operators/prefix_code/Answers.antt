use Rattle.program_tokens.specs.Kinds.{rank}
use Rattle.program_reader.specs.Operators.{prefix_of}
use Rattle.program_code.specs.Emitted.{action_code}
use Rattle.program_code.specs.Expressions.{prefix_action}
use Rattle.program_lexer.specs.Coded.{kind_of}
use Rattle.program_parser.proofs.Others.{other-prefix}
use Rattle.program_operators.proofs.operators.prefix_code.Goals as goal

pub returns-in-51 : goal.returns-in-51
unfolding prefix_of prefix_action action_code kind_of rank
returns-in-51 c = rw c.in-51.is

pub returns-in-45 : goal.returns-in-45
unfolding prefix_of prefix_action action_code kind_of rank
returns-in-45 c = rw c.in-45.is

pub returns-in_default : goal.returns-in_default
returns-in_default c = other-prefix c.args.kind c.requires c.in_default.in_default-own.rest.0.1 c.in_default.in_default-own.rest.1
