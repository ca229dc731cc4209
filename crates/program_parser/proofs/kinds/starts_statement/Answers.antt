use Rattle.program_grammar.specs.Sets.{starts_statement}
use Rattle.program_parser.proofs.Sets.{next-kind}
use Rattle.program_parser.proofs.kinds.starts_statement.Goals as goal

pub returns : goal.returns
unfolding starts_statement
returns c = rw (c.starts_expression.ensures, c.starts_form.ensures, next-kind c.args.kind c.requires)
