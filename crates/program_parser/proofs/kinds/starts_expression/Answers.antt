use Rattle.program_grammar.specs.Sets.{starts_expression}
use Rattle.program_parser.proofs.Sets.{late-kind}
use Rattle.program_parser.proofs.kinds.starts_expression.Goals as goal

pub returns : goal.returns
unfolding starts_expression
returns c = rw (c.starts_joined.ensures, c.is_prefix.ensures, late-kind c.args.kind c.requires)
