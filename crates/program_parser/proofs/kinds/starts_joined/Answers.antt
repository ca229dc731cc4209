use Rattle.program_tree.specs.Functions.{function_of}
use Rattle.program_grammar.specs.Sets.{starts_joined}
use Rattle.program_lexer.specs.Coded.{kind_of}
use Rattle.program_parser.proofs.Others.{some-function}
use Rattle.program_parser.proofs.kinds.starts_joined.Goals as goal

pub returns : goal.returns
unfolding starts_joined
returns c = rw (c.starts_operand.ensures, c.is_some.ensures, c.function_of.ensures, some-function (function_of c.args.edition.number (kind_of c.args.kind)))
