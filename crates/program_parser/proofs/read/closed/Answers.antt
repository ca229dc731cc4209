use Rattle.program_parser.proofs.Codes.{closed-no, closed-refused, closed-ok}
use Rattle.program_parser.proofs.read.closed.Goals as goal

pub returns-then-r-ne0 : goal.returns-then-r-ne0
returns-then-r-ne0 c = closed-no c.args.edition.number c.args.s.now c.args.r c.if-r-ne0.true

pub returns-then-kind-ne-CLOSE_PAREN : goal.returns-then-kind-ne-CLOSE_PAREN
returns-then-kind-ne-CLOSE_PAREN c = closed-refused c.args.edition.number c.args.s.now c.args.r c.if-r-ne0.false c.requires _ c.if-kind-ne-CLOSE_PAREN.true c.refuse.ensures

pub returns : goal.returns
returns c = closed-ok c.args.edition.number c.args.s.now c.args.r c.if-r-ne0.false c.requires _ _ c.if-kind-ne-CLOSE_PAREN.false c.token_after.ensures c.ok.ensures
