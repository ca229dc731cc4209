-- `take_turn`: the turn, or its refusal.
use Rattle.ere_parser.proofs.reader.take_turn.Goals as goal

pub returns-in_err-s : goal.returns-in_err-s
returns-in_err-s c = rw c.from_residual.ensures (λ n. c.in_err-s.ensures n)
