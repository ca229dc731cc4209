-- `text_length` meets its contract, by the value's kind.
use lib.ListN.{length}
use Rattle.buffer.specs.Parts.{part}
use Rattle.buffer.proofs.Parts.{length_part}
use mathlib.Core.Path.{sym, ap, ◌∙◌}
use Rattle.run_parts.proofs.Grown.{number-text, text-low, text-words}
use Rattle.run_parts.proofs.measuring.text_length.Goals as goal

pub returns-then-k-eq-NUMBER : goal.returns-then-k-eq-NUMBER
returns-then-k-eq-NUMBER c = let p = c.args.p in λ x h. c.decimal_length.ensures ∙ ap length (sym (number-text p.kind p.word c.min-w.result (part p.from p.size x) c.if-k-eq-NUMBER.true c.min-w.ensures))

pub returns-then-k-lt-TEXT : goal.returns-then-k-lt-TEXT
returns-then-k-lt-TEXT c = let p = c.args.p in λ x h. ap length (sym (text-low p.kind p.word (part p.from p.size x) c.if-k-eq-NUMBER.false c.if-k-lt-TEXT.true))

pub returns : goal.returns
returns c = let p = c.args.p in λ x h. sym (ap length (text-words p.kind p.word (part p.from p.size x) c.if-k-lt-TEXT.false) ∙ length_part p.from p.size x h)
