-- `kind_of` meets its contract: a byte by its range, the others by their numbers.
use mathlib.Core.Path.{sym, ap}
use Rattle.run_step.specs.Machine.{kind_of}
use Rattle.run_step.proofs.Separated.{byte-kind, other-kind}
use Rattle.run_step.proofs.machine.kind_of.Goals as goal

pub returns-then-word-lt-BLANKS : goal.returns-then-word-lt-BLANKS
returns-then-word-lt-BLANKS c = sym (byte-kind c.args.word c.if-word-lt-BLANKS.true)

pub returns-in-256 : goal.returns-in-256
returns-in-256 c = sym (ap kind_of c.in-256.is)

pub returns-in-257 : goal.returns-in-257
returns-in-257 c = sym (ap kind_of c.in-257.is)

pub returns-in_default : goal.returns-in_default
returns-in_default c =
    let n = c.in_default.in_default-own.rest in
    sym (other-kind c.args.word c.if-word-lt-BLANKS.false n.0.1 n.1)
