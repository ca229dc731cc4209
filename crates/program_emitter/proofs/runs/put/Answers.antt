use mathlib.Core.Path.{sym}
use lib.Seq.{set_out}
use Rattle.program_emitter.proofs.runs.put.Goals as goal

pub returns-else-n-section : goal.returns-else-n-section
returns-else-n-section c = sym (set_out c.args.section.now _ _ c.if-n-section.false)
