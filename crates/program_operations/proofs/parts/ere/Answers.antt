use Rattle.program_operations.proofs.Readings.{answered-as}
use Rattle.program_operations.proofs.parts.ere.Goals as goal

pub returns : goal.returns
returns c = (
  answered-as _ _ _ _ _ _ c.ok.ensures c.token_after.ensures
      c.emit_ere-count.ensures.0,
  c.emit_ere-count.ensures.1,
)
