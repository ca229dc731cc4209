-- `split_record`: the numbers of what `split` answers.
use mathlib.Core.Path.{ap₂, ◌∙◌}
use Rattle.splitting.specs.Splitting.{counting}
use Rattle.capi_texts.proofs.records.split_record.Goals as goal

pub returns : goal.returns
returns c = ap₂ counting c.split_outcome.ensures c.split_count.ensures ∙ c.split-s.ensures
