-- Internal: cited by private contracts only. What an `Option` of the code says, as the option that definitions speak of.
use Rattle.std.specs.Prelude.{Option, Some, None}
use Rattle.std.proofs.Math.Option as maybe

abbrev pub option_of : {A : Type 0} → Option A → maybe.Option A
option_of None = maybe.none
option_of (Some a) = maybe.some a
