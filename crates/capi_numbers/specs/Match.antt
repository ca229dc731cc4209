-- Internal: cited by private contracts only. `search-within` of proofs/ shows it of each answer of a search.
use Rattle.std.specs.Prelude.{◌+◌, ◌≤◌, nat_abs}
use Rattle.edition.specs.Limits.{text_bytes}
use Rattle.ere.specs.Answer.{Matching}

-- a match lies within a text value, so its numbers fit the words that they are stored in
pub record Within (x : Matching) : Type 0 where
  pub start : x.rstart ≤ text_bytes + 1
  pub length : nat_abs x.rlength ≤ text_bytes
