-- Internal: cited by private contracts only. The bytes that lead on from a set.
use Rattle.std.specs.Prelude.{◌≡◌, Bool, true, false, List, ℕ, ◌/◌, ◌%◌, ◌<◌}
use Rattle.ere_table.specs.Table.{no_place}
use Rattle.ere_table.specs.Wiring.{stop_in}
use Rattle.ere_search.specs.Walk.{step}
use Rattle.ere_automaton.specs.Layout.{in_range}

-- a match has ended in the set s, wherever the text ends; or in no case
abbrev pub Ended : List ℕ → Bool → Type 0
Ended s r = (f : Bool) → stop_in s f ≡ r

-- b is one of the bytes that the word r says: the lowest, and 256 times how many more there are
abbrev pub among : ℕ → ℕ → Bool
among r b = in_range (r % 256) (r / 256) b

-- these bytes and no others lead on from the set s, in which no match has ended, and all to the same
pub record Leads (t s : List ℕ) (r : ℕ) : Type 0 where
  pub unended : Ended s false
  pub on : (b : ℕ) → b < 256 → among r b ≡ true → step t s b ≡ step t s (r % 256)
  pub off : (b : ℕ) → b < 256 → among r b ≡ false → step t s b ≡ no_place
