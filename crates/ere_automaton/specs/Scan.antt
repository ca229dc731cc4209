-- Internal: cited by private contracts only. What the parts of a search ask and give: the state after some bytes, and
-- the places at which no match starts, by the bytes there.
use Rattle.std.specs.Prelude.{◌≡◌, ℕ, zero, suc, ◌+◌, ◌%◌, ◌^◌, ◌<◌, ◌≤◌, Bool, false, ◌&&◌, ◌||◌, List, length, slice_index}
use Rattle.ere_automaton.specs.Layout.{class_count, State, next_in, in_range}
use Rattle.ere_automaton.specs.Automaton.{Ranged}

-- s is a state, and there are k classes
pub record Ready (d : List ℕ) (k s : ℕ) : Type 0 where
  pub ranged : Ranged d
  pub state : State d s
  pub classes : k ≡ class_count d

-- the state after n bytes of x from index i on
unfoldable pub runs : List ℕ → List ℕ → ℕ → ℕ → ℕ → ℕ
runs d x i s zero = s
runs d x i s (suc n) = next_in d (runs d x i s n) (slice_index x (i + n))

-- the ranges of a match's first two bytes
pub record Ranges : Type 0 where
  pub low : ℕ
  pub width : ℕ
  pub next_low : ℕ
  pub next_width : ℕ

abbrev pub ranges : ℕ → ℕ → ℕ → ℕ → Ranges
ranges low width next_low next_width = record { low = low; width = width; next_low = next_low; next_width = next_width }

-- the bytes b and c may be the first of a match
abbrev pub begin : Ranges → ℕ → ℕ → Bool
begin g b c = in_range g.low g.width b && in_range g.next_low g.next_width c

-- a match may start at one of n places of x from index i on
unfoldable pub starts : Ranges → List ℕ → ℕ → ℕ → Bool
starts g x i zero = false
starts g x i (suc n) = starts g x i n || begin g (slice_index x (i + n)) (slice_index x (i + n + 1))

-- r is not before `from`, and no match starts between them; each place there has a byte after it
pub record Skipped (g : Ranges) (x : List ℕ) (from r : ℕ) : Type 0 where
  pub on : from ≤ r
  pub short : from < r → r < length x
  pub none : (j : ℕ) → from ≤ j → j < r → begin g (slice_index x j) (slice_index x (j + 1)) ≡ false

-- i is at most 16 before the end of a text of n bytes, and n is more than that
pub record NearEnd (n i : ℕ) : Type 0 where
  pub small : n < 2 ^ 63
  pub long : 17 ≤ n
  pub near : n < i + 17
  pub inside : i ≤ n

-- the ranges that an automaton has; a byte of each word
abbrev pub ranges_of : List ℕ → Ranges
ranges_of d = ranges (slice_index d 6 % 256) (slice_index d 7 % 256) (slice_index d 8 % 256) (slice_index d 9 % 256)
