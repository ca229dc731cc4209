-- Internal: cited by private contracts only. An ERE that is a word: its matches are where each byte is one that the word
-- has there.
use Rattle.std.specs.Prelude.{◌≡◌, ℕ, zero, suc, ◌+◌, ◌/◌, ◌%◌, ◌<◌, ◌≤◌, Bool, true, false, cond, not, ◌&&◌, ◌||◌, List, length, ◌==◌, nat_le, slice_index}
use Rattle.ere_table.specs.Table.{row, no_place}
use Rattle.ere_table.specs.Wiring.{stop_in}
use Rattle.ere_search.specs.Walk.{step}
use Rattle.ere_automaton.specs.Layout.{test_byte, test_place, test_count, tests_at, range_at, last_place, in_range}

-- the first m tests let b be the word's byte q
unfoldable pub allows : List ℕ → ℕ → ℕ → ℕ → Bool
allows d zero q b = true
allows d (suc m) q b = allows d m q b && (not (test_place d m == q) || b == test_byte d m)

-- b may be its last byte
abbrev pub closing : List ℕ → ℕ → Bool
closing d b = in_range (slice_index d range_at % 256) (slice_index d range_at / 256) b

-- b may be its byte q
abbrev pub fits : List ℕ → ℕ → ℕ → Bool
fits d q b = cond (q == last_place d) (closing d b) (allows d 7 q b)

-- what may come next after q bytes of the word; no other byte leads on, and a match ends after the last byte, not before
pub record Word (t d : List ℕ) : Type 0 where
  pub sets : ℕ → List ℕ
  pub begins : sets 0 ≡ row t 0
  pub on : (q b : ℕ) → q ≤ last_place d → b < 256 → fits d q b ≡ true → step t (sets q) b ≡ sets (suc q)
  pub off : (q b : ℕ) → q ≤ last_place d → b < 256 → fits d q b ≡ false → step t (sets q) b ≡ no_place
  pub unended : (q : ℕ) → q ≤ last_place d → (f : Bool) → stop_in (sets q) f ≡ false
  pub ends : (f : Bool) → stop_in (sets (suc (last_place d))) f ≡ true
  pub places : (k : ℕ) → k < 7 → test_place d k < last_place d
  -- the tests from `test_count` on are the first again
  pub again : (k : ℕ) → test_count d ≤ k → k < 7 → slice_index d (tests_at + k) ≡ slice_index d tests_at

-- ---- the tests at a place of a text

-- test k is passed at p
abbrev pub passes : List ℕ → List ℕ → ℕ → ℕ → Bool
passes d x p k = slice_index x (p + test_place d k) == test_byte d k

-- the first m tests are
unfoldable pub passed : List ℕ → List ℕ → ℕ → ℕ → Bool
passed d x p zero = true
passed d x p (suc m) = passed d x p m && passes d x p m

-- how many tests are made for a word that has n
abbrev pub tried : ℕ → ℕ
tried n = cond (nat_le n 2) 2 (cond (nat_le n 5) 5 7)

-- the word is at p
abbrev pub is_here : List ℕ → List ℕ → ℕ → ℕ → ℕ → Bool
is_here d x last n p = passed d x p (tried n) && closing d (slice_index x (p + last))

-- it is at one of m places from i on
unfoldable pub here_in : List ℕ → List ℕ → ℕ → ℕ → ℕ → ℕ → Bool
here_in d x last n i zero = false
here_in d x last n i (suc m) = here_in d x last n i m || is_here d x last n (i + m)

-- the answer for the places before i of a text
pub record Looked (d x : List ℕ) (last n i : ℕ) (r : Bool) : Type 0 where
  pub found : r ≡ true → (p : ℕ) × (p + last < length x) × (is_here d x last n p ≡ true)
  pub none : r ≡ false → (p : ℕ) → p < i → p + last < length x → is_here d x last n p ≡ false
