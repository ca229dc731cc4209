-- Internal: cited by private contracts only. Places at which no match starts.
use Rattle.std.specs.Prelude.{◌≡◌, Bool, false, not, cond, List, ℕ, ◌+◌, ◌≤◌, ◌<◌, length, get_or, eqb}
use Rattle.ere_search.specs.Walk.{longest_of}
use Rattle.ere_automaton.specs.Layout.{first_state, later_state, accepted_state, skips_word, next_in}
use Rattle.ere_automaton.specs.Automaton.{Hull}
use Rattle.ere_automaton.specs.Follows.{FollowsOne}

-- no match of at least a byte starts at k in the text whose bytes from place `at` on are x
abbrev pub Bare : List ℕ → List ℕ → ℕ → ℕ → Type 0
Bare t x at k = longest_of t x at 1 k ≡ 0

-- nor at any place from `from` to `end`
abbrev pub Bares : List ℕ → List ℕ → ℕ → ℕ → ℕ → Type 0
Bares t x at from end = (k : ℕ) → from ≤ k → k < end → Bare t x at k

-- the ranges of an automaton, where it has some
abbrev pub Hulled : List ℕ → List ℕ → Type 0
Hulled t d = eqb (skips_word d) 0 ≡ false → Hull t d

-- the state in which a match starts, at the text's start (first) or not
abbrev pub entry_state : List ℕ → Bool → ℕ
entry_state d first = cond first (first_state d) (later_state d)

-- a match may begin with the byte: it leads to a state in which something may come next
abbrev pub may_begin : List ℕ → ℕ → Bool
may_begin d b = not (eqb (next_in d (later_state d) b) (accepted_state d))

-- no match starts between `from` and r, by the first byte
pub record Passed (d x : List ℕ) (from r : ℕ) : Type 0 where
  pub on : from ≤ r
  pub inside : r ≤ length x
  pub none : (k : ℕ) → from ≤ k → k < r → next_in d (later_state d) (get_or x k 0) ≡ accepted_state d

-- no match starts between `from` and r, whatever is before x
pub record Candidate (d x : List ℕ) (from : ℕ) (first : Bool) (r : ℕ) : Type 0 where
  pub on : from ≤ r
  pub inside : r ≤ length x
  pub none : (t : List ℕ) (at : ℕ) → FollowsOne t d → Hulled t d → first ≡ eqb (at + from) 0 → Bares t x at from r
