-- Internal: cited by private contracts only. What is found, by the automata.
use Rattle.std.specs.Prelude.{◌≡◌, Bool, true, false, cond, List, ℕ, suc, ◌+◌, ◌%◌, ◌≤◌, length, get_or, Option, Some, None}
use Rattle.ere_table.specs.Table.{row}
use Rattle.ere_table.specs.Wiring.{stop_in}
use Rattle.ere_search.specs.Walk.{longest_of}
use Rattle.ere_search.specs.Find.{Inside, Finds}
use Rattle.ere_automaton.specs.Follows.{FollowsOne, FollowsPending}
use Rattle.ere_seek.specs.Starts.{Bares, Hulled}
use Rattle.ere_seek.specs.One.{accepts}

-- the empty text is a match at the text's start (first) or elsewhere, at the text's end (last) or not
abbrev pub empty_at : List ℕ → Bool → Bool → Bool
empty_at d first last = accepts (cond first (get_or d 11 0) (get_or d 12 0)) last

-- r is the leftmost match of at least a byte, and the longest there
abbrev pub Sought : List ℕ → List ℕ → ℕ → Option (ℕ × ℕ) → Type 0
Sought t x at (Some (a, n)) =
    (s : ℕ) × (a ≡ at + s) × (s ≤ length x) × (longest_of t x at 1 s ≡ suc n) × (Bares t x at 0 s)
Sought t x at None = Bares t x at 0 (length x + 1)

-- r is in the text; and it is the leftmost, if no match starts before `from`
pub record SoughtFrom (d x : List ℕ) (at from : ℕ) (r : Option (ℕ × ℕ)) : Type 0 where
  pub inside : Inside at 1 (length x) r
  pub sought : (t : List ℕ) → FollowsOne t d → Hulled t d → Bares t x at 0 from → Sought t x at r

-- both automata of a search
pub record Both (t d p : List ℕ) : Type 0 where
  pub one : FollowsOne t d
  pub pending : FollowsPending t p
  pub one_hull : Hulled t d
  pub pending_hull : Hulled t p
  pub sooner : stop_in (row t 1) false ≡ true → stop_in (row t 0) false ≡ true
  pub empty_first : get_or d 11 0 ≡ get_or (row t 0) 2 0 % 4
  pub empty_later : get_or d 12 0 ≡ get_or (row t 1) 2 0 % 4

-- the leftmost match of at least a byte, by both
pub record SoughtBoth (d p x : List ℕ) (at : ℕ) (r : Option (ℕ × ℕ)) : Type 0 where
  pub inside : Inside at 1 (length x) r
  pub sought : (t : List ℕ) → Both t d p → Sought t x at r

-- the leftmost match of at least `least` bytes, by both
pub record FindsBoth (d p x : List ℕ) (at least : ℕ) (r : Option (ℕ × ℕ)) : Type 0 where
  pub inside : Inside at least (length x) r
  pub finds : (t : List ℕ) → Both t d p → Finds t x at least r
