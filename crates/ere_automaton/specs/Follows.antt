-- Internal: cited by private contracts only. An automaton whose states stand for sets, by what a byte does to a set.
use Rattle.std.specs.Prelude.{◌≡◌, ℕ, ◌%◌, ◌<◌, ◌≤◌, true, false, cond, List, [], ◌∷◌, length, take, drop, ◌≢◌, nat_eq, slice_index, slice_index_or}
use Rattle.ere_table.specs.Table.{row, join, no_place}
use Rattle.ere_table.specs.Wiring.{stop_in}
use Rattle.ere_search.specs.Walk.{step}
use Rattle.ere_automaton.specs.Sets.{collapsed, after}
use Rattle.ere_automaton.specs.Layout.{first_state, later_state, accepted_state, skips_word, State, next_in, end_word}
use Rattle.ere_automaton.specs.Automaton.{Ranged, Hull}

-- each state stands for a set, and each entry for what the byte makes of that set; `last` is a set that no byte changes
pub record Follows (change : List ℕ → ℕ → List ℕ) (first later last : List ℕ) (d : List ℕ) : Type 0 where
  pub ranged : Ranged d
  pub sets : ℕ → List ℕ
  pub starts : sets (first_state d) ≡ first
  pub elsewhere : sets (later_state d) ≡ later
  pub lasts : State d (accepted_state d)
  pub stays : sets (accepted_state d) ≡ last
  pub steps : (q b : ℕ) → State d q → b < 256 → sets (next_in d q b) ≡ change (sets q) b
  -- the accept bits
  pub marks : (q : ℕ) → State d q → end_word d q ≡ slice_index (sets q) 2 % 4
  -- where a match may end before the text's end, it may at it
  pub fair : (q : ℕ) → State d q → end_word d q ≢ 1

-- a set in which a match has ended
abbrev pub ended : List ℕ
ended = 0 ∷ 0 ∷ 3 ∷ []

-- all starts, one at each place
abbrev pub FollowsAll : List ℕ → List ℕ → Type 0
FollowsAll t d = Follows (after t) (collapsed (row t 0)) (collapsed (row t 1)) ended d

-- one start
abbrev pub FollowsOne : List ℕ → List ℕ → Type 0
FollowsOne t d = Follows (step t) (row t 0) (row t 1) no_place d

-- the starts before a place; matches that have ended are of at least a byte
unfoldable pub pending_after : List ℕ → List ℕ → ℕ → List ℕ
pending_after t s b = cond (stop_in s false) s (collapsed (step t (join s (row t 1)) b))

-- the places of a set without the accept bits
abbrev pub places : List ℕ → List ℕ
places s = slice_index s 0 ∷ slice_index s 1 ∷ 0 ∷ []

abbrev pub FollowsPending : List ℕ → List ℕ → Type 0
FollowsPending t d = Follows (pending_after t) (places (row t 0)) no_place ended d

-- both automata of a search, one after the other
abbrev pub one_length : List ℕ → ℕ
one_length d = slice_index d 10

abbrev pub one_in : List ℕ → List ℕ
one_in d = take (one_length d) d

abbrev pub pending_in : List ℕ → List ℕ
pending_in d = drop (one_length d) d

pub record SeekRanged (d : List ℕ) : Type 0 where
  pub inside : one_length d ≤ length d
  pub one : Ranged (one_in d)
  pub pending : Ranged (pending_in d)

pub record Seeks (t d : List ℕ) : Type 0 where
  pub inside : one_length d ≤ length d
  pub one : FollowsOne t (one_in d)
  pub pending : FollowsPending t (pending_in d)
  pub one_hull : nat_eq (skips_word (one_in d)) 0 ≡ false → Hull t (one_in d)
  pub pending_hull : nat_eq (skips_word (pending_in d)) 0 ≡ false → Hull t (pending_in d)
  -- a match that starts elsewhere may start at the text's start
  pub wider : places (join (row t 0) (row t 1)) ≡ places (row t 0)
  -- and so may an empty one
  pub sooner : stop_in (row t 1) false ≡ true → stop_in (row t 0) false ≡ true
  -- the accept bits of the empty match, at the text's start and elsewhere
  pub empty_first : slice_index_or d 11 0 ≡ slice_index (row t 0) 2 % 4
  pub empty_later : slice_index_or d 12 0 ≡ slice_index (row t 1) 2 % 4
