-- Internal: cited by private contracts only. What the states of an automaton stand for, by a mode: all starts, one at
-- each place (0); one start (1); the starts before a place (2).
use Rattle.std.specs.Prelude.{cond, List, ℕ, eqb}
use Rattle.ere_table.specs.Table.{row, no_place}
use Rattle.ere_search.specs.Walk.{step}
use Rattle.ere_automaton.specs.Sets.{collapsed, after}
use Rattle.ere_automaton.specs.Follows.{Follows, pending_after, places, ended}

-- the set after a byte
unfoldable pub change_by : ℕ → List ℕ → List ℕ → ℕ → List ℕ
change_by mode t s b = cond (eqb mode 0) (after t s b) (cond (eqb mode 1) (step t s b) (pending_after t s b))

-- the set at the text's start
unfoldable pub first_by : ℕ → List ℕ → List ℕ
first_by mode t = cond (eqb mode 0) (collapsed (row t 0)) (cond (eqb mode 1) (row t 0) (places (row t 0)))

-- the set elsewhere, where nothing is pending
unfoldable pub later_by : ℕ → List ℕ → List ℕ
later_by mode t = cond (eqb mode 0) (collapsed (row t 1)) (cond (eqb mode 1) (row t 1) no_place)

-- the set that no byte changes
unfoldable pub last_by : ℕ → List ℕ
last_by mode = cond (eqb mode 1) no_place ended

-- an automaton of the table, by a mode
abbrev pub FollowsBy : ℕ → List ℕ → List ℕ → Type 0
FollowsBy mode t d = Follows (change_by mode t) (first_by mode t) (later_by mode t) (last_by mode) d
