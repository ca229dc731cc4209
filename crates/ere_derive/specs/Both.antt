-- Internal: cited by private contracts only. What both automata of a search ask of a table, and the words that say
-- where the second starts and whether a match may be empty.
use Rattle.std.specs.Prelude.{◌≡◌, true, false, List, ℕ, ◌%◌, get_or}
use Rattle.ere_table.specs.Table.{row, join}
use Rattle.ere_table.specs.Wiring.{stop_in}
use Rattle.ere_automaton.specs.Follows.{places}
use Rattle.ere_classes.specs.Frames.{Frame}

-- all that may start elsewhere may start at the text's start, an empty match too
pub record Nested (t : List ℕ) : Type 0 where
  pub wider : places (join (row t 0) (row t 1)) ≡ places (row t 0)
  pub sooner : stop_in (row t 1) false ≡ true → stop_in (row t 0) false ≡ true

-- the words of the head that the first of both has besides
pub record HeadedBoth (t : List ℕ) (n : ℕ) (d d' : List ℕ) : Type 0 where
  pub frame : Frame 10 13 d d'
  pub size : get_or d' 10 0 ≡ n
  pub empty_first : get_or d' 11 0 ≡ get_or (row t 0) 2 0 % 4
  pub empty_later : get_or d' 12 0 ≡ get_or (row t 1) 2 0 % 4
