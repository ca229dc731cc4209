-- Internal: cited by private contracts only. The sets that the states stand for: set i is row i of some words.
use Rattle.std.specs.Prelude.{◌≡◌, true, false, List, ℕ, ◌+◌, ◌*◌, ◌≤◌, ◌<◌, length, Option, IfSome}
use Rattle.ere_table.specs.Table.{row}
use Rattle.ere_table.specs.Wiring.{stop_in}
use Rattle.ere_automaton.specs.Layout.{rows_at}
use Rattle.ere_sets.specs.declared.sets.Entered.{Entered}
use Rattle.ere_sets.specs.Modes.{change_by}

-- how many states an automaton has at most, and the words of their sets, three each
abbrev pub state_count : ℕ
state_count = 96

abbrev pub set_words : ℕ
set_words = 288

-- where a match may end before the text's end, it may at it
pub record Fair (s : List ℕ) : Type 0 where
  pub fair : stop_in s false ≡ true → stop_in s true ≡ true

-- n sets become more
pub record Grows (a : List ℕ) (n : ℕ) (a' : List ℕ) (n' : ℕ) : Type 0 where
  pub more : n ≤ n'
  pub kept : (j : ℕ) → j < n → row a' j ≡ row a j
  pub fair : ((j : ℕ) → j < n → Fair (row a j)) → (j : ℕ) → j < n' → Fair (row a' j)

-- s is set number `number` of n'
pub record Has (a : List ℕ) (n number : ℕ) (s : List ℕ) : Type 0 where
  pub low : number < n
  pub is : row a number ≡ s

-- set i is s, the others are kept
pub record Put (a : List ℕ) (i : ℕ) (s a' : List ℕ) : Type 0 where
  pub size : length a' ≡ length a
  pub is : row a' i ≡ s
  pub kept : (j : ℕ) → (j ≡ i → ⊥) → row a' j ≡ row a j

-- where the set s was entered: there is room for so many sets
pub record Entry (a : List ℕ) (n most : ℕ) (s : List ℕ) (count number : ℕ) (a' : List ℕ) : Type 0 where
  pub few : count ≤ most
  pub grows : Grows a n a' count
  pub has : Has a' count number s

-- the set s was entered, or there are too many
pub record Enters (a : List ℕ) (n most : ℕ) (s : List ℕ) (r : Option Entered) (a' : List ℕ) : Type 0 where
  pub size : length a' ≡ length a
  pub entered : IfSome r (λ e. Entry a n most s e.count e.number a')

-- q is the row of the set after the byte b
pub record Leads (mode : ℕ) (t a : List ℕ) (n stride : ℕ) (s : List ℕ) (b q : ℕ) : Type 0 where
  pub number : ℕ
  pub is : q ≡ rows_at + stride * number
  pub has : Has a n number (change_by mode t s b)
