-- Internal: cited by private contracts only. An automaton that was made from a table, unless there is no room.
use Rattle.std.specs.Prelude.{◌≡◌, List, ℕ, ◌≤◌, ◌<◌, length, take, get_or, Option, IfSome}
use Rattle.ere_automaton.specs.Automaton.{Drives, Hull}
use Rattle.ere_automaton.specs.Follows.{Seeks}
use Rattle.ere_automaton.specs.Layout.{rows_at, shape_word}
use Rattle.ere_classes.specs.Column.{Classified}
use Rattle.ere_sets.specs.Modes.{FollowsBy}

-- the first words, as many as r says, are an automaton of the table
pub record Derived (t d : List ℕ) (r : Option ℕ) (d' : List ℕ) : Type 0 where
  pub size : length d' ≡ length d
  pub made : IfSome r (λ n. (n ≤ length d) × Drives t (take n d'))

-- the first words, as many as r says, are both automata of a search by the table
pub record DerivedBoth (t d : List ℕ) (r : Option ℕ) (d' : List ℕ) : Type 0 where
  pub size : length d' ≡ length d
  pub made : IfSome r (λ n. (n ≤ length d) × Seeks t (take n d'))

-- the first words, as many as r says, are an automaton of the table, by a mode
pub record DerivedBy (mode : ℕ) (t d : List ℕ) (r : Option ℕ) (d' : List ℕ) : Type 0 where
  pub size : length d' ≡ length d
  pub made : IfSome r (λ n. (n ≤ length d) × FollowsBy mode t (take n d') × Hull t (take n d'))

-- the same, of an attempt that leaves classes and ranges as they are
pub record Attempted (mode : ℕ) (t d : List ℕ) (r : Option ℕ) (d' : List ℕ) : Type 0 where
  pub derived : DerivedBy mode t d r d'
  pub kept : (i : ℕ) → 5 ≤ i → i < rows_at → get_or d' i 0 ≡ get_or d i 0

-- there are k classes and the ranges of a match's first two bytes
pub record Preparation (t d bytes' : List ℕ) (k : ℕ) (d' : List ℕ) : Type 0 where
  pub head : rows_at ≤ length d
  pub classified : Classified t bytes' k d'
  pub hull : Hull t d'
  pub plain : shape_word d' ≡ 0

pub record Prepared (t bytes d : List ℕ) (r : Option ℕ) (bytes' d' : List ℕ) : Type 0 where
  pub byte_size : length bytes' ≡ length bytes
  pub size : length d' ≡ length d
  pub prepared : IfSome r (λ k. Preparation t d bytes' k d')
