-- Internal: cited by private contracts only. Sets of classes as bits of a word, and ranges of bytes that hold them.
use Rattle.std.specs.Prelude.{◌≡◌, false, List, ℕ, ◌+◌, ◌≤◌, ◌<◌, length, get_or, Option, MatchOption}
use Rattle.lists.specs.Digit.{bit}
use Rattle.ere_table.specs.Table.{no_place}
use Rattle.ere_table.specs.Wiring.{stop_in}
use Rattle.ere_search.specs.Walk.{step}
use Rattle.ere_automaton.specs.Automaton.{within, Hull}
use Rattle.ere_automaton.specs.Layout.{class_in, shape_word}
use Rattle.ere_classes.specs.Column.{Classified}
use Rattle.ere_classes.specs.Frames.{Frame}

-- the word r has the bits of `out`
abbrev pub Keeps : ℕ → ℕ → Type 0
Keeps out r = (e : ℕ) → e < 64 → bit r e ≡ false → bit out e ≡ false

-- the word r has a bit for each class below k that leads from the set s to something
pub record Led (t bytes : List ℕ) (k : ℕ) (s : List ℕ) (out r : ℕ) : Type 0 where
  pub keeps : Keeps out r
  pub none : (c : ℕ) → c < k → bit r c ≡ false → step t s (get_or bytes c 0) ≡ no_place

-- the word r has a bit for each class that comes second after the set s; all where a match may end in s
pub record Follows (t bytes : List ℕ) (k : ℕ) (s : List ℕ) (r : ℕ) : Type 0 where
  pub none : (c : ℕ) → c < k → bit r c ≡ false → step t s (get_or bytes c 0) ≡ no_place
  pub unended : (c : ℕ) → c < k → bit r c ≡ false → stop_in s false ≡ false

pub record SecondsOf (t bytes : List ℕ) (k : ℕ) (s : List ℕ) (out r : ℕ) : Type 0 where
  pub keeps : Keeps out r
  pub follows : Follows t bytes k s r

-- each byte has a class below 64
abbrev pub Below64 : List ℕ → Type 0
Below64 d = (b : ℕ) → b < 256 → class_in d b < 64

-- none of the bytes from `low` on and below `high` has its class in the set x
abbrev pub NoneIn : ℕ → List ℕ → ℕ → ℕ → Type 0
NoneIn x d low high = (b : ℕ) → low ≤ b → b < high → bit x (class_in d b) ≡ false

-- the first and the last byte whose class is in the set x
abbrev pub EndsOf : ℕ → List ℕ → Option (ℕ × ℕ) → Type 0
EndsOf x d r =
    MatchOption r (NoneIn x d 0 256) (λ e. (e.0 ≤ e.1) × (e.1 < 256) × (NoneIn x d 0 e.0) × (NoneIn x d (e.1 + 1) 256))

-- a range of bytes, outside of which no class is in the set x
pub record Range (d : List ℕ) (at x r : ℕ) (d' : List ℕ) : Type 0 where
  pub frame : Frame at (at + 2) d d'
  pub few : r ≤ 256
  pub bytes : get_or d' at 0 + get_or d' (at + 1) 0 < 256
  pub outside : (b : ℕ) → b < 256 → within (get_or d' at 0) (get_or d' (at + 1) 0) b ≡ false → bit x (class_in d b) ≡ false

pub record PutHull (t bytes : List ℕ) (k : ℕ) (d d' : List ℕ) : Type 0 where
  pub size : length d' ≡ length d
  pub classified : Classified t bytes k d'
  pub hull : Hull t d'
  pub plain : shape_word d' ≡ 0
