-- Internal: cited by private contracts only. What the words of an automaton are, and what ties them to a table.
use Rattle.std.specs.Prelude.{◌≡◌, ℕ, suc, ◌+◌, ◌<◌, ◌≤◌, Bool, true, false, not, ◌&&◌, List, length, ◌==◌, nat_le, slice_index}
use Rattle.ere_table.specs.Table.{row, no_place}
use Rattle.ere_table.specs.Wiring.{stop_in}
use Rattle.ere_search.specs.Walk.{step}
use Rattle.ere_automaton.specs.Sets.{collapsed, after, spent}
use Rattle.ere_automaton.specs.Layout.{class_count, first_state, later_state, accepted_state, pairs_word, skips_word, reach_word}
use Rattle.ere_automaton.specs.Words.{Word}
use Rattle.ere_automaton.specs.Layout.{shape_kind, Testable, rows_at, class_in, State, next_in, pair_in, end_word}

-- each word that is a state is one, each class has its words
pub record Ranged (d : List ℕ) : Type 0 where
  pub head : rows_at ≤ length d
  pub classes : (b : ℕ) → b < 256 → class_in d b < class_count d
  pub first : State d (first_state d)
  pub later : State d (later_state d)
  pub moves : (q b : ℕ) → State d q → b < 256 → State d (next_in d q b)
  pub pairs : (q b c : ℕ) → State d q → b < 256 → c < 256 → (pairs_word d == 0) ≡ false
      → pair_in d q b c ≡ next_in d (next_in d q b) c
  pub tests : Testable d

-- a byte is in the range whose lowest byte is `low` and that has `width` more
abbrev pub within : ℕ → ℕ → ℕ → Bool
within low width b = nat_le low b && nat_le b (low + width)

abbrev pub first_byte : List ℕ → ℕ → Bool
first_byte d = within (slice_index d 6) (slice_index d 7)

abbrev pub second_byte : List ℕ → ℕ → Bool
second_byte d = within (slice_index d 8) (slice_index d 9)

-- outside of the first range no byte leads anywhere from where a match may start; outside of the second no byte leads
-- on, and no match has ended before it
pub record Hull (t d : List ℕ) : Type 0 where
  pub bytes : (slice_index d 6 + slice_index d 7 < 256) × (slice_index d 8 + slice_index d 9 < 256)
  pub first : (b : ℕ) → b < 256 → first_byte d b ≡ false → step t (row t 1) b ≡ no_place
  pub second : (b c : ℕ) → b < 256 → c < 256 → second_byte d c ≡ false → step t (step t (row t 1) b) c ≡ no_place
  pub none_ends : (b c : ℕ) → b < 256 → c < 256 → second_byte d c ≡ false → stop_in (step t (row t 1) b) false ≡ false
  -- each match ends at the text's end, and has fewer bytes than the word says
  pub reach : (n : ℕ) → reach_word d ≡ suc n → (spent t (suc n) (row t 0)) × (spent t (suc n) (row t 1))
  -- no match starts but where the text starts
  pub fixed : skips_word d ≡ 2 → row t 1 ≡ no_place

-- what is known of the matches' bytes: the ERE is a word, that may start anywhere, or only where the text starts
pub record Shape (t d : List ℕ) : Type 0 where
  pub word : shape_kind d ≡ 1 → (Word t d) × (row t 1 ≡ row t 0)
  pub first : shape_kind d ≡ 2 → (Word t d) × (row t 1 ≡ no_place)

-- each state stands for a set, and each entry for the step of that set
pub record Drives (t d : List ℕ) : Type 0 where
  pub ranged : Ranged d
  pub sets : ℕ → List ℕ
  pub first : sets (first_state d) ≡ collapsed (row t 0)
  pub later : sets (later_state d) ≡ collapsed (row t 1)
  pub accepted : State d (accepted_state d) → stop_in (sets (accepted_state d)) false ≡ true
  pub steps : (q b : ℕ) → State d q → b < 256 → sets (next_in d q b) ≡ after t (sets q) b
  pub ends : (q : ℕ) → State d q → not (end_word d q == 0) ≡ stop_in (sets q) true
  -- where a match may end before the text's end, it may at it
  pub fair : (q : ℕ) → State d q → stop_in (sets q) false ≡ true → stop_in (sets q) true ≡ true
  pub hull : Hull t d
  pub shape : Shape t d
