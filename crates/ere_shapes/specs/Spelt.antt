-- Internal: cited by private contracts only. The word that an ERE is, as its tests are found and stored.
use Rattle.std.specs.Prelude.{◌≡◌, ◌⊎◌, List, ℕ, suc, ◌+◌, ◌*◌, ◌/◌, ◌%◌, ◌≤◌, ◌<◌, get_or, set, Option, IfSome}
use Rattle.ere_table.specs.Table.{row, no_place}
use Rattle.ere_automaton.specs.Layout.{tests_at, Testable}
use Rattle.ere_automaton.specs.Words.{Word}
use Rattle.ere_automaton.specs.Automaton.{Shape}
use Rattle.ere_classes.specs.Frames.{Frame}

-- the first n tests are the same
abbrev pub Alike : ℕ → List ℕ → List ℕ → Type 0
Alike n d d' = (k : ℕ) → k < n → get_or d' (tests_at + k) 0 ≡ get_or d (tests_at + k) 0

-- there are r tests where there were e, after that for byte q, at most 7: none for any byte, one for one byte
pub record Tested (d : List ℕ) (e q range : ℕ) (r : Option ℕ) (d' : List ℕ) : Type 0 where
  pub frame : Frame 16 24 d d'
  pub kept : Alike e d d'
  pub new : IfSome r (λ n. (n ≤ 7)
      × (((n ≡ e) × (range / 256 ≡ 255)) ⊎ ((n ≡ suc e) × (range < 256) × (get_or d' (tests_at + e) 0 ≡ range + 256 * q))))

-- the first test again for those from e on
pub record Padded (e : ℕ) (d d' : List ℕ) : Type 0 where
  pub frame : Frame 16 24 d d'
  pub kept : Alike e d d'
  pub again : (k : ℕ) → e ≤ k → k < 7 → get_or d' (tests_at + k) 0 ≡ get_or d tests_at 0

-- if there is an r, the tests are those of a word, where the head says so
pub record Spelt (t d : List ℕ) (r : Option ℕ) (d' : List ℕ) : Type 0 where
  pub frame : Frame 16 24 d d'
  pub word : IfSome r (λ n. (n < 256) × ((w : ℕ) → w % 256 ≡ n → Word t (set d' 15 w)))

-- where a word may start: anywhere (256), or only where the text starts (512)
pub record Kind (t : List ℕ) (r : ℕ) : Type 0 where
  pub is : ((r ≡ 256) × (row t 1 ≡ row t 0)) ⊎ ((r ≡ 512) × (row t 1 ≡ no_place))

pub record PutWord (t d d' : List ℕ) : Type 0 where
  pub frame : Frame 15 24 d d'
  pub shape : Shape t d'
  pub tests : Testable d'
