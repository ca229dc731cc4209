-- Internal: cited by private contracts only. The automaton of the starts before a place: the last place where nothing
-- was pending.
use Rattle.std.specs.Prelude.{◌≡◌, Bool, ◌⊎◌, List, ℕ, ◌+◌, ◌≤◌, ◌<◌, length, eqb}
use Rattle.ere_automaton.specs.Layout.{later_state, State}
use Rattle.ere_automaton.specs.Automaton.{Ranged}
use Rattle.ere_automaton.specs.Scan.{Ready, runs}
use Rattle.ere_automaton.specs.Follows.{FollowsPending}
use Rattle.ere_seek.specs.declared.pending.Fresh.{Fresh}
use Rattle.ere_seek.specs.Starts.{Bares, Hulled}

-- n bytes from i on lead from the state q to r; g is f, or a place on the way where nothing was pending
pub record Ran (d x : List ℕ) (i n q f r g : ℕ) : Type 0 where
  pub state : r ≡ runs d x i q n
  pub seen : (g ≡ f) ⊎ ((m : ℕ) × (m < n) × (g ≡ i + m) × (runs d x i q m ≡ later_state d))

abbrev pub RanBy : List ℕ → List ℕ → ℕ → ℕ → Fresh → Fresh → Type 0
RanBy d x i n f r = Ran d x i n f.state f.seen r.state r.seen

-- a block of bytes from i on, in the state q
pub record Block (d : List ℕ) (k : ℕ) (x : List ℕ) (i q later : ℕ) : Type 0 where
  pub ready : Ready d k q
  pub inside : i + 16 ≤ length x
  pub is_later : later ≡ later_state d

-- the bytes from `start` to `end`, in the state q
pub record Part (d x : List ℕ) (start end q later : ℕ) : Type 0 where
  pub ranged : Ranged d
  pub state : State d q
  pub order : start ≤ end
  pub inside : end ≤ length x
  pub is_later : later ≡ later_state d

-- no match starts between s and r, whatever is before x
pub record Cleared (d x : List ℕ) (s : ℕ) (first : Bool) (r : ℕ) : Type 0 where
  pub on : s ≤ r
  pub inside : r ≤ length x + 1
  pub none : (t : List ℕ) (at : ℕ) → FollowsPending t d → Hulled t d → first ≡ eqb (at + s) 0 → Bares t x at s r
