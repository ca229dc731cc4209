-- Internal: cited by private contracts only. Automata of an image's EREs, in one list of words, the pool: bounds first,
-- and what each slot has from its bound up to the next.
use Rattle.std.specs.Prelude.{◌≡◌, List, ℕ, suc, ◌+◌, ◌-◌, ◌*◌, ◌≤◌, ◌<◌, length, take, get_or}
use Rattle.edition.specs.Limits.{ere_count}
use Rattle.buffer.specs.Parts.{part}
use Rattle.ere_meaning.specs.Tree.{Class, Ere}
use Rattle.ere_automaton.specs.Automaton.{Drives}
use Rattle.ere_automaton.specs.Follows.{Seeks}
use Rattle.ere.specs.Answer.{Serves}
use Rattle.run_image.specs.Table.{IsEre}

-- for each ERE a slot for whether there is a match, and after those one for the leftmost longest match
abbrev pub pool_slots : ℕ
pool_slots = 2 * ere_count

-- the words of the bounds
abbrev pub bound_count : ℕ
bound_count = suc pool_slots

-- the words of the pool
abbrev pub pool_words : ℕ
pool_words = 13312

-- where the words of slot k begin; they end where those of the next one begin
abbrev pub bound_in : List ℕ → ℕ → ℕ
bound_in pool k = get_or pool k 0

abbrev pub automaton_in : List ℕ → ℕ → List ℕ
automaton_in pool k = part (bound_in pool k) (bound_in pool (k + 1) - bound_in pool k) pool

-- they are in the pool
pub record Bounded (pool : List ℕ) (k : ℕ) : Type 0 where
  pub few : k < pool_slots
  pub order : bound_in pool k ≤ bound_in pool (k + 1)
  pub inside : bound_in pool (k + 1) ≤ length pool
  pub room : bound_count ≤ length pool

-- d is what slot k has of a table
pub record Suits (k : ℕ) (t d : List ℕ) : Type 0 where
  pub drives : k < ere_count → Drives t d
  pub seeks : ere_count ≤ k → Seeks t d

-- d is what slot k has of the EREs: the automaton of a table of ERE k, or both of a table of ERE k - 16
pub record SuitsEre (edition : ℕ) (xs : List (List ℕ)) (k : ℕ) (d : List ℕ) : Type 0 where
  pub drives : k < ere_count → (e : Ere Class) → IsEre edition xs k e → (t : List ℕ) × (Drives t d) × (Serves t e)
  pub seeks : (n : ℕ) → k ≡ ere_count + n → (e : Ere Class) → IsEre edition xs n e
      → (t : List ℕ) × (Seeks t d) × (Serves t e)

-- r is 0, or the first r words are what slot k has of a table
pub record Made (k : ℕ) (t d : List ℕ) (r : ℕ) (d' : List ℕ) : Type 0 where
  pub size : length d' ≡ length d
  pub inside : r ≤ length d
  pub suits : 0 < r → Suits k t (take r d')

-- r is 0, or the first r words are what slot k has of the EREs
pub record MadeOf (edition : ℕ) (xs : List (List ℕ)) (k : ℕ) (d : List ℕ) (r : ℕ) (d' : List ℕ) : Type 0 where
  pub size : length d' ≡ length d
  pub inside : r ≤ length d
  pub fits : 0 < r → SuitsEre edition xs k (take r d')

-- each of the first k slots that has words has what it is for
pub record Automata (edition : ℕ) (xs : List (List ℕ)) (pool : List ℕ) (k : ℕ) : Type 0 where
  pub bounded : (n : ℕ) → n < k → Bounded pool n
  pub fits : (n : ℕ) → n < k → 0 < length (automaton_in pool n) → SuitsEre edition xs n (automaton_in pool n)

-- all of them
abbrev pub Pooled : ℕ → List (List ℕ) → List ℕ → Type 0
Pooled edition xs pool = Automata edition xs pool pool_slots

-- the pool is filled for the first k: their words are between the bounds of all and where the next one begins
pub record Filled (edition : ℕ) (xs : List (List ℕ)) (pool : List ℕ) (k : ℕ) : Type 0 where
  pub small : length pool < 65536
  pub automata : Automata edition xs pool k
  pub low : (n : ℕ) → n ≤ k → bound_count ≤ bound_in pool n
  pub high : (n : ℕ) → n ≤ k → bound_in pool n ≤ bound_in pool k
  pub inside : bound_in pool k ≤ length pool
