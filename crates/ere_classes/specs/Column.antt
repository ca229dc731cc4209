-- Internal: cited by private contracts only. Classes of bytes: bytes in one class are taken by the same places.
use Rattle.std.specs.Prelude.{◌≡◌, cond, List, ℕ, zero, suc, ◌+◌, ◌-◌, ◌*◌, ◌/◌, ◌%◌, ◌^◌, ◌≤◌, ◌<◌, length, get_or, ltb, Option, IfSome}
use Rattle.ere_table.specs.Table.{row_words, place_count}
use Rattle.ere_search.specs.Walk.{step}
use Rattle.ere_automaton.specs.Layout.{class_in}

-- 1 if the place p takes the byte b, else 0
abbrev pub taken_by : List ℕ → ℕ → ℕ → ℕ
taken_by t b p = get_or t (row_words + 4 * p + b / 64) 0 / 2 ^ (b % 64) % 2

-- the n places from p on, those that take the byte b as digits of a number
unfoldable pub column_of : List ℕ → ℕ → ℕ → ℕ → ℕ
column_of t b p zero = 0
column_of t b p (suc n) = 2 * column_of t b p n + taken_by t b (p + n)

-- from the place n on none takes a byte
pub record Used (t : List ℕ) (n : ℕ) : Type 0 where
  pub few : n ≤ place_count
  pub none : (p b : ℕ) → n ≤ p → p < place_count → b < 256 → taken_by t b p ≡ 0

-- of n places, how many are in the first word of a column
unfoldable pub first_word : ℕ → ℕ
first_word n = cond (ltb n 64) n 64

-- the place p < n takes the byte a exactly if it takes the byte b
abbrev pub Alike : List ℕ → ℕ → ℕ → ℕ → Type 0
Alike t n a b = (p : ℕ) → p < n → taken_by t a p ≡ taken_by t b p

-- class j of some, by its column and its byte
pub record Class (t : List ℕ) (n : ℕ) (columns bytes : List ℕ) (j : ℕ) : Type 0 where
  pub byte : get_or bytes j 0 < 256
  pub low : get_or columns (2 * j) 0 ≡ column_of t (get_or bytes j 0) 0 (first_word n)
  pub high : get_or columns (2 * j + 1) 0 ≡ column_of t (get_or bytes j 0) (first_word n) (n - first_word n)

-- the bytes below m are in k classes
pub record Classed (t : List ℕ) (n m : ℕ) (columns : List ℕ) (k : ℕ) (bytes d : List ℕ) : Type 0 where
  pub each : (j : ℕ) → j < k → Class t n columns bytes j
  pub is : (b : ℕ) → b < m → class_in d b < k
  pub alike : (b : ℕ) → b < m → Alike t n b (get_or bytes (class_in d b) 0)

-- r classes after the byte m, of k before it
pub record Classifies (t : List ℕ) (n m : ℕ) (columns : List ℕ) (k : ℕ) (bytes d : List ℕ) (r : ℕ)
    (columns' bytes' d' : List ℕ) : Type 0 where
  pub few : r ≤ suc k
  pub column_size : length columns' ≡ length columns
  pub byte_size : length bytes' ≡ length bytes
  pub size : length d' ≡ length d
  pub classed : Classed t n m columns k bytes d → Classed t n (m + 1) columns' r bytes' d'

-- each byte has one of k classes, and each class a byte that stands for all of them
pub record Classified (t bytes : List ℕ) (k : ℕ) (d : List ℕ) : Type 0 where
  pub few : k ≤ 64
  pub is : (b : ℕ) → b < 256 → class_in d b < k
  pub same : (s : List ℕ) (b : ℕ) → b < 256 → step t s b ≡ step t s (get_or bytes (class_in d b) 0)

pub record Classes (t bytes d : List ℕ) (r : Option ℕ) (bytes' d' : List ℕ) : Type 0 where
  pub byte_size : length bytes' ≡ length bytes
  pub size : length d' ≡ length d
  pub classified : IfSome r (λ k. Classified t bytes' k d')
