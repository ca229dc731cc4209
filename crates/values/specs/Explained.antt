-- What the operations give, in relations that name no computation. proofs/ shows of each operation that it gives
-- this and nothing else.
use Rattle.std.specs.Prelude.{◌≡◌, ◌⊎◌, Bool, true, false, List, [], ◌∷◌, ℕ, suc, ◌≤◌, ◌<◌, ℤ, pos, nat_abs, ◌+ℤ◌}
use Rattle.edition.specs.Limits.{number_bound}
use Rattle.edition.specs.Outcomes.{number_out_of_range}
use Rattle.buffer.specs.First.{Stands, FirstAt}
use Rattle.numeral.specs.Form.{Looks}
use Rattle.image_format.specs.Codes.{Comparison, less, at-most, equal, different, greater, at-least}
use Rattle.values.specs.Value.{Value, unset, number, field_text, stop, Result, gives, stops}

-- a stop with an outcome
abbrev pub stops_with : {A : Type 0} → ℕ → Result A
stops_with n = stops (stop n)

-- ---- answers to a question

-- one answer where P is so, and another where it is not
pub data Whether {A : Type 0} (yes no : A) (P : Type 0) : Result A → Type 0 where
  so : P → Whether yes no P (gives yes)
  not_so : (P → ⊥) → Whether yes no P (gives no)

abbrev pub TrueIf : Type 0 → Result Bool → Type 0
TrueIf = Whether true false

abbrev pub OneIf : Type 0 → Result Value → Type 0
OneIf = Whether (number (pos 1)) (number (pos 0))

-- ---- the order of numbers

pub record AtMost (x y : ℤ) : Type 0 where
  pub by : ℕ
  pub more : y ≡ x +ℤ pos by

pub record Below (x y : ℤ) : Type 0 where
  pub by : ℕ
  pub more : y ≡ x +ℤ pos (suc by)

-- "Results out of range: 11.": the number z, or 11 exactly if it is out of range
pub record Ranged (z : ℤ) (r : Result Value) : Type 0 where
  pub in-range : nat_abs z ≤ number_bound → r ≡ gives (number z)
  pub out_of_range : number_bound < nat_abs z → r ≡ stops_with number_out_of_range

-- ---- comparison

-- "numbers, unset, or numeric-looking field text"
pub data Numeric : Value → Type 0 where
  an_unset : Numeric unset
  a-number : {z : ℤ} → Numeric (number z)
  a_look : {l : List ℕ} → Looks l → Numeric (field_text l)

-- what `< <= == != > >=` say of two sides, for an order of such sides
module _ {A : Type 0} (Before : A → A → Type 0) where
  abbrev pub Says : Comparison → A → A → Type 0
  Says less x y = Before x y
  Says at-most x y = (Before x y) ⊎ (x ≡ y)
  Says equal x y = x ≡ y
  Says different x y = x ≡ y → ⊥
  Says greater x y = Before y x
  Says at-least x y = (Before y x) ⊎ (x ≡ y)

-- ---- texts

-- t has those bytes of s, in order, at whose positions, counted from p on, P is so
pub data Selects (P : ℕ → Type 0) : ℕ → List ℕ → List ℕ → Type 0 where
  ended : {p : ℕ} → Selects P p [] []
  taken : {p b : ℕ} {s t : List ℕ} → P p → Selects P (suc p) s t → Selects P p (b ∷ s) (b ∷ t)
  passed : {p b : ℕ} {s t : List ℕ} → (P p → ⊥) → Selects P (suc p) s t → Selects P p (b ∷ s) t

-- "positions p >= 1 with m <= p < m+n": they are counted from 1 on
pub record Position (m n : ℤ) (p : ℕ) : Type 0 where
  pub from : AtMost m (pos p)
  pub before : Below (pos p) (m +ℤ n)

-- what `index` answers for t in s: the least place, counted from 1; 0 for none, and for an empty t
pub data Index (s t : List ℕ) : ℕ → Type 0 where
  empty : t ≡ [] → Index s t 0
  nowhere : ((k : ℕ) → Stands t s k → ⊥) → Index s t 0
  first : {k : ℕ} → (t ≡ [] → ⊥) → FirstAt t s k → Index s t (suc k)
