-- Laws on the codes of an edition, and on the front of any table. No other crate opens the table or its count.
use mathlib.Core.Path.{◌≡◌, refl}
use mathlib.Core.List.{List, [], ◌∷◌}
use mathlib.Core.Option.{some, none}
use Prim.Native.Nat.{ℕ, zero, suc, ◌≤◌, ◌<◌}
use native.Mathlib.Omega.{arith}
use lib.ListN.{length, take}
use Rattle.lists.proofs.Options.{none-some}
use Rattle.lists.specs.Elements.{nth}
use Rattle.image_format.specs.Codes.{Code, codes, code_count, codes_of, code_of}

-- ---- the first m rows of a table

pub front-row : {A : Type 0} (m : ℕ) (l : List A) (n : ℕ) {a : A} → nth (take m l) n ≡ some a → nth l n ≡ some a
unfolding nth
front-row zero l n h = absurd (none-some h)
front-row (suc m) [] n h = h
front-row (suc m) (b ∷ l) zero h = h
front-row (suc m) (b ∷ l) (suc n) h = front-row m l n h

pub front_below : {A : Type 0} (m : ℕ) (l : List A) (n : ℕ) {a : A} → nth (take m l) n ≡ some a → n < m
unfolding nth
front_below zero l n h = absurd (none-some h)
front_below (suc m) [] n h = absurd (none-some h)
front_below (suc m) (b ∷ l) zero h = omega arith
front_below (suc m) (b ∷ l) (suc n) h = omega (arith, front_below m l n h)

pub front-here : {A : Type 0} (m : ℕ) (l : List A) (n : ℕ) → n < m → m ≤ length l → (a : A) × (nth (take m l) n ≡ some a)
unfolding nth
front-here zero l n h k = absurd (omega arith)
front-here (suc m) [] n h k = absurd (omega arith)
front-here (suc m) (b ∷ l) zero h k = (b, refl)
front-here (suc m) (b ∷ l) (suc n) h k = front-here m l n (omega arith) (omega arith)

pub front-none : {A : Type 0} (m : ℕ) (l : List A) (n : ℕ) → m ≤ n → nth (take m l) n ≡ none
unfolding nth
front-none zero l n h = refl
front-none (suc m) [] n h = refl
front-none (suc m) (b ∷ l) zero h = absurd (omega arith)
front-none (suc m) (b ∷ l) (suc n) h = front-none m l n (omega arith)

pub front_length : {A : Type 0} (m : ℕ) (l : List A) → m ≤ length l → length (take m l) ≡ m
front_length zero l h = refl
front_length (suc m) [] h = absurd (omega arith)
front_length (suc m) (a ∷ l) h = rw (front_length m l (omega arith))

-- ---- the codes

-- the table has a row for each code of an edition
pub codes_all : (edition : ℕ) → code_count edition ≤ length codes
unfolding codes code_count
codes_all edition = omega arith

pub codes-few : length codes ≤ 64
unfolding codes
codes-few = omega arith

-- so few that a code has six bits
pub count-few : (edition : ℕ) → code_count edition ≤ 64
count-few edition = omega (arith, codes_all edition, codes-few)

-- a code of an edition is that row of the table
pub code_row : (edition n : ℕ) {k : Code} → code_of edition n ≡ some k → nth codes n ≡ some k
unfolding code_of
code_row edition n h = front-row (code_count edition) codes n h

-- the codes of an edition are those below its count
pub code_below : (edition n : ℕ) {k : Code} → code_of edition n ≡ some k → n < code_count edition
unfolding code_of
code_below edition n h = front_below (code_count edition) codes n h

pub code_here : (edition n : ℕ) → n < code_count edition → (k : Code) × (code_of edition n ≡ some k)
unfolding code_of
code_here edition n h = front-here (code_count edition) codes n h (codes_all edition)

pub code-none : (edition n : ℕ) → code_count edition ≤ n → code_of edition n ≡ none
unfolding code_of
code-none edition n h = front-none (code_count edition) codes n h
