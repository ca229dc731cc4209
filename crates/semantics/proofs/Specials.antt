-- Laws on the special variables of an edition. No other crate but that of the instruction set opens the table or its
-- count.
use mathlib.Core.Path.{◌≡◌, refl, sym}
use mathlib.Core.Bool.{true}
use mathlib.Core.Option.{some, none}
use Prim.Native.Nat.{ℕ, ◌≤◌, ◌<◌}
use native.Mathlib.Omega.{arith}
use lib.ListN.{length}
use Rattle.lists.proofs.Tests.{clash}
use Rattle.lists.proofs.Elements.{every-at}
use Rattle.lists.specs.Elements.{nth, Every, empty, cons}
use Rattle.image_format.proofs.Codes.{front-row, front_below, front-here, front-none, front_length}
use Rattle.values.specs.Value.{Value}
use Rattle.semantics.specs.Variables.{stored, Variable, specials, special_count, specials_of, special_of}

-- the table has a row for each special variable of an edition
pub specials-all : (edition : ℕ) → special_count edition ≤ length specials
unfolding specials special_count
specials-all edition = omega arith

-- so few that with the users' each has a number of six bits
pub specials-few : length specials ≤ 32
unfolding specials
specials-few = omega arith

pub specials-length : (edition : ℕ) → length (specials_of edition) ≡ special_count edition
specials-length edition = front_length (special_count edition) specials (specials-all edition)

-- a special variable of an edition is that row of the table
pub special-row : (edition n : ℕ) {v : Variable} → special_of edition n ≡ some v → nth specials n ≡ some v
unfolding special_of
special-row edition n h = front-row (special_count edition) specials n h

-- the special variables of an edition are those below its count, and the users' come after them
pub special-below : (edition n : ℕ) {v : Variable} → special_of edition n ≡ some v → n < special_count edition
unfolding special_of
special-below edition n h = front_below (special_count edition) specials n h

pub special-here : (edition n : ℕ) → n < special_count edition → (v : Variable) × (special_of edition n ≡ some v)
unfolding special_of
special-here edition n h = front-here (special_count edition) specials n h (specials-all edition)

pub special-none : (edition n : ℕ) → special_count edition ≤ n → special_of edition n ≡ none
unfolding special_of
special-none edition n h = front-none (special_count edition) specials n h

-- ---- rows

-- a variable that can be assigned has the value that was set
abbrev Keeps : Variable → Type 0
Keeps v = v.assignable ≡ true → (a : Value) × (v.source ≡ stored a)

specials-keep : Every Keeps specials
unfolding specials
specials-keep =
    cons (λ h. absurd (clash (sym h)))
    (cons (λ h. absurd (clash (sym h)))
    (cons (λ h. (_, refl)) (cons (λ h. (_, refl)) (cons (λ h. (_, refl)) (cons (λ h. (_, refl)) (cons (λ h. (_, refl)) empty))))))

pub special-keeps : (edition n : ℕ) (v : Variable) → special_of edition n ≡ some v → v.assignable ≡ true → (a : Value) × (v.source ≡ stored a)
special-keeps edition n v h = every-at specials-keep n v (special-row edition n h)
