-- The laws of sets that are lists of words.
use mathlib.Core.Path.{◌≡◌, refl, ap, ◌∙◌}
use mathlib.Core.Bool.{Bool, true, false, cond, ◌||◌, ◌&&◌}
use mathlib.Core.List.{List, [], ◌∷◌}
use Prim.Native.Nat.{ℕ, zero, suc, ◌/◌, ◌%◌, ◌<◌}
use native.Mathlib.Omega.{arith}
use lib.ListN.{get_or}
use lib.Bits.{bit_or}
use Rattle.lists.specs.Digit.{bit}
use Rattle.lists.proofs.Digits.{bit-or, bit-zero}
use Rattle.ere_table.specs.Table.{mem, join}

join-at : (a b : List ℕ) (k : ℕ) → k < 3 → get_or (join a b) k 0 ≡ bit_or (get_or a k 0) (get_or b k 0)
join-at a b zero h = refl
join-at a b (suc zero) h = refl
join-at a b (suc (suc zero)) h = refl
join-at a b (suc (suc (suc k))) h = absurd (omega arith)

pub mem-join : (a b : List ℕ) (q : ℕ) → q < 192 → mem (join a b) q ≡ (mem a q || mem b q)
mem-join a b q h = ap (λ (w : ℕ). bit w (q % 64)) (join-at a b (q / 64) (omega arith)) ∙ bit-or (get_or a (q / 64) 0) (get_or b (q / 64) 0) (q % 64)

none-at : (k : ℕ) → get_or {A = ℕ} (0 ∷ 0 ∷ 0 ∷ []) k 0 ≡ 0
none-at zero = refl
none-at (suc zero) = refl
none-at (suc (suc zero)) = refl
none-at (suc (suc (suc k))) = refl

pub mem-none : (q : ℕ) → mem (0 ∷ 0 ∷ 0 ∷ []) q ≡ false
mem-none q = ap (λ (w : ℕ). bit w (q % 64)) (none-at (q / 64)) ∙ bit-zero (q % 64)

-- ---- a set with another, by a test

pub or-none : (a : Bool) → a ≡ (a || false)
or-none true = refl
or-none false = refl

-- out with a set where a test holds
pub mem-cond : (x : Bool) (a b : List ℕ) (q : ℕ) → q < 192 → mem (cond x (join a b) a) q ≡ (mem a q || (x && mem b q))
mem-cond true a b q h = mem-join a b q h
mem-cond false a b q h = or-none (mem a q)
