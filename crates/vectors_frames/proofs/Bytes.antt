-- Laws on numbers of a payload, and on a room that is loaded.
use mathlib.Core.Path.{◌≡◌, sym, ap, ap₂, ◌∙◌}
use mathlib.Core.Bool.{Bool, cond}
use mathlib.Core.List.{List, ◌++◌}
use Prim.Native.Nat.{ℕ, ◌+◌, ◌-◌, ◌≤◌, ◌<◌, min}
use native.Mathlib.Omega.{arith}
use borrow.Author.Tests.{le-leb, lt-leb}
use borrow.Rule.Slice.PartMut.{post_of}
use lib.ListN.{length, take, drop, length-take}
use Rattle.std.proofs.lemmas.List.{take_min}
use Rattle.buffer.specs.Parts.{part, put}
use Rattle.little_endian.specs.Words.{le_value}
use Rattle.vectors_frames.specs.Payload.{number_at, loaded}

-- where a payload has k bytes from index a on, and where it has not
pub number_in : (k a : ℕ) (p : List ℕ) {r : ℕ} → a + k ≤ length p → r ≡ le_value (part a k p) → r ≡ number_at k a p
unfolding number_at
number_in k a p h e = e ∙ ap (λ (b : Bool). cond b (le_value (part a k p)) 0) (sym (le-leb (a + k) (length p) h))

pub number-out : (k a : ℕ) (p : List ℕ) → length p < a + k → 0 ≡ number_at k a p
unfolding number_at
number-out k a p h = ap (λ (b : Bool). cond b (le_value (part a k p)) 0) (sym (lt-leb (a + k) (length p) h))

-- as many bytes as a room has room for, and what is behind them
pub loaded_by : (room bytes x : List ℕ) (n : ℕ) → n ≡ min (length room) (length bytes) → x ≡ take (n - 0) bytes
    → x ++ post_of 0 (n - 0) room ≡ loaded room bytes
unfolding loaded put
loaded_by room bytes x n e f =
    let z : n - 0 ≡ min (length room) (length bytes) = omega (arith, e) in
    let k : n - 0 ≡ 0 + length (take (length room) bytes) = omega (arith, e, length-take (length room) bytes) in
    ap₂ ◌++◌ (f ∙ ap (λ (m : ℕ). take m bytes) z ∙ take_min (length room) bytes) (ap (λ (m : ℕ). drop m room) k)
