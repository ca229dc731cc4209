-- A copy by blocks inside a list, one block after the other.
use mathlib.Core.Path.{◌≡◌, ap, ◌∙◌}
use mathlib.Core.Logic.{◌⊎◌, ⊎_elim}
use mathlib.Core.List.{List}
use Prim.Native.Nat.{ℕ, ◌+◌, ◌≤◌}
use native.Mathlib.Omega.{arith}
use lib.ListN.{length}
use Rattle.buffer.specs.Parts.{part, put}
use Rattle.buffer.proofs.Parts.{length_part, part-put-above, part-put-below}
use Rattle.block_copy.proofs.Copied.{over-more}

-- m elements more, where k are copied, of n at the most
pub block_more : (l : List ℕ) (from to n k m : ℕ) {x y : List ℕ} → from + n ≤ length l → to + n ≤ length l
    → (to ≤ from) ⊎ (from + n ≤ to) → k + m ≤ n → x ≡ put l to (part from k l) → y ≡ put x (to + k) (part (from + k) m x)
    → y ≡ put l to (part from (k + m) l)
block_more l from to n k m {x} {y} hf ht apart hk ex ey =
    let p = part from k l in
    let lp : length p ≡ k = length_part from k l (omega arith) in
    let same : part (from + k) m (put l to p) ≡ part (from + k) m l =
    ⊎_elim (λ h. part-put-above l to p (omega arith) (from + k) m (omega arith))
    (λ h. part-put-below l to p (omega arith) (from + k) m (omega arith)) apart in
    ey
    ∙ ap (put x (to + k)) (ap (part (from + k) m) ex ∙ same)
    ∙ over-more l to l from k m (omega arith) (omega arith) ex
