-- Laws on the first place of a part: it is looked for where its first byte is.
use mathlib.Core.Path.{◌≡◌, sym, ap, subst, ◌∙◌}
use mathlib.Core.List.{List, [], ◌∷◌}
use mathlib.Core.Option.{some}
use Prim.Native.Nat.{ℕ, ◌+◌, ◌-◌, ◌≤◌, ◌<◌}
use native.Mathlib.Decide.{ℕ_discrete, dec_lt}
use native.Mathlib.Omega.{arith}
use lib.ListN.{length, get_or, drop, length-drop}
use lib.Seq.{get_or-drop}
use Rattle.buffer.specs.Parts.{part}
use Rattle.buffer.specs.First.{first_byte, first_part, Stands}
use Rattle.buffer.proofs.Parts.{get_d_part}
use Rattle.buffer.proofs.First.{first-byte-below, first-byte-most, first-part-empty}

module _ (t s : List ℕ) (nonempty : 0 < length t) where
  -- where t is, its first byte is
  first-stands : (j : ℕ) → Stands t s j → get_or s j 0 ≡ get_or t 0 0
  first-stands j w =
      let z : j + 0 ≡ j = omega arith in
      ap (λ (k : ℕ). get_or s k 0) (sym z)
      ∙ sym (get_d_part j (length t) s 0 nonempty)
      ∙ ap (λ (l : List ℕ). get_or l 0 0) w.same

  -- none is before `from`: so none is before the first place of its first byte from there on
  pub stands_from : (from k b : ℕ) → b ≡ get_or t 0 0 → k ≡ from + first_byte b (drop from s)
      → ((j : ℕ) → Stands t s j → from ≤ j) → (j : ℕ) → Stands t s j → k ≤ j
  stands_from from k b eb ek before j w =
      elim (dec_lt j k) [
        | yes h ↦
            let f = before j w in
            let z : from + (j - from) ≡ j = omega arith in
            absurd (first-byte-below b (drop from s) (j - from) (omega arith)
            (get_or-drop from s (j - from) 0 ∙ ap (λ (i : ℕ). get_or s i 0) z ∙ first-stands j w ∙ sym eb))
        | no h ↦ omega arith
      ]

-- where t is not at k, it is after it
pub stands_after : (t s : List ℕ) (k : ℕ) → (part k (length t) s ≡ t → ⊥) → ((j : ℕ) → Stands t s j → k ≤ j)
    → (j : ℕ) → Stands t s j → k + 1 ≤ j
stands_after t s k n before j w =
    elim (ℕ_discrete j k) [
      | yes e ↦ absurd (n (subst (λ (i : ℕ). part i (length t) s ≡ t) e w.same))
      | no e ↦ (let f = before j w in omega arith)
    ]

-- a first place that was found is within the list
pub first-within : (b from k : ℕ) (s : List ℕ) → from ≤ length s → k ≡ from + first_byte b (drop from s)
    → k ≤ length s
first-within b from k s h e = omega (arith, first-byte-most b (drop from s), length-drop from s)

-- an empty part is at the front
pub empty_first : (t s : List ℕ) → length t ≡ 0 → first_part t s ≡ some 0
empty_first [] s h = first-part-empty s
empty_first (x ∷ t) s h = absurd (omega arith)
