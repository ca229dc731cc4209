-- The size of all fields joined, field by field.
use mathlib.Core.Path.{◌≡◌, refl, ap, ◌∙◌}
use mathlib.Core.List.{List}
use Prim.Native.Nat.{ℕ, suc, ◌+◌, ◌≤◌, ◌<◌}
use native.Mathlib.Omega.{arith}
use native.Mathlib.Numerals.{add-one}
use lib.ListN.{length}
use Rattle.edition.specs.Limits.{text_bytes}
use Rattle.values.specs.Value.{text_of}
use Rattle.run_room.specs.declared.lines.Line.{Line}
use Rattle.run_parts.specs.Join.{new_field, new_fields, gap_of, joined_text, Measured}
use Rattle.run_parts.proofs.Joined.{joined_length, joined-below}

module _ (x : List ℕ) (l : Line) (k v n : ℕ) where
  -- the size of the first i
  abbrev pub Sum : ℕ → ℕ → Type 0
  Sum i sum = (b : List ℕ) → length b ≡ n → sum ≡ length (joined_text b (new_fields x l k v i))

  pub sum-none : Sum 0 0
  unfolding new_fields joined_text
  sum-none = λ b e. refl

  module _ (i count sum m : ℕ) (hs : Sum i sum) (hm : m ≡ length (text_of (new_field x l k v i))) (c : i < count) where
    pub measured-big : text_bytes < m → Measured x l k v count n 513
    measured-big h =
        record {
          short = λ z. absurd (omega arith);
          long = λ z b e. omega (arith, joined_length x l k v b i, joined-below x l k v b (suc i) count c);
        }

    module _ (g : ℕ) (hg : (b : List ℕ) → length b ≡ n → g ≡ length (gap_of b i)) where
      pub measured-over : text_bytes < sum + g + m → Measured x l k v count n 513
      measured-over h =
          record {
            short = λ z. absurd (omega arith);
            long = λ z b e. omega (arith, hs b e, hg b e, joined_length x l k v b i, joined-below x l k v b (suc i) count c);
          }

      pub measured-more : Sum (i + 1) (sum + g + m)
      measured-more = λ b e.
          let z = ap (λ (q : ℕ). length (joined_text b (new_fields x l k v q))) (add-one i) in
          omega (arith, hs b e, hg b e, joined_length x l k v b i)

  pub measured-end : (i count sum : ℕ) → i ≡ count → sum ≤ text_bytes → Sum i sum → Measured x l k v count n sum
  measured-end i count sum e h hs =
      record {
        short = λ z b f. hs b f ∙ ap (λ (q : ℕ). length (joined_text b (new_fields x l k v q))) e;
        long = λ z. absurd (omega arith);
      }
