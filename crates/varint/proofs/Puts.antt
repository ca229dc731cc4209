-- A number written to a room, group by group: with what is left of the number, a room comes to the same as at the
-- start.
use mathlib.Core.Path.{◌≡◌, refl, sym, ap, ◌∙◌}
use mathlib.Core.Bool.{Bool, true, false, cond}
use mathlib.Core.List.{List, [], ◌∷◌}
use Prim.Native.Nat.{ℕ, zero, suc, ◌+◌, ◌/◌, ◌%◌, ◌^◌, ◌≤◌, ◌<◌}
use native.Mathlib.Omega.{arith}
use native.Mathlib.Numerals.{add-one}
use lib.ListN.{length}
use lib.Dec.{ltb}
use borrow.Author.Tests.{lt-ltb, le-ltb}
use Rattle.edition.specs.Limits.{number_bound}
use Rattle.image_format.specs.Numbers.{groups, coded}
use Rattle.varint.specs.Room.{with_one, with_all}

module _ (room₀ : List ℕ) (k n : ℕ) where
  -- a number up to 2^53 has at most eight groups: `more` of them may follow the next one, which goes to index i
  pub record Puts (room : List ℕ) (rest i : ℕ) : Type 0 where
    pub more : ℕ
    pub place : i + more ≡ k + 7
    pub small : rest < 128 ^ suc more
    pub count : i + length (groups (suc more) rest) ≡ k + length (coded n)
    pub same : with_all room i (groups (suc more) rest) ≡ with_all room₀ k (coded n)

  pub put-start : n ≤ number_bound → Puts room₀ n k
  unfolding coded
  put-start h = record { more = 7; place = refl; small = omega arith; count = refl; same = refl }

  module _ (room room' : List ℕ) (rest i : ℕ) (p : Puts room rest i) where
    -- the last group
    pub put_last : rest < 128 → room' ≡ with_one room i rest → (i + 1 ≡ k + length (coded n)) × (room' ≡ with_all room₀ k (coded n))
    unfolding with_all
    put_last h e =
        let g : groups (suc p.more) rest ≡ rest ∷ [] = rw (lt-ltb rest 128 h) in
        (ap (λ (l : List ℕ). i + length l) (sym g) ∙ p.count, e ∙ ap (with_all room i) (sym g) ∙ p.same)

    -- another
    pub put-more : 128 ≤ rest → room' ≡ with_one room i (128 + rest % 128) → Puts room' (rest / 128) (i + 1)
    unfolding with_all
    put-more h e = by p.more p.place p.small p.count p.same
      where
        by : (more : ℕ) → i + more ≡ k + 7 → rest < 128 ^ suc more → i + length (groups (suc more) rest) ≡ k + length (coded n)
            → with_all room i (groups (suc more) rest) ≡ with_all room₀ k (coded n) → Puts room' (rest / 128) (i + 1)
        by zero a b c d = absurd (omega arith)
        by (suc m) a b c d =
            let g : groups (suc (suc m)) rest ≡ (128 + rest % 128) ∷ groups (suc m) (rest / 128) = rw (le-ltb rest 128 h) in
            let q : i + 1 + length (groups (suc m) (rest / 128)) ≡ i + suc (length (groups (suc m) (rest / 128))) = omega arith in
            record {
              more = m;
              place = omega arith;
              small = omega arith;
              count = q ∙ ap (λ (l : List ℕ). i + length l) (sym g) ∙ c;
              same = ap (λ (r : List ℕ). with_all r (i + 1) (groups (suc m) (rest / 128))) e ∙ ap (λ (j : ℕ). with_all (with_one room i (128 + rest % 128)) j (groups (suc m) (rest / 128))) (add-one i) ∙ ap (with_all room i) (sym g) ∙ d;
            }

-- a number has at most eight groups
groups-short : (k n : ℕ) → length (groups k n) ≤ k
groups-short zero n = omega arith
groups-short (suc k) n = by (ltb n 128) (groups-short k (n / 128))
  where
    by : (x : Bool) → length (groups k (n / 128)) ≤ k → length (cond x (n ∷ []) ((128 + n % 128) ∷ groups k (n / 128))) ≤ suc k
    by true h = omega arith
    by false h = omega arith

pub coded-short : (n : ℕ) → length (coded n) ≤ 8
unfolding coded
coded-short n = groups-short 8 n
