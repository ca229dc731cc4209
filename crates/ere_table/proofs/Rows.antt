-- The laws of the table's rows.
use mathlib.Core.Path.{◌≡◌, refl, sym, ap, ◌∙◌}
use mathlib.Core.Bool.{Bool, true, false, true≢false, cond, ◌&&◌, ◌||◌}
use mathlib.Core.Logic.{◌⊎◌, inr, ⊎_elim, ⊎_map, ◌↔◌}
use mathlib.Core.List.{List, [], ◌∷◌}
use Prim.Native.Nat.{ℕ, zero, suc, ◌+◌, ◌*◌, ◌/◌, ◌%◌, ◌≤◌, ◌<◌}
use native.Mathlib.Numerals.{add-one}
use native.Mathlib.Omega.{arith}
use native.Mathlib.Nat.{le_refl, eq-or-lt_of_le}
use lib.ListN.{length, get_or, set, length-set}
use lib.Seq.{get_or-set_same, get_or-set_other}
use lib.Bits.{bit_or, bit_and}
use lib.Dec.{ltb}
use borrow.Author.Tests.{ltb-true}
use Rattle.lists.proofs.Tests.{or_cases, or_left, or_right, and-true, and-of}
use Rattle.ere_table.specs.Nexts.{Next, stop, go}
use Rattle.lists.specs.Digit.{bit}
use Rattle.ere_table.specs.Table.{mem, row, join}
use Rattle.ere_table.specs.Wiring.{next_in}
use Rattle.ere_table.specs.Build.{link, with_row, link_rows}
use Rattle.ere_table.proofs.Parts.{Then}
use Rattle.lists.proofs.Digits.{bit-or, bit-and}
use Rattle.ere_table.proofs.Sets.{mem-join, or-none}

pub link-more : (t : List ℕ) (r i : ℕ) (y now next : List ℕ) → now ≡ link_rows t r i y → next ≡ with_row now (r + i) (link (row now (r + i)) y) → next ≡ link_rows t r (i + 1) y
unfolding link_rows
link-more t r i y now next h k = rw add-one (k ∙ ap (λ (o : List ℕ). with_row o (r + i) (link (row o (r + i)) y)) h)

-- ---- what may come next in a set that is made of two

module _ (x y : List ℕ) where
  marks : get_or (link x y) 2 0 ≡ bit_and (get_or x 2 0) (get_or y 2 0)
  marks = go (mem x 128) refl
    where
      go : (b : Bool) → mem x 128 ≡ b → get_or (link x y) 2 0 ≡ bit_and (get_or x 2 0) (get_or y 2 0)
      go true e = rw e
      go false e = rw e

  link-stop : (f : Bool) → next_in (link x y) f stop ≡ (next_in x f stop && next_in y f stop)
  link-stop true = ap (λ (w : ℕ). bit w 1) marks ∙ bit-and (get_or x 2 0) (get_or y 2 0) 1
  link-stop false = ap (λ (w : ℕ). bit w 0) marks ∙ bit-and (get_or x 2 0) (get_or y 2 0) 0

  link-word : (k : ℕ) → k < 2 → get_or (link x y) k 0 ≡ cond (mem x 128) (bit_or (get_or x k 0) (get_or y k 0)) (get_or x k 0)
  link-word k h = go (mem x 128) refl k h
    where
      go : (b : Bool) → mem x 128 ≡ b → (k : ℕ) → k < 2 → get_or (link x y) k 0 ≡ cond (mem x 128) (bit_or (get_or x k 0) (get_or y k 0)) (get_or x k 0)
      go true e zero h = rw e
      go true e (suc zero) h = rw e
      go true e (suc (suc k)) h = absurd (omega arith)
      go false e zero h = rw e
      go false e (suc zero) h = rw e
      go false e (suc (suc k)) h = absurd (omega arith)

  link-go : (q : ℕ) → q < 128 → mem (link x y) q ≡ (mem x q || (mem x 128 && mem y q))
  link-go q h = ap (λ (w : ℕ). bit w (q % 64)) (link-word (q / 64) (omega arith)) ∙ pick (mem x 128)
    where
      pick : (b : Bool) → bit (cond b (bit_or (get_or x (q / 64) 0) (get_or y (q / 64) 0)) (get_or x (q / 64) 0)) (q % 64) ≡ (mem x q || (b && mem y q))
      pick true = bit-or (get_or x (q / 64) 0) (get_or y (q / 64) 0) (q % 64)
      pick false = or-none (mem x q)

  abbrev X : Bool → Next → Type 0
  X f r = next_in x f r ≡ true

  abbrev Y : Bool → Next → Type 0
  Y f r = next_in y f r ≡ true

  pub link-next : (f : Bool) (r : Next) → (next_in (link x y) f r ≡ true) ↔ Then (X f) (Y f) r
  link-next f stop = (λ h. and-true _ _ (sym (link-stop f) ∙ h), λ t. link-stop f ∙ and-of (next_in x f stop) _ t.0 t.1)
  link-next true (go q) = (λ h. absurd (true≢false (sym h)), ⊎_elim (λ h. absurd (true≢false (sym h))) (λ t. absurd (true≢false (sym t.1))))
  link-next false (go q) = (to, ⊎_elim left right)
    where
      to : next_in (link x y) false (go q) ≡ true → (X false (go q)) ⊎ ((X false stop) × (Y false (go q)))
      to h =
          let z = and-true (ltb q 128) _ h in
          let l = ltb-true q 128 z.0 in
          ⊎_map (λ m. and-of (ltb q 128) _ z.0 m) (λ m. let u = and-true (mem x 128) _ m in (u.0, and-of (ltb q 128) _ z.0 u.1))
          (or_cases (mem x q) _ (sym (link-go q l) ∙ z.1))

      left : X false (go q) → next_in (link x y) false (go q) ≡ true
      left h =
          let z = and-true (ltb q 128) _ h in
          and-of (ltb q 128) _ z.0 (link-go q (ltb-true q 128 z.0) ∙ or_left (mem x q) _ z.1)

      right : (X false stop) × (Y false (go q)) → next_in (link x y) false (go q) ≡ true
      right t =
          let z = and-true (ltb q 128) _ t.1 in
          and-of (ltb q 128) _ z.0 (link-go q (ltb-true q 128 z.0) ∙ or_right (mem x q) _ (and-of (mem x 128) _ t.0 z.1))

  pub join-next : (f : Bool) (r : Next) → (next_in (join x y) f r ≡ true) ↔ ((X f r) ⊎ (Y f r))
  join-next f stop = (λ h. or_cases _ _ (sym (mem-join x y (cond f 129 128) (low f)) ∙ h), ⊎_elim (λ h. mem-join x y (cond f 129 128) (low f) ∙ or_left _ _ h) (λ h. mem-join x y (cond f 129 128) (low f) ∙ or_right (mem x (cond f 129 128)) _ h))
    where
      low : (f : Bool) → cond f 129 128 < 192
      low true = omega arith
      low false = omega arith
  join-next true (go q) = (λ h. absurd (true≢false (sym h)), ⊎_elim (λ h. absurd (true≢false (sym h))) (λ h. absurd (true≢false (sym h))))
  join-next false (go q) = (
    λ h. let z = and-true (ltb q 128) _ h in
        let l = ltb-true q 128 z.0 in
        ⊎_map (λ m. and-of (ltb q 128) _ z.0 m) (λ m. and-of (ltb q 128) _ z.0 m) (or_cases (mem x q) _ (sym (mem-join x y q (omega arith)) ∙ z.1)),
    ⊎_elim
        (λ h. let z = and-true (ltb q 128) _ h in let l = ltb-true q 128 z.0 in
        and-of (ltb q 128) _ z.0 (mem-join x y q (omega arith) ∙ or_left (mem x q) _ z.1))
        (λ h. let z = and-true (ltb q 128) _ h in let l = ltb-true q 128 z.0 in
        and-of (ltb q 128) _ z.0 (mem-join x y q (omega arith) ∙ or_right (mem x q) _ z.1)),
  )

-- ---- rows that are set

pub three : {a b c a' b' c' : ℕ} → a ≡ a' → b ≡ b' → c ≡ c' → ◌≡◌ {A = List ℕ} (a ∷ b ∷ c ∷ []) (a' ∷ b' ∷ c' ∷ [])
three p q r = λ i. p i ∷ q i ∷ r i ∷ []

module _ (t : List ℕ) (r : ℕ) (x : List ℕ) where
  t₁ : List ℕ
  t₁ = set t (3 * r) (get_or x 0 0)

  t₂ : List ℕ
  unfolding t₁
  t₂ = set t₁ (3 * r + 1) (get_or x 1 0)

  pub apart : (j : ℕ) → (j ≡ 3 * r → ⊥) → (j ≡ 3 * r + 1 → ⊥) → (j ≡ 3 * r + 2 → ⊥) → get_or (with_row t r x) j 0 ≡ get_or t j 0
  unfolding t₂
  apart j p q s = get_or-set_other t₂ (3 * r + 2) j (get_or x 2 0) 0 s ∙ get_or-set_other t₁ (3 * r + 1) j (get_or x 1 0) 0 q ∙ get_or-set_other t (3 * r) j (get_or x 0 0) 0 p

  pub row_other : (k : ℕ) → (k ≡ r → ⊥) → row (with_row t r x) k ≡ row t k
  row_other k h =
      three (apart (3 * k) (λ e. h (omega arith)) (λ e. omega arith) (λ e. omega arith))
      (apart (3 * k + 1) (λ e. omega arith) (λ e. h (omega arith)) (λ e. omega arith))
      (apart (3 * k + 2) (λ e. omega arith) (λ e. omega arith) (λ e. h (omega arith)))

  pub row_same : 3 * r + 2 < length t → row (with_row t r x) r ≡ get_or x 0 0 ∷ get_or x 1 0 ∷ get_or x 2 0 ∷ []
  unfolding t₂
  row_same fits =
      three
      (get_or-set_other t₂ (3 * r + 2) (3 * r) (get_or x 2 0) 0 (λ e. omega arith) ∙ get_or-set_other t₁ (3 * r + 1) (3 * r) (get_or x 1 0) 0 (λ e. omega arith)
      ∙ get_or-set_same t (3 * r) (get_or x 0 0) 0 (omega arith))
      (get_or-set_other t₂ (3 * r + 2) (3 * r + 1) (get_or x 2 0) 0 (λ e. omega arith)
      ∙ get_or-set_same t₁ (3 * r + 1) (get_or x 1 0) 0 (rw length-set (omega arith)))
      (get_or-set_same t₂ (3 * r + 2) (get_or x 2 0) 0 (rw (length-set, length-set) fits))

  pub length-row : length (with_row t r x) ≡ length t
  length-row = simp length-set

link-three : (x y : List ℕ) → get_or (link x y) 0 0 ∷ get_or (link x y) 1 0 ∷ get_or (link x y) 2 0 ∷ [] ≡ link x y
link-three x y = go (mem x 128) refl
  where
    go : (b : Bool) → mem x 128 ≡ b → get_or (link x y) 0 0 ∷ get_or (link x y) 1 0 ∷ get_or (link x y) 2 0 ∷ [] ≡ link x y
    go true e = rw e
    go false e = rw e

-- ---- rows that are linked

module _ (t : List ℕ) (r : ℕ) (y : List ℕ) where
  pub length-linked : (n : ℕ) → length (link_rows t r n y) ≡ length t
  unfolding link_rows
  length-linked zero = refl
  length-linked (suc n) = length-row (link_rows t r n y) (r + n) (link (row (link_rows t r n y) (r + n)) y) ∙ length-linked n

  pub linked-out : (n k : ℕ) → (k < r) ⊎ (r + n ≤ k) → row (link_rows t r n y) k ≡ row t k
  unfolding link_rows
  linked-out zero k h = refl
  linked-out (suc n) k h =
      row_other (link_rows t r n y) (r + n) (link (row (link_rows t r n y) (r + n)) y) k (λ e. ⊎_elim (λ l. omega arith) (λ l. omega arith) h)
      ∙ linked-out n k (⊎_map (λ l. l) (λ l. omega arith) h)

  pub linked-in : (n k : ℕ) → 3 * (r + n) ≤ length t → r ≤ k → k < r + n → row (link_rows t r n y) k ≡ link (row t k) y
  unfolding link_rows
  linked-in zero k f l h = absurd (omega arith)
  linked-in (suc n) k f l h = ⊎_elim new (λ g. old g (linked-in n k (omega arith) l g)) (eq-or-lt_of_le le)
    where
      le : k ≤ r + n
      le = omega arith

      T : List ℕ
      T = link_rows t r n y

      new : k ≡ r + n → row (with_row T (r + n) (link (row T (r + n)) y)) k ≡ link (row t k) y
      new e =
          rw e (row_same T (r + n) (link (row T (r + n)) y) (rw (length-linked n) (omega arith)) ∙ link-three (row T (r + n)) y
          ∙ ap (λ (z : List ℕ). link z y) (linked-out n (r + n) (inr (le_refl (r + n)))))

      old : k < r + n → row T k ≡ link (row t k) y → row (with_row T (r + n) (link (row T (r + n)) y)) k ≡ link (row t k) y
      old g ih = row_other T (r + n) (link (row T (r + n)) y) k (λ e. omega arith) ∙ ih
