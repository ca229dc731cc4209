-- The rows of states lie inside the words; a run of states goes on in states.
use Rattle.std.proofs.Common.{◌≡◌, ℕ, zero, suc, ◌+◌, ◌-◌, ◌*◌, ◌<◌, ◌≤◌, Bool, false, cond, eqb, List, length, get_or, sym, ap, ◌∙◌, ap₂, add-zero, add-suc, mul_comm, mul-le-mul_left, le-div_iff_mul-le, mul-suc, arith}
use Rattle.ere_automaton.specs.Layout.{State, stride_of, rows_at, class_count, class_in, pairs_word, next_in, pair_in}
use Rattle.ere_automaton.specs.Automaton.{Ranged}
use Rattle.ere_automaton.specs.Scan.{runs}

-- all of a row
pub row_fits : (d : List ℕ) (q : ℕ) → State d q → q + stride_of d ≤ length d
row_fits d q S =
    let n = S.number in
    let w = stride_of d in
    let h : suc n * w ≤ length d - rows_at =
    (le-div_iff_mul-le {k = w} {x = suc n} {y = length d - rows_at} (omega arith)).0 S.low in
    let e : suc n * w ≡ w * n + w = mul_comm (suc n) w ∙ mul-suc w n in
    omega (arith, S.is)

-- the word of the text's end
pub end_fits : (d : List ℕ) (q : ℕ) → State d q → q + class_count d < length d
end_fits d q S = omega (arith, row_fits d q S)

module _ (d : List ℕ) (R : Ranged d) where
  -- the state after a byte
  pub next_fits : (q b : ℕ) → State d q → b < 256 → q + class_in d b < length d
  next_fits q b S h = omega (arith, row_fits d q S, R.classes b h)

  -- the state after two
  pub pair_fits : (q k b c : ℕ) → State d q → k ≡ class_count d → b < 256 → c < 256 → eqb (pairs_word d) 0 ≡ false
      → class_in d b * k + class_in d c + k + 1 + q < length d
  pair_fits q k b c S ek hb hc h =
      let y = class_in d b in
      let w : stride_of d ≡ k + 1 + k * k =
      ap (λ (x : Bool). class_count d + 1 + cond x 0 (class_count d * class_count d)) h
      ∙ ap (λ (n : ℕ). n + 1 + n * n) (sym ek) in
      let low : suc y ≤ k = omega (arith, R.classes b hb) in
      let m : k * suc y ≤ k * k = mul-le-mul_left k low in
      let e : k * suc y ≡ y * k + k = mul-suc k y ∙ ap (λ (x : ℕ). x + k) (mul_comm k y) in
      omega (arith, row_fits d q S, R.classes c hc)

  module _ (x : List ℕ) (bytes : (k : ℕ) → get_or x k 0 < 256) where
    pub runs-state : (i s n : ℕ) → State d s → State d (runs d x i s n)
    unfolding runs
    runs-state i s zero S = S
    runs-state i s (suc n) S = R.moves (runs d x i s n) (get_or x (i + n) 0) (runs-state i s n S) (bytes (i + n))

-- ---- a run goes on

module _ (d x : List ℕ) where
  pub runs-byte : (from s i q : ℕ) → from ≤ i → q ≡ runs d x from s (i - from)
      → next_in d q (get_or x i 0) ≡ runs d x from s (i + 1 - from)
  unfolding runs
  runs-byte from s i q h e =
      let z : i + 1 - from ≡ suc (i - from) = omega arith in
      let w : i ≡ from + (i - from) = omega arith in
      ap₂ (λ (a b : ℕ). next_in d a (get_or x b 0)) e w ∙ ap (runs d x from s) (sym z)

  -- one after the other
  pub runs-add : (i s m n : ℕ) → runs d x (i + m) (runs d x i s m) n ≡ runs d x i s (m + n)
  unfolding runs
  runs-add i s m zero = ap (runs d x i s) (sym (add-zero m))
  runs-add i s m (suc n) =
      let z : i + m + n ≡ i + (m + n) = omega arith in
      ap₂ (λ (q k : ℕ). next_in d q (get_or x k 0)) (runs-add i s m n) z ∙ ap (runs d x i s) (sym (add-suc m n))

  pub runs-count : (i s m n : ℕ) {r : ℕ} → r ≡ runs d x i s m → m ≡ n → r ≡ runs d x i s n
  runs-count i s m n e h = e ∙ ap (runs d x i s) h

  pub runs-two : (i s j q : ℕ) → q ≡ runs d x i s j
      → next_in d (next_in d q (get_or x (i + j) 0)) (get_or x (i + j + 1) 0) ≡ runs d x i s (j + 2)
  unfolding runs
  runs-two i s j q e =
      let z : j + 2 ≡ suc (suc j) = omega arith in
      let w : i + j + 1 ≡ i + suc j = omega arith in
      ap₂ (λ (a b : ℕ). next_in d (next_in d a (get_or x (i + j) 0)) (get_or x b 0)) e w ∙ ap (runs d x i s) (sym z)

-- where the state after two bytes is
pub pair_is : (d : List ℕ) (q k b c : ℕ) → k ≡ class_count d
    → get_or d (class_in d b * k + class_in d c + k + 1 + q) 0 ≡ pair_in d q b c
pair_is d q k b c e =
    let z : class_in d b * k + class_in d c + k + 1 + q ≡ q + (k + 1 + (class_in d b * k + class_in d c)) = omega arith in
    ap (λ (n : ℕ). get_or d n 0) z ∙ ap (λ (n : ℕ). get_or d (q + (n + 1 + (class_in d b * n + class_in d c))) 0) e
