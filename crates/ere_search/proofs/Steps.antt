-- The laws of a step.
use mathlib.Core.Path.{◌≡◌, refl, sym, ap, ap₂, subst, ◌∙◌}
use mathlib.Core.Bool.{Bool, true, false, true≢false, cond, ◌&&◌, ◌||◌}
use mathlib.Core.List.{List}
use Prim.Native.Nat.{ℕ, zero, suc, ◌+◌, ◌-◌, ◌*◌, ◌/◌, ◌%◌, ◌^◌, ◌<◌}
use mathlib.Core.Logic.{◌⊎◌, inl, inr, ⊎_elim}
use native.Mathlib.Nat.{le_refl, le_of_suc-le-suc, eq-or-lt_of_le, mod-lt}
use native.Mathlib.Omega.{arith}
use lib.ListN.{get_or}
use lib.Count.{count_trailing_zeros}
use Rattle.lists.proofs.Tests.{or_cases, or_left, or_right, and-true, and-of}
use Rattle.lists.specs.Digit.{bit}
use Rattle.ere_table.specs.Table.{mem, row, accepts_at, join, no_place}
use Rattle.ere_search.specs.Walk.{step_word, put, step}
use Rattle.ere_search.proofs.Trailing.{tz-low, tz-high, off-low, off-high, mem_word}
use Rattle.lists.proofs.Digits.{word-pow, bit-zero}
use Rattle.ere_table.proofs.Sets.{mem-none, mem-cond, or-none}

-- ---- a word's places, the lowest first

-- digits that are not set, or whose places do not take b, add nothing
pub word_none : (t : List ℕ) (b x w : ℕ) (start : List ℕ) (n : ℕ) → ((j : ℕ) → j < n → (bit x j && accepts_at t (64 * w + j) b) ≡ false)
    → step_word t b x w start n ≡ start
unfolding step_word
word_none t b x w start zero h = refl
word_none t b x w start (suc n) h = one (bit x n) (accepts_at t (64 * w + n) b) (h n (le_refl (suc n))) ∙ word_none t b x w start n (λ j g. h j (omega arith))
  where
    out : List ℕ
    out = step_word t b x w start n

    one : (c d : Bool) → (c && d) ≡ false → cond c (cond d (join out (row t (64 * w + n + 2))) out) out ≡ out
    one true true e = absurd (true≢false e)
    one true false e = refl
    one false d e = refl

-- the lowest first, then those of the rest
module _ (t : List ℕ) (b w : ℕ) (out : List ℕ) (x : ℕ) (h : count_trailing_zeros 64 x < 64) where
  abbrev k : ℕ
  k = count_trailing_zeros 64 x

  abbrev new : List ℕ
  new = put t out b (64 * w + k)

  word-taken : (n : ℕ) → k < n → step_word t b x w out n ≡ step_word t b (x - 2 ^ k) w new n
  unfolding step_word
  word-taken zero g = absurd (omega arith)
  word-taken (suc n) g = ⊎_elim here (λ l. rw (word-taken n l, off-high x h n l)) (eq-or-lt_of_le (le_of_suc-le-suc g))
    where
      here : k ≡ n → step_word t b x w out (suc n) ≡ step_word t b (x - 2 ^ k) w new (suc n)
      here e =
          let on : bit x n ≡ true = ap (bit x) (sym e) ∙ tz-high 64 x h in
          let low : step_word t b x w out n ≡ out = word_none t b x w out n (λ j l. rw (tz-low 64 x j (omega arith))) in
          rw on (ap₂ (λ (o : List ℕ) (i : ℕ). put t o b (64 * w + i)) low (sym e) ∙ sym (word_none t b (x - 2 ^ k) w new (suc n) (λ j l. rw (off-low x h j (omega arith)))))

  pub word_more : (r : List ℕ) (v : ℕ) → r ≡ put t out b (64 * w + k) → v ≡ 1 * 2 ^ k % 2 ^ 64 → step_word t b (x - v) w r 64 ≡ step_word t b x w out 64
  word_more r v e z = ap₂ (λ (y : ℕ) (o : List ℕ). step_word t b (x - y) w o 64) (z ∙ word-pow k h) e ∙ sym (word-taken 64 h)

pub word_end : (t : List ℕ) (b w : ℕ) (out : List ℕ) (x : ℕ) → x ≡ 0 → step_word t b x w out 64 ≡ out
word_end t b w out x z = word_none t b x w out 64 (λ j g. rw (z, bit-zero j))

-- ---- members

-- q comes next after a place below digit n of the word that takes b
abbrev Word : List ℕ → ℕ → ℕ → ℕ → ℕ → ℕ → Type 0
Word t b x w n q = (k : ℕ) × (k < n) × (bit x k ≡ true) × (accepts_at t (64 * w + k) b ≡ true) × (mem (row t (64 * w + k + 2)) q ≡ true)

module _ (t : List ℕ) (b x w : ℕ) (start : List ℕ) (q : ℕ) (hq : q < 192) where
  widen : {n : ℕ} → Word t b x w n q → Word t b x w (suc n) q
  widen s = (s.0, omega (arith, s.1), s.2, s.3, s.4)

  more : (n : ℕ) → mem (step_word t b x w start (suc n)) q ≡ (mem (step_word t b x w start n) q || (bit x n && (accepts_at t (64 * w + n) b && mem (row t (64 * w + n + 2)) q)))
  unfolding step_word
  more n = pick (bit x n)
    where
      out : List ℕ
      out = step_word t b x w start n

      pick : (c : Bool) → mem (cond c (put t out b (64 * w + n)) out) q ≡ (mem out q || (c && (accepts_at t (64 * w + n) b && mem (row t (64 * w + n + 2)) q)))
      pick true = mem-cond (accepts_at t (64 * w + n) b) out (row t (64 * w + n + 2)) q hq
      pick false = or-none (mem out q)

  pub word_in : (n : ℕ) → mem (step_word t b x w start n) q ≡ true → (mem start q ≡ true) ⊎ (Word t b x w n q)
  unfolding step_word
  word_in zero h = inl h
  word_in (suc n) h = ⊎_elim (λ k. ⊎_elim inl (λ s. inr (widen s)) (word_in n k)) new (or_cases _ _ (sym (more n) ∙ h))
    where
      new : (bit x n && (accepts_at t (64 * w + n) b && mem (row t (64 * w + n + 2)) q)) ≡ true → (mem start q ≡ true) ⊎ (Word t b x w (suc n) q)
      new k = let l = and-true _ _ k in let m = and-true _ _ l.1 in inr (n, le_refl (suc n), l.0, m.0, m.1)

  pub word_keeps : (n : ℕ) → mem start q ≡ true → mem (step_word t b x w start n) q ≡ true
  unfolding step_word
  word_keeps zero h = h
  word_keeps (suc n) h = more n ∙ or_left _ _ (word_keeps n h)

  pub word_out : (n : ℕ) → Word t b x w n q → mem (step_word t b x w start n) q ≡ true
  word_out zero s = absurd (omega (arith, s.1))
  word_out (suc n) s =
      more n
      ∙ ⊎_elim
      (λ e. or_right (mem (step_word t b x w start n) q) _
      (and-of (bit x n) _ (rw e at s.2) (and-of (accepts_at t (64 * w + n) b) _ (rw e at s.3) (rw e at s.4))))
      (λ h. or_left _ _ (word_out n (s.0, h, s.2, s.3, s.4))) (eq-or-lt_of_le (le_of_suc-le-suc s.1))

-- q comes next after a place of live that takes b
abbrev pub Stepped : List ℕ → List ℕ → ℕ → ℕ → Type 0
Stepped t live b q = (p : ℕ) × (p < 128) × (mem live p ≡ true) × (accepts_at t p b ≡ true) × (mem (row t (p + 2)) q ≡ true)

module _ (t live : List ℕ) (b q : ℕ) (hq : q < 192) where
  half : (w : ℕ) → w < 2 → Word t b (get_or live w 0) w 64 q → Stepped t live b q
  half w h s = (64 * w + s.0, omega (arith, s.1), mem_word live w s.0 s.1 ∙ s.2, s.3, s.4)

  pub step_in : mem (step t live b) q ≡ true → Stepped t live b q
  step_in h =
      ⊎_elim
      (λ l. ⊎_elim (λ z. absurd (true≢false (sym z ∙ mem-none q))) (half 0 (omega arith)) (word_in t b (get_or live 0 0) 0 no_place q hq 64 l))
      (half 1 (omega arith))
      (word_in t b (get_or live 1 0) 1 (step_word t b (get_or live 0 0) 0 no_place 64) q hq 64 h)

  pub step-out : Stepped t live b q → mem (step t live b) q ≡ true
  step-out s = by (s.0 / 64) refl
    where
      p : ℕ
      p = s.0

      word : (w : ℕ) → s.0 / 64 ≡ w → Word t b (get_or live w 0) w 64 q
      word w e =
          let k = s.0 % 64 in
          let l : k < 64 = mod-lt s.0 (omega arith) in
          let z : s.0 ≡ 64 * w + k = omega arith in
          (k, l, sym (mem_word live w k l) ∙ subst (λ (y : ℕ). mem live y ≡ true) z s.2, subst (λ (y : ℕ). accepts_at t y b ≡ true) z s.3, subst (λ (y : ℕ). mem (row t (y + 2)) q ≡ true) z s.4)

      by : (w : ℕ) → s.0 / 64 ≡ w → mem (step t live b) q ≡ true
      by zero e =
          word_keeps t b (get_or live 1 0) 1 (step_word t b (get_or live 0 0) 0 no_place 64) q hq 64
          (word_out t b (get_or live 0 0) 0 no_place q hq 64 (word 0 e))
      by (suc zero) e = word_out t b (get_or live 1 0) 1 (step_word t b (get_or live 0 0) 0 no_place 64) q hq 64 (word 1 e)
      by (suc (suc w)) e = absurd (omega (arith, s.1))

-- ---- steps that lead nowhere

-- no place of live takes b
pub step-none : (t live : List ℕ) (b : ℕ) → ((p : ℕ) → p < 128 → (mem live p && accepts_at t p b) ≡ false) → step t live b ≡ no_place
step-none t live b h =
    word_none t b (get_or live 1 0) 1 (step_word t b (get_or live 0 0) 0 no_place 64) 64 (off 1 (omega arith))
    ∙ word_none t b (get_or live 0 0) 0 no_place 64 (off 0 (omega arith))
  where
    off : (w : ℕ) → w < 2 → (j : ℕ) → j < 64 → (bit (get_or live w 0) j && accepts_at t (64 * w + j) b) ≡ false
    off w l j g = ap (λ (x : Bool). x && accepts_at t (64 * w + j) b) (sym (mem_word live w j g)) ∙ h (64 * w + j) (omega arith)

-- no place is live
pub step-dead : (t live : List ℕ) (b : ℕ) → get_or live 0 0 ≡ 0 → get_or live 1 0 ≡ 0 → step t live b ≡ no_place
step-dead t live b h k =
    word_none t b (get_or live 1 0) 1 (step_word t b (get_or live 0 0) 0 no_place 64) 64 (λ j g. rw (k, bit-zero j))
    ∙ word_none t b (get_or live 0 0) 0 no_place 64 (λ j g. rw (h, bit-zero j))
