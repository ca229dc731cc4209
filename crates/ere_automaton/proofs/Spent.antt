-- Where each match ends at the text's end and has few bytes, the last bytes tell: of the starts before them nothing is
-- left.
use Rattle.std.proofs.Common.{◌≡◌, ℕ, zero, suc, ◌+◌, ◌/◌, ◌%◌, ◌<◌, Bool, false, ◌&&◌, ◌||◌, List, [], ◌∷◌, length, get_or, drop, sym, refl, ap, ◌∙◌, subst, ap₂, arith, drop-cons}
use lib.Bits.{bit_or, or_zero_l}
use Rattle.lists.specs.Digit.{bit}
use Rattle.lists.proofs.Digits.{bit-zero}
use Rattle.ere_table.specs.Table.{mem, row, join, no_place, accepts_at}
use Rattle.ere_table.specs.Wiring.{stop_in}
use Rattle.ere_table.proofs.Sets.{mem-join}
use Rattle.ere_search.specs.Walk.{step}
use Rattle.ere_search.proofs.Steps.{step-none}
use Rattle.ere_automaton.specs.Sets.{collapsed, after, walk, spent}
use Rattle.ere_automaton.specs.Layout.{first_state, later_state, reach_word}
use Rattle.ere_automaton.specs.Automaton.{Drives}
use Rattle.ere_automaton.proofs.Absorbing.{collapsed-open, after_open}
use Rattle.ere_automaton.proofs.Joins.{three, join-right, join-none, step-join}

-- no word has anything
abbrev pub Bare : List ℕ → Type 0
Bare s = (get_or s 0 0 ≡ 0) × (get_or s 1 0 ≡ 0) × (get_or s 2 0 ≡ 0)

pub bare-none : Bare no_place
bare-none = (refl, refl, refl)

bare-join : (a s : List ℕ) → Bare a → join a s ≡ join no_place s
bare-join a s z =
    three (ap (λ (w : ℕ). bit_or w (get_or s 0 0)) z.0) (ap (λ (w : ℕ). bit_or w (get_or s 1 0)) z.1)
    (ap (λ (w : ℕ). bit_or w (get_or s 2 0)) z.2)

module _ (t : List ℕ) where
  pub bare_step : (s : List ℕ) → Bare s → (b : ℕ) → step t s b ≡ no_place
  bare_step s z b = step-none t s b (λ p h. ap (λ (x : Bool). x && accepts_at t p b) (none p h))
    where
      word : (k : ℕ) → k < 2 → get_or s k 0 ≡ 0
      word zero l = z.0
      word (suc zero) l = z.1
      word (suc (suc k)) l = absurd (omega arith)

      none : (p : ℕ) → p < 128 → mem s p ≡ false
      none p h = ap (λ (w : ℕ). bit w (p % 64)) (word (p / 64) (omega arith)) ∙ bit-zero (p % 64)

  bare-stop : (s : List ℕ) → Bare s → stop_in s false ≡ false
  bare-stop s z = ap (λ (w : ℕ). bit w 0) z.2 ∙ bit-zero 0

  pub spent-bare : (n : ℕ) (s : List ℕ) → Bare s → spent t n s
  unfolding spent
  spent-bare zero s z = z
  spent-bare (suc n) s z =
      (bare-stop s z, λ b h. subst (spent t n) (sym (bare_step s z b)) (spent-bare n no_place bare-none))

  pub spent-more : (n : ℕ) (s : List ℕ) → spent t n s → spent t (suc n) s
  unfolding spent
  spent-more zero s p = spent-bare 1 s p
  spent-more (suc n) s p = (p.0, λ b h. spent-more n (step t s b) (p.1 b h))

  spent-stop : (n : ℕ) (s : List ℕ) → spent t n s → stop_in s false ≡ false
  unfolding spent
  spent-stop zero s p = bare-stop s p
  spent-stop (suc n) s p = p.0

  spent-join : (n : ℕ) (a c : List ℕ) → spent t n a → spent t n c → spent t n (join a c)
  unfolding spent
  spent-join zero a c p q = (
    ap₂ bit_or p.0 q.0 ∙ or_zero_l 0,
    ap₂ bit_or p.1 q.1 ∙ or_zero_l 0,
    ap₂ bit_or p.2 q.2 ∙ or_zero_l 0,
  )
  spent-join (suc n) a c p q = (
    mem-join a c 128 (omega arith) ∙ ap₂ ◌||◌ p.0 q.0,
    λ b h. subst (spent t n) (sym (step-join t a c b)) (spent-join n (step t a b) (step t c b) (p.1 b h) (q.1 b h)),
  )

  spent-step : (n : ℕ) (s : List ℕ) (b : ℕ) → b < 256 → spent t (suc n) s → spent t n (step t s b)
  unfolding spent
  spent-step n s b h p = p.1 b h

  -- a match has at most m bytes
  module _ (m : ℕ) (first : spent t (suc m) (row t 0)) (later : spent t (suc m) (row t 1)) where
    abbrev R : List ℕ
    R = row t 1

    after_is : (s : List ℕ) (b : ℕ) → b < 256 → spent t (suc m) s → after t s b ≡ join (step t s b) R
    after_is s b h p =
        after_open t s (spent-stop (suc m) s p) b
        ∙ collapsed-open (join (step t s b) R)
        (mem-join (step t s b) R 128 (omega arith)
        ∙ ap₂ ◌||◌ (spent-stop m (step t s b) (spent-step m s b h p)) (spent-stop (suc m) R later))

    module _ (x : List ℕ) (bytes : (k : ℕ) → get_or x k 0 < 256) where
      walk-on : (s : List ℕ) (i : ℕ) → i < length x → spent t (suc m) s
          → walk t s (drop i x) ≡ walk t (join (step t s (get_or x i 0)) R) (drop (suc i) x)
      unfolding walk
      walk-on s i h p =
          ap (walk t s) (drop-cons x i 0 h)
          ∙ ap (λ (u : List ℕ). walk t u (drop (suc i) x)) (after_is s (get_or x i 0) (bytes i) p)

      -- what is left of the set p is nothing at the text's end
      fade : (n i : ℕ) (p s : List ℕ) → i + n ≡ length x → spent t n p → spent t (suc m) s → spent t (suc m) p
          → join no_place s ≡ s → walk t (join p s) (drop i x) ≡ walk t s (drop i x)
      unfolding spent
      fade zero i p s e a c g w = ap (λ (u : List ℕ). walk t u (drop i x)) (bare-join p s a ∙ w)
      fade (suc n) i p s e a c g w =
          let b = get_or x i 0 in
          let h : i < length x = omega arith in
          let p' = step t p b in
          let s' = join (step t s b) R in
          let still = spent-join (suc m) (step t s b) R (spent-more m (step t s b) (spent-step m s b (bytes i) c)) later in
          walk-on (join p s) i h (spent-join (suc m) p s g c)
          ∙ ap (λ (u : List ℕ). walk t (join u R) (drop (suc i) x)) (step-join t p s b)
          ∙ ap (λ (u : List ℕ). walk t u (drop (suc i) x)) (sym (join-right p' (step t s b) R))
          ∙ fade n (suc i) p' s' (omega arith) (a.1 b (bytes i)) still
          (spent-more m p' (spent-step m p b (bytes i) g)) (join-none s')
          ∙ sym (walk-on s i h c)

      -- what the starts before i have left
      abbrev Before : ℕ → Type 0
      Before i = (p : List ℕ) × (spent t m p) × (walk t (row t 0) x ≡ walk t (join p R) (drop i x))

      before : (i : ℕ) → i < length x → Before (suc i)
      before zero h =
          (step t (row t 0) (get_or x 0 0), spent-step m (row t 0) (get_or x 0 0) (bytes 0) first, walk-on (row t 0) 0 h first)
      before (suc i) h =
          let B = before i (omega arith) in
          let all = spent-join (suc m) B.0 R (spent-more m B.0 B.1) later in (
            step t (join B.0 R) (get_or x (suc i) 0),
            spent-step m (join B.0 R) (get_or x (suc i) 0) (bytes (suc i)) all,
            B.2 ∙ walk-on (join B.0 R) (suc i) h all,
          )

      last-bytes : (i : ℕ) → suc i + m ≡ length x → walk t (row t 0) x ≡ walk t R (drop (suc i) x)
      last-bytes i h =
          let B = before i (omega arith) in
          B.2 ∙ fade m (suc i) B.0 R h B.1 later (spent-more m B.0 B.1) (join-none R)

-- where nothing starts, nothing comes of nothing
module _ (t : List ℕ) (fixed : row t 1 ≡ no_place) where
  after_none : (b : ℕ) → after t no_place b ≡ no_place
  after_none b =
      after_open t no_place (bare-stop t no_place bare-none) b
      ∙ ap₂ (λ (u v : List ℕ). collapsed (join u v)) (bare_step t no_place bare-none b) fixed
      ∙ ap collapsed (join-none no_place)
      ∙ collapsed-open no_place (bare-stop t no_place bare-none)

  pub collapsed-none : collapsed (row t 1) ≡ no_place
  collapsed-none = ap collapsed fixed ∙ collapsed-open no_place (bare-stop t no_place bare-none)

  pub walk_none : (l : List ℕ) → walk t no_place l ≡ no_place
  unfolding walk
  walk_none [] = refl
  walk_none (b ∷ l) = ap (λ (u : List ℕ). walk t u l) (after_none b) ∙ walk_none l

-- the walk over the last bytes ends where that over the whole text ends
pub reach-left : (d x : List ℕ) → ((k : ℕ) → get_or x k 0 < 256) → (m i : ℕ) → reach_word d ≡ suc m
    → suc i + m ≡ length x → (t : List ℕ) (D : Drives t d)
    → walk t (D.sets (later_state d)) (drop (suc i) x) ≡ walk t (D.sets (first_state d)) x
reach-left d x bytes m i e h t D =
    let S = D.hull.reach m e in
    let first = S.0 in
    let later = S.1 in
    ap (λ (u : List ℕ). walk t u (drop (suc i) x))
    (D.later ∙ collapsed-open (row t 1) (spent-stop t (suc m) (row t 1) later))
    ∙ sym (last-bytes t m first later x bytes i h)
    ∙ ap (λ (u : List ℕ). walk t u x)
    (sym (D.first ∙ collapsed-open (row t 0) (spent-stop t (suc m) (row t 0) first)))
