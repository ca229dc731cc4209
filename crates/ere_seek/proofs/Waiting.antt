-- The starts before a place: as long as none of them has a match that ended, what may come next after each is among
-- what is pending.
use mathlib.Core.Path.{◌≡◌, refl, sym, ap, ap₂, subst, ◌∙◌}
use mathlib.Core.Bool.{Bool, true, false, cond, ◌&&◌}
use mathlib.Core.Logic.{◌⊎◌, inl, inr, ⊎_elim}
use mathlib.Core.List.{List}
use Prim.Native.Nat.{ℕ, zero, suc, ◌+◌, ◌-◌, ◌/◌, ◌%◌, ◌≤◌, ◌<◌}
use native.Mathlib.Nat.{add-zero, le_refl}
use native.Mathlib.Decide.{dec_lt}
use native.Mathlib.Omega.{arith}
use lib.ListN.{length, get_or}
use lib.Dec.{eqb}
use borrow.Author.Tests.{ne_eqb, eq-eqb, eqb-true}
use Rattle.lists.proofs.Tests.{clash, or_left, or_right}
use Rattle.ere_table.specs.Table.{mem, row, join, no_place, accepts_at}
use Rattle.ere_table.specs.Wiring.{stop_in}
use Rattle.ere_table.proofs.Sets.{mem-join, mem-none}
use Rattle.ere_search.specs.Walk.{step, live_at, longest_to}
use Rattle.ere_search.proofs.Steps.{step_in, step-out, step-none, step-dead}
use Rattle.ere_automaton.specs.Sets.{collapsed}
use Rattle.ere_automaton.specs.Layout.{State, later_state, skips_word, next_in, end_word}
use Rattle.ere_automaton.specs.Automaton.{Ranged, Hull}
use Rattle.ere_automaton.specs.Scan.{runs, ranges_of, Skipped}
use Rattle.ere_automaton.specs.Follows.{FollowsPending, pending_after, places}
use Rattle.ere_automaton.proofs.Absorbing.{collapsed-stops, collapsed-open}
use Rattle.ere_automaton.proofs.Joins.{step-join}
use Rattle.ere_automaton.proofs.Ranging.{skipped-last, skipped-inside}
use Rattle.ere_automaton.proofs.States.{runs-state, runs-two}
use Rattle.ere_seek.specs.Starts.{Bare, Bares, Hulled, entry_state}
use Rattle.ere_seek.specs.Pending.{Ran, Cleared}
use Rattle.ere_seek.proofs.Bareness.{none-empty, none-there, bare-after, bare-end, bares-skipped, bares-both}
use Rattle.ere_seek.proofs.Bareness.{row-later}

-- ---- sets

-- all of u is in v
abbrev Within : List ℕ → List ℕ → Type 0
Within u v = (q : ℕ) → q < 192 → mem u q ≡ true → mem v q ≡ true

within-off : (u v : List ℕ) (q : ℕ) → q < 192 → Within u v → mem v q ≡ false → mem u q ≡ false
within-off u v q h W e = by (mem u q) refl
  where
    by : (y : Bool) → mem u q ≡ y → y ≡ false
    by true m = absurd (clash (sym (W q h m) ∙ e))
    by false m = refl

within_step : (t u v : List ℕ) (b : ℕ) → Within u v → Within (step t u b) (step t v b)
within_step t u v b W q h m =
    let s = step_in t u b q h m in
    step-out t v b q h (s.0, s.1, W s.0 (omega (arith, s.1)) s.2, s.3, s.4)

-- a step from what is pending and from a start there
within-left : (t u v w : List ℕ) (b : ℕ) → Within u v → Within (step t u b) (step t (join v w) b)
within-left t u v w b W q h m =
    ap (λ (l : List ℕ). mem l q) (step-join t v w b)
    ∙ mem-join (step t v b) (step t w b) q h
    ∙ or_left (mem (step t v b) q) (mem (step t w b) q) (within_step t u v b W q h m)

within-right : (t v w : List ℕ) (b : ℕ) → Within (step t w b) (step t (join v w) b)
within-right t v w b q h m =
    ap (λ (l : List ℕ). mem l q) (step-join t v w b)
    ∙ mem-join (step t v b) (step t w b) q h
    ∙ or_right (mem (step t v b) q) (mem (step t w b) q) m

-- no place, so nothing comes next
none-next : (t u : List ℕ) (b : ℕ) → Within u no_place → step t u b ≡ no_place
none-next t u b W =
    step-none t u b (λ p h.
    ap (λ (y : Bool). y && accepts_at t p b) (within-off u no_place p (omega arith) W (mem-none p)))

-- ---- what is pending

module _ (t x : List ℕ) (at s : ℕ) where
  -- of the start k, after n bytes: it has no match, or has none yet and what may come next is in Q
  abbrev Open : ℕ → ℕ → List ℕ → Type 0
  Open k n Q = (Bare t x at k) ⊎ ((longest_to t x at 1 k n ≡ 0) × (Within (live_at t x at k n) Q))

  -- a match has ended; or none has, and Q has what may come next at i after the starts from s on
  abbrev pub Pends : ℕ → List ℕ → Type 0
  Pends i Q =
      (stop_in Q false ≡ true)
      ⊎ ((stop_in Q false ≡ false) × ((k n : ℕ) → s ≤ k → k + suc n ≡ i → Open k (suc n) Q)
      × (at + i ≡ 0 → Q ≡ places (row t 0)))

  module _ (i : ℕ) (Q : List ℕ) (h : i < length x) where
    abbrev b : ℕ
    b = get_or x i 0

    abbrev R : List ℕ
    R = step t (join Q (row t 1)) b

    -- the start at i
    new-start : (at + i ≡ 0 → Q ≡ places (row t 0)) → Within (live_at t x at i 1) R
    unfolding live_at
    new-start e = by (eqb (at + i) 0) refl
      where
        by : (y : Bool) → eqb (at + i) 0 ≡ y → Within (step t (row t (cond y 0 1)) (get_or x (i + 0) 0)) R
        by true z =
            subst (λ (j : ℕ). Within (step t (row t 0) (get_or x j 0)) R) (sym (add-zero i))
            (subst (λ (u : List ℕ). Within (step t (row t 0) b) (step t (join u (row t 1)) b))
            (sym (e (eqb-true (at + i) 0 z)))
            (within-left t (places (row t 0)) (places (row t 0)) (row t 1) b (λ q l m. m)))
        by false z =
            subst (λ (j : ℕ). Within (step t (row t 1) (get_or x j 0)) R) (sym (add-zero i))
            (within-right t Q (row t 1) b)

    -- a start before it
    old-start : stop_in Q false ≡ false → (k n : ℕ) → k + suc n ≡ i → Open k (suc n) Q → Open k (suc (suc n)) R
    unfolding live_at
    old-start o k n e (inl z) = inl z
    old-start o k n e (inr w) =
        let off : stop_in (live_at t x at k (suc n)) (eqb (k + suc n) (length x)) ≡ false =
        ap (stop_in (live_at t x at k (suc n))) (ne_eqb (k + suc n) (length x) (omega arith))
        ∙ within-off (live_at t x at k (suc n)) Q 128 (omega arith) w.1 o in
        inr (
          none-there t x at k (suc n) w.0 off,
          subst (λ (j : ℕ). Within (step t (live_at t x at k (suc n)) (get_or x j 0)) R) (sym e)
              (within-left t (live_at t x at k (suc n)) Q (row t 1) b w.1),
        )

    pub pends-next : Pends i Q → Pends (suc i) (pending_after t Q b)
    unfolding pending_after
    pends-next (inl e) =
        inl (ap (λ (y : Bool). stop_in (cond y Q (collapsed R)) false) e ∙ e)
    pends-next (inr w) =
        subst (Pends (suc i)) (sym (ap (λ (y : Bool). cond y Q (collapsed R)) w.0)) (by (stop_in R false) refl)
      where
        each : (k n : ℕ) → s ≤ k → k + suc n ≡ suc i → Open k (suc n) R
        each k zero l e =
            let z : k ≡ i = omega arith in
            inr (none-empty t x at k, subst (λ (j : ℕ). Within (live_at t x at j 1) R) (sym z) (new-start w.2))
        each k (suc n) l e =
            let z : k + suc n ≡ i = omega arith in
            old-start w.0 k n z (w.1 k n l z)

        by : (y : Bool) → stop_in R false ≡ y → Pends (suc i) (collapsed R)
        by true e = inl (collapsed-stops R false ∙ e)
        by false e =
            subst (Pends (suc i)) (sym (collapsed-open R e)) (inr (e, each, λ z. absurd (omega arith)))

  -- ---- nothing is pending

  none_open : (i k n : ℕ) → i < length x → k + suc n ≡ i → Open k (suc n) no_place → Bare t x at k
  unfolding live_at
  none_open i k n h e (inl z) = z
  none_open i k n h e (inr w) =
      let off : stop_in (live_at t x at k (suc n)) (eqb (k + suc n) (length x)) ≡ false =
      ap (stop_in (live_at t x at k (suc n))) (ne_eqb (k + suc n) (length x) (omega arith))
      ∙ within-off (live_at t x at k (suc n)) no_place 128 (omega arith) w.1 (mem-none 128) in
      bare-after t x at k (suc (suc n)) (omega arith) (none-there t x at k (suc n) w.0 off)
      (none-next t (live_at t x at k (suc n)) (get_or x (k + suc n) 0) w.1)

  -- so no start before i has a match
  pub bares-none : (i : ℕ) (Q : List ℕ) → i < length x → Q ≡ no_place → Pends i Q → Bares t x at s i
  bares-none i Q h e (inl w) k l m = absurd (clash (sym w ∙ ap (λ (u : List ℕ). stop_in u false) e ∙ mem-none 128))
  bares-none i Q h e (inr w) k l m =
      let z : k + suc (i - suc k) ≡ i = omega arith in
      none_open i k (i - suc k) h z (subst (Open k (suc (i - suc k))) e (w.1 k (i - suc k) l z))

  -- nor has the text's start, if it has no place
  bare-start : (i : ℕ) → i < length x → places (row t 0) ≡ no_place → at + i ≡ 0 → Bare t x at i
  unfolding live_at
  bare-start i h e z =
      bare-after t x at i 1 (omega arith) (none-empty t x at i)
      (ap (λ (y : Bool). step t (row t (cond y 0 1)) (get_or x (i + 0) 0)) (eq-eqb (at + i) 0 z)
      ∙ step-dead t (row t 0) (get_or x (i + 0) 0) (ap (λ (u : List ℕ). get_or u 0 0) e)
      (ap (λ (u : List ℕ). get_or u 1 0) e))

  module _ (d : List ℕ) (H : Hull t d) (bytes : (k : ℕ) → get_or x k 0 < 256) (i r : ℕ) (Q : List ℕ) (e : Q ≡ no_place)
      (S : Skipped (ranges_of d) x i r) where
    -- nor have the places that are passed over
    bares-over : Pends i Q → i < r → Bares t x at i r
    bares-over (inl w) h = absurd (clash (sym w ∙ ap (λ (u : List ℕ). stop_in u false) e ∙ mem-none 128))
    bares-over (inr w) h =
        let m = S.short h in
        elim (dec_lt 0 (at + i)) [
          | yes y ↦ bares-skipped t x at d H bytes i r (λ k a b. row-later t (at + k) (omega arith)) S
          | no y ↦
              let z : at + i ≡ 0 = omega arith in
              bares-both t x at i (suc i) r
              (λ k a b.
              let same : i ≡ k = omega arith in
              subst (Bare t x at) same (bare-start i (omega arith) (sym (w.2 z) ∙ e) z))
              (bares-skipped t x at d H bytes (suc i) r (λ k a b. row-later t (at + k) (omega arith))
              (skipped-last (ranges_of d) x i (suc i) r r S (omega arith) h (le_refl r) m))
        ]

    pub pends-skipped : Pends i Q → Pends r Q
    pends-skipped P = elim (dec_lt i r) [
      | yes h ↦
          let m = S.short h in
          let all = bares-both t x at s i r (bares-none i Q (omega arith) e P) (bares-over P h) in
          inr (
            ap (λ (u : List ℕ). stop_in u false) e ∙ mem-none 128,
            (λ k n l z. inl (all k l (omega arith))),
            λ z. absurd (omega arith),
          )
      | no h ↦ let z : i ≡ r = omega (arith, S.on) in subst (λ (j : ℕ). Pends j Q) z P
    ]

  -- ---- the text's end

  end-open : (k n : ℕ) (Q : List ℕ) → stop_in Q true ≡ false → k + suc n ≡ length x → Open k (suc n) Q → Bare t x at k
  end-open k n Q o e (inl z) = z
  end-open k n Q o e (inr w) =
      let off : stop_in (live_at t x at k (suc n)) (eqb (k + suc n) (length x)) ≡ false =
      ap (stop_in (live_at t x at k (suc n))) (eq-eqb (k + suc n) (length x) e)
      ∙ within-off (live_at t x at k (suc n)) Q 129 (omega arith) w.1 o in
      let z : suc (length x - k) ≡ suc (suc n) = omega arith in
      ap (longest_to t x at 1 k) z ∙ none-there t x at k (suc n) w.0 off

  -- no match has ended, and none ends there
  pub bares-end : (Q : List ℕ) → stop_in Q false ≡ false → stop_in Q true ≡ false → Pends (length x) Q
      → Bares t x at s (length x + 1)
  bares-end Q f g (inl w) k l m = absurd (clash (sym w ∙ f))
  bares-end Q f g (inr w) k l m = elim (dec_lt k (length x)) [
    | yes h ↦
        let z : k + suc (length x - suc k) ≡ length x = omega arith in
        end-open k (length x - suc k) Q g z (w.1 k (length x - suc k) l z)
    | no h ↦ bare-end t x at k (omega arith)
  ]

-- ---- by the automaton

-- in the state q at i, no start from s to f has a match
abbrev pub Held : List ℕ → List ℕ → ℕ → Bool → ℕ → ℕ → ℕ → Type 0
Held d x s first q i f =
    (t : List ℕ) (at : ℕ) (D : FollowsPending t d) → Hulled t d → first ≡ eqb (at + s) 0
    → (Pends t x at s i (D.sets q)) × (Bares t x at s f)

module _ (d x : List ℕ) (s : ℕ) (first : Bool) where
  pub held_start : Held d x s first (entry_state d first) s s
  held_start t at D H e = (inr (by first e), λ k l m. absurd (omega arith))
    where
      by : (y : Bool) → y ≡ eqb (at + s) 0 → (stop_in (D.sets (entry_state d y)) false ≡ false)
          × ((k n : ℕ) → s ≤ k → k + suc n ≡ s → Open t x at s k (suc n) (D.sets (entry_state d y)))
          × (at + s ≡ 0 → D.sets (entry_state d y) ≡ places (row t 0))
      by true e = (
        ap (λ (u : List ℕ). stop_in u false) D.starts ∙ mem-none 128,
        (λ k n l z. absurd (omega arith)),
        λ z. D.starts,
      )
      by false e = (
        ap (λ (u : List ℕ). stop_in u false) D.elsewhere ∙ mem-none 128,
        (λ k n l z. absurd (omega arith)),
        λ z. absurd (clash (sym (eq-eqb (at + s) 0 z) ∙ sym e)),
      )

  module _ (bytes : (k : ℕ) → get_or x k 0 < 256) where
    -- past blocks in which no match starts
    pub held-skipped : (q i f r : ℕ) → q ≡ later_state d → eqb (skips_word d) 0 ≡ false → Skipped (ranges_of d) x i r
        → Held d x s first q i f → Held d x s first q r f
    held-skipped q i f r e h S P t at D H z =
        let w = P t at D H z in
        (pends-skipped t x at s d (H h) bytes i r (D.sets q) (ap D.sets e ∙ D.elsewhere) S w.0, w.1)

    -- after some bytes
    pends-runs : (t : List ℕ) (at : ℕ) (D : FollowsPending t d) (i q n : ℕ) → State d q → i + n ≤ length x
        → Pends t x at s i (D.sets q) → Pends t x at s (i + n) (D.sets (runs d x i q n))
    unfolding runs
    pends-runs t at D i q zero S h P = subst (λ (j : ℕ). Pends t x at s j (D.sets q)) (sym (add-zero i)) P
    pends-runs t at D i q (suc n) S h P =
        let r = runs d x i q n in
        let z : suc (i + n) ≡ i + suc n = omega arith in
        subst (λ (j : ℕ). Pends t x at s j (D.sets (runs d x i q (suc n)))) z
        (subst (Pends t x at s (suc (i + n)))
        (sym (D.steps r (get_or x (i + n) 0) (runs-state d D.ranged x bytes i q n S) (bytes (i + n))))
        (pends-next t x at s (i + n) (D.sets r) (omega arith) (pends-runs t at D i q n S (omega arith) P)))

    pub held-ran : (i n q f r g : ℕ) → State d q → i + n ≤ length x → Ran d x i n q f r g
        → Held d x s first q i f → Held d x s first r (i + n) g
    held-ran i n q f r g S h R P t at D H z = (
      subst (λ (y : ℕ). Pends t x at s (i + n) (D.sets y)) (sym R.state) (pends-runs t at D i q n S h w.0),
      ⊎_elim (λ e. subst (Bares t x at s) (sym e) w.1)
          (λ m. subst (Bares t x at s) (sym m.2)
          (bares-none t x at s (i + m.0) (D.sets (runs d x i q m.0)) (omega (arith, m.1))
          (ap D.sets m.3 ∙ D.elsewhere)
          (pends-runs t at D i q m.0 S (omega (arith, m.1)) w.0)))
          R.seen,
    )
      where
        w : (Pends t x at s i (D.sets q)) × (Bares t x at s f)
        w = P t at D H z

  -- a place before which no match starts
  pub held-cleared : (q i f : ℕ) → s ≤ f → f ≤ length x → Held d x s first q i f → Cleared d x s first f
  held-cleared q i f h l P =
      record { on = h; inside = omega arith; none = λ t at D H e. (P t at D H e).1 }

  -- none at all
  pub held_none : (q i f : ℕ) → s ≤ length x → State d q → i ≡ length x → end_word d q ≡ 0 → Held d x s first q i f
      → Cleared d x s first (length x + 1)
  held_none q i f h S e w P =
      record {
        on = omega arith;
        inside = le_refl (length x + 1);
        none = λ t at D H z.
            let bits : get_or (D.sets q) 2 0 % 4 ≡ 0 = sym (D.marks q S) ∙ w in
            let low : get_or (D.sets q) 2 0 / 1 % 2 ≡ 0 = omega arith in
            let high : get_or (D.sets q) 2 0 / 2 % 2 ≡ 0 = omega arith in
            bares-end t x at s (D.sets q) (ap (λ (n : ℕ). eqb n 1) low) (ap (λ (n : ℕ). eqb n 1) high)
            (subst (λ (j : ℕ). Pends t x at s j (D.sets q)) e (P t at D H z).0);
      }

-- ---- the last place where nothing was pending

module _ (d x : List ℕ) (i q f : ℕ) where
  pub ran-none : Ran d x i 0 q f q f
  unfolding runs
  ran-none = record { state = refl; seen = inl refl }

  last-seen : (n r g : ℕ) → Ran d x i n q f r g → (later g' : ℕ) → later ≡ later_state d
      → g' ≡ cond (eqb r later) (i + n) g
      → (m : ℕ) → n < m → (g' ≡ f) ⊎ ((j : ℕ) × (j < m) × (g' ≡ i + j) × (runs d x i q j ≡ later_state d))
  last-seen n r g R later g' e z m h = by (eqb r later) refl (z)
    where
      by : (y : Bool) → eqb r later ≡ y → g' ≡ cond y (i + n) g
          → (g' ≡ f) ⊎ ((j : ℕ) × (j < m) × (g' ≡ i + j) × (runs d x i q j ≡ later_state d))
      by true o w = inr (n, h, w, sym R.state ∙ eqb-true r later o ∙ e)
      by false o w =
          ⊎_elim (λ v. inl (w ∙ v)) (λ v. inr (v.0, omega (arith, v.1), w ∙ v.2, v.3)) R.seen

  pub ran-byte : (n r g : ℕ) → Ran d x i n q f r g → (later g' b : ℕ) → later ≡ later_state d
      → g' ≡ cond (eqb r later) (i + n) g → b ≡ get_or x (i + n) 0 → Ran d x i (suc n) q f (next_in d r b) g'
  unfolding runs
  ran-byte n r g R later g' b e z w =
      record {
        state = ap₂ (next_in d) R.state w;
        seen = last-seen n r g R later g' e z (suc n) (le_refl (suc n));
      }

  pub ran-two : (n r g : ℕ) → Ran d x i n q f r g → (later g' : ℕ) → later ≡ later_state d
      → g' ≡ cond (eqb r later) (i + n) g
      → Ran d x i (n + 2) q f (next_in d (next_in d r (get_or x (i + n) 0)) (get_or x (i + n + 1) 0)) g'
  ran-two n r g R later g' e z =
      record {
        state = runs-two d x i q n r R.state;
        seen = last-seen n r g R later g' e z (n + 2) (omega arith);
      }

  -- the same, by the place
  pub ran-at : (j r g : ℕ) → i ≤ j → Ran d x i (j - i) q f r g → (later g' r' : ℕ) → later ≡ later_state d
      → g' ≡ cond (eqb r later) j g → r' ≡ next_in d r (get_or x j 0) → Ran d x i (j + 1 - i) q f r' g'
  ran-at j r g h R later g' r' e z w =
      let a : suc (j - i) ≡ j + 1 - i = omega arith in
      let b : j ≡ i + (j - i) = omega arith in
      subst (λ (n : ℕ). Ran d x i n q f r' g') a
      (subst (λ (y : ℕ). Ran d x i (suc (j - i)) q f y g') (sym w)
      (ran-byte (j - i) r g R later g' (get_or x j 0) e (z ∙ ap (λ (m : ℕ). cond (eqb r later) m g) b)
      (ap (λ (m : ℕ). get_or x m 0) b)))

-- ---- a turn

-- q is the state at i, and no start from s to f has a match
pub record Kept (d x : List ℕ) (s : ℕ) (first : Bool) (q i f : ℕ) : Type 0 where
  pub state : State d q
  pub on : s ≤ i
  pub inside : i ≤ length x
  pub from : s ≤ f
  pub to : f ≤ length x
  pub held : Held d x s first q i f

module _ (d x : List ℕ) (bytes : (k : ℕ) → get_or x k 0 < 256) (s : ℕ) (first : Bool) where
  pub kept-start : (q : ℕ) → Ranged d → s ≤ length x → q ≡ entry_state d first → Kept d x s first q s s
  kept-start q R h e =
      subst (λ (y : ℕ). Kept d x s first y s s) (sym e)
      (record {
        state = by first;
        on = le_refl s;
        inside = h;
        from = le_refl s;
        to = h;
        held = held_start d x s first;
      })
    where
      by : (y : Bool) → State d (entry_state d y)
      by true = R.first
      by false = R.later

  pub kept-skipped : (q i f r j : ℕ) → q ≡ later_state d → eqb (skips_word d) 0 ≡ false → Skipped (ranges_of d) x i r
      → j ≡ r → Kept d x s first q i f → Kept d x s first q j f
  kept-skipped q i f r j e h S z K =
      subst (λ (y : ℕ). Kept d x s first q y f) (sym z)
      (record {
        state = K.state;
        on = omega (arith, K.on, S.on);
        inside = skipped-inside (ranges_of d) x i r S K.inside;
        from = K.from;
        to = K.to;
        held = held-skipped d x s first bytes q i f r e h S K.held;
      })

  pub kept-ran : (i n q f r g : ℕ) → Ranged d → i + n ≤ length x → Ran d x i n q f r g → Kept d x s first q i f
      → Kept d x s first r (i + n) g
  kept-ran i n q f r g R h A K =
      record {
        state = subst (State d) (sym A.state) (runs-state d R x bytes i q n K.state);
        on = omega (arith, K.on);
        inside = h;
        from = ⊎_elim (λ e. omega (arith, K.from)) (λ m. omega (arith, m.2, K.on)) A.seen;
        to = ⊎_elim (λ e. omega (arith, K.to)) (λ m. omega (arith, m.1, m.2)) A.seen;
        held = held-ran d x s first bytes i n q f r g K.state h A K.held;
      }

  -- what was seen
  pub kept-cleared : (q i f : ℕ) → Kept d x s first q i f → Cleared d x s first f
  kept-cleared q i f K = held-cleared d x s first q i f K.from K.to K.held

  -- at the text's end, no match has ended
  pub kept-none : (q i f : ℕ) → i ≡ length x → end_word d q ≡ 0 → Kept d x s first q i f
      → Cleared d x s first (length x + 1)
  kept-none q i f e w K =
      held_none d x s first q i f (omega (arith, K.on)) K.state e w K.held
