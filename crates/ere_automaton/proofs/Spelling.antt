-- A word: a match is where its tests are passed.
use Rattle.std.proofs.Common.{◌≡◌, ℕ, zero, suc, ◌+◌, ◌-◌, ◌/◌, ◌%◌, ◌<◌, ◌≤◌, Bool, true, false, cond, not, ◌&&◌, ◌||◌, eqb, ltb, leb, ◌⊎◌, List, length, get_or, sym, refl, ap, ◌∙◌, subst, ap₂, inl, inr, ⊎_elim, true≢false, le_refl, zero-add, arith, ltb-false, eq-eqb, ne_eqb, eqb-true, le-leb, leb-true}
use native.Mathlib.Decide.{ℕ_discrete, dec_lt}
use borrow.Author.Tests.{lt-leb}
use Rattle.lists.proofs.Tests.{and-true, and-of, or_cases, or-false, same_test}
use Rattle.ere_table.specs.Table.{row, no_place}
use Rattle.ere_table.specs.Wiring.{stop_in}
use Rattle.ere_table.proofs.Sets.{mem-none}
use Rattle.ere_search.specs.Walk.{step, live_at, entry_row}
use Rattle.ere_exists.specs.Any.{Exists}
use Rattle.ere_exists.proofs.Anywhere.{all_at, all_in, all-out, ends}
use Rattle.ere_exists.proofs.Anywhere.{yes as stops-early}
use Rattle.ere_automaton.specs.Layout.{test_byte, test_place, test_count, last_place, range_at}
use Rattle.ere_automaton.specs.Words.{allows, closing, fits, Word, passes, passed, tried, is_here, here_in, Looked}
use Rattle.ere_automaton.proofs.Spent.{bare-none, bare_step}

-- ---- tests

module _ (d x : List ℕ) (p : ℕ) where
  -- all are passed where each is
  passed-each : (m : ℕ) → passed d x p m ≡ true → (k : ℕ) → k < m → passes d x p k ≡ true
  unfolding passed
  passed-each zero e k h = absurd (omega arith)
  passed-each (suc m) e k h =
      let f = and-true (passed d x p m) (passes d x p m) e in
      elim (ℕ_discrete k m) [
        | yes z ↦ subst (λ (j : ℕ). passes d x p j ≡ true) (sym z) f.1
        | no z ↦ passed-each m f.0 k (omega arith)
      ]

  each-passed : (m : ℕ) → ((k : ℕ) → k < m → passes d x p k ≡ true) → passed d x p m ≡ true
  unfolding passed
  each-passed zero e = refl
  each-passed (suc m) e =
      and-of (passed d x p m) (passes d x p m) (each-passed m (λ k h. e k (omega arith))) (e m (le_refl (suc m)))

  -- as they are made
  pub two-passed : {a b : Bool} → a ≡ passes d x p 0 → b ≡ passes d x p 1 → (a && b) ≡ passed d x p 2
  unfolding passed
  two-passed e f = ap₂ ◌&&◌ e f

  pub more-passed : (m : ℕ) {a b : Bool} → a ≡ passed d x p m → b ≡ passes d x p m → (a && b) ≡ passed d x p (suc m)
  unfolding passed
  more-passed m e f = ap₂ ◌&&◌ e f

  pub two-tried : (n : ℕ) {r : Bool} → n ≤ 2 → r ≡ passed d x p 2 → r ≡ passed d x p (tried n)
  two-tried n h e = e ∙ ap (λ (y : Bool). passed d x p (cond y 2 (cond (leb n 5) 5 7))) (sym (le-leb n 2 h))

  pub five-tried : (n : ℕ) {r : Bool} → 2 < n → n ≤ 5 → r ≡ passed d x p 5 → r ≡ passed d x p (tried n)
  five-tried n l h e =
      e ∙ ap₂ (λ (y z : Bool). passed d x p (cond y 2 (cond z 5 7))) (sym (lt-leb n 2 l)) (sym (le-leb n 5 h))

  pub all-tried : (n : ℕ) {r : Bool} → 2 < n → 5 < n → r ≡ passed d x p 7 → r ≡ passed d x p (tried n)
  all-tried n l h e =
      e ∙ ap₂ (λ (y z : Bool). passed d x p (cond y 2 (cond z 5 7))) (sym (lt-leb n 2 l)) (sym (lt-leb n 5 h))

module _ (d : List ℕ) (q b : ℕ) where
  -- what each test allows, all do
  pub each-allows : (m : ℕ) → ((k : ℕ) → k < m → test_place d k ≡ q → eqb b (test_byte d k) ≡ true) → allows d m q b ≡ true
  unfolding allows
  each-allows zero e = refl
  each-allows (suc m) e =
      and-of (allows d m q b) _ (each-allows m (λ k h. e k (omega arith))) (by (eqb b (test_byte d m)) refl)
    where
      by : (z : Bool) → eqb b (test_byte d m) ≡ z → (not (eqb (test_place d m) q) || z) ≡ true
      by true f = or-true (not (eqb (test_place d m) q))
        where
          or-true : (y : Bool) → (y || true) ≡ true
          or-true true = refl
          or-true false = refl
      by false f =
          elim (ℕ_discrete (test_place d m) q) [
            | yes z ↦ absurd (true≢false (sym (e m (le_refl (suc m)) z) ∙ f))
            | no z ↦ ap (λ (y : Bool). not y || false) (ne_eqb (test_place d m) q z)
          ]

  pub allows-each : (m : ℕ) → allows d m q b ≡ true → (k : ℕ) → k < m → test_place d k ≡ q → eqb b (test_byte d k) ≡ true
  unfolding allows
  allows-each zero e k h is = absurd (omega arith)
  allows-each (suc m) e k h is =
      let f = and-true (allows d m q b) _ e in
      elim (ℕ_discrete k m) [
        | yes z ↦
            subst (λ (j : ℕ). eqb b (test_byte d j) ≡ true) (sym z)
            (sym (ap (λ (y : Bool). not y || eqb b (test_byte d m)) (eq-eqb (test_place d m) q (ap (test_place d) (sym z) ∙ is))) ∙ f.1)
        | no z ↦ allows-each m f.0 k (omega arith) is
      ]

-- the tests that are not made repeat the first
tried-all : (n k : ℕ) → k < 7 → tried n ≤ k → n ≤ k
tried-all n k h l = by (leb n 2) (leb n 5) refl refl l
  where
    by : (y z : Bool) → leb n 2 ≡ y → leb n 5 ≡ z → cond y 2 (cond z 5 7) ≤ k → n ≤ k
    by true z e f m = omega (arith, leb-true n 2 e)
    by false true e f m = omega (arith, leb-true n 5 f)
    by false false e f m = absurd (omega arith)

tried-low : (n k : ℕ) → k < tried n → k < 7
tried-low n k l = by (leb n 2) (leb n 5) l
  where
    by : (y z : Bool) → k < cond y 2 (cond z 5 7) → k < 7
    by true z m = omega arith
    by false true m = omega arith
    by false false m = m

some-tried : (n : ℕ) → 0 < tried n
some-tried n = by (leb n 2) (leb n 5)
  where
    by : (y z : Bool) → 0 < cond y 2 (cond z 5 7)
    by true z = omega arith
    by false true = omega arith
    by false false = omega arith

-- ---- the last byte

-- one byte
pub closing-one : (d : List ℕ) (b : ℕ) → b < 256 → ltb 255 (get_or d range_at 0) ≡ false
    → eqb b (get_or d range_at 0 % 256) ≡ closing d b
closing-one d b h e =
    let w = get_or d range_at 0 in
    let l = ltb-false 255 w e in
    same_test (eqb b (w % 256)) (closing d b)
    (λ f. let z = eqb-true b (w % 256) f in le-leb ((b + 256 - w % 256) % 256) (w / 256) (omega arith))
    (λ f. let z = leb-true ((b + 256 - w % 256) % 256) (w / 256) f in eq-eqb b (w % 256) (omega arith))

-- ---- the word at a place

-- n bytes from p on may be those of the word
unfoldable stands : List ℕ → List ℕ → ℕ → ℕ → Bool
stands d x p zero = true
stands d x p (suc n) = stands d x p n && fits d n (get_or x (p + n) 0)

module _ (d x : List ℕ) (p : ℕ) where
  stands-each : (n : ℕ) → stands d x p n ≡ true → (q : ℕ) → q < n → fits d q (get_or x (p + q) 0) ≡ true
  unfolding stands
  stands-each zero e q h = absurd (omega arith)
  stands-each (suc n) e q h =
      let f = and-true (stands d x p n) (fits d n (get_or x (p + n) 0)) e in
      elim (ℕ_discrete q n) [
        | yes z ↦ subst (λ (k : ℕ). fits d k (get_or x (p + k) 0) ≡ true) (sym z) f.1
        | no z ↦ stands-each n f.0 q (omega arith)
      ]

  each_stands : (n : ℕ) → ((q : ℕ) → q < n → fits d q (get_or x (p + q) 0) ≡ true) → stands d x p n ≡ true
  unfolding stands
  each_stands zero e = refl
  each_stands (suc n) e =
      and-of (stands d x p n) _ (each_stands n (λ q h. e q (omega arith))) (e n (le_refl (suc n)))

module _ (t d x : List ℕ) (W : Word t d) (p : ℕ) where
  abbrev last : ℕ
  last = last_place d

  abbrev at : ℕ → ℕ
  at q = get_or x (p + q) 0

  every : passed d x p (tried (test_count d)) ≡ true → (k : ℕ) → k < 7 → passes d x p k ≡ true
  every e k h =
      elim (dec_lt k (tried (test_count d))) [
        | yes l ↦ passed-each d x p (tried (test_count d)) e k l
        | no l ↦
            let w = W.again k (tried-all (test_count d) k h (omega arith)) h in
            ap (λ (u : ℕ). eqb (get_or x (p + u / 256) 0) (u % 256)) w
            ∙ passed-each d x p (tried (test_count d)) e 0 (some-tried (test_count d))
      ]

  fits_last : (q : ℕ) → q ≡ last → fits d q (at q) ≡ closing d (at q)
  fits_last q z = ap (λ (y : Bool). cond y (closing d (at q)) (allows d 7 q (at q))) (eq-eqb q last z)

  fits-other : (q : ℕ) → (q ≡ last → ⊥) → fits d q (at q) ≡ allows d 7 q (at q)
  fits-other q z = ap (λ (y : Bool). cond y (closing d (at q)) (allows d 7 q (at q))) (ne_eqb q last z)

  -- the tests tell whether it is there
  here-stands : is_here d x last (test_count d) p ≡ stands d x p (suc last)
  here-stands =
      same_test _ _
      (λ e.
      let f = and-true (passed d x p (tried (test_count d))) (closing d (at last)) e in
      each_stands d x p (suc last) (λ q h. elim (ℕ_discrete q last) [
        | yes z ↦ fits_last q z ∙ subst (λ (j : ℕ). closing d (at j) ≡ true) (sym z) f.1
        | no z ↦
            fits-other q z
            ∙ each-allows d q (at q) 7 (λ k l is.
            subst (λ (j : ℕ). eqb (at j) (test_byte d k) ≡ true) is (every f.0 k l))
      ]))
      (λ e.
      let f = stands-each d x p (suc last) e in
      and-of (passed d x p (tried (test_count d))) (closing d (at last))
      (each-passed d x p (tried (test_count d)) (λ k l.
      let seven = tried-low (test_count d) k l in
      let q = test_place d k in
      let low : q < last = W.places k seven in
      allows-each d q (at q) 7 (sym (fits-other q (λ z. omega arith)) ∙ f q (omega arith)) k seven refl))
      (sym (fits_last last refl) ∙ f last (le_refl (suc last))))

-- ---- places

pub here-more : (d x : List ℕ) (last n i j : ℕ) (hit r : Bool) → hit ≡ here_in d x last n i j
    → r ≡ is_here d x last n (i + j) → (hit || r) ≡ here_in d x last n i (j + 1)
unfolding here_in
here-more d x last n i j hit r e f =
    let z : j + 1 ≡ suc j = omega arith in ap₂ ◌||◌ e f ∙ ap (here_in d x last n i) (sym z)

here-none : (d x : List ℕ) (last n i m : ℕ) → here_in d x last n i m ≡ false
    → (p : ℕ) → i ≤ p → p < i + m → is_here d x last n p ≡ false
unfolding here_in
here-none d x last n i zero e p h k = absurd (omega arith)
here-none d x last n i (suc m) e p h k =
    let f = or-false (here_in d x last n i m) (is_here d x last n (i + m)) e in
    elim (ℕ_discrete p (i + m)) [
      | yes z ↦ subst (λ (q : ℕ). is_here d x last n q ≡ false) (sym z) f.1
      | no z ↦ here-none d x last n i m f.0 p h (omega arith)
    ]

here-some : (d x : List ℕ) (last n i m : ℕ) → here_in d x last n i m ≡ true
    → (p : ℕ) × (p < i + m) × (is_here d x last n p ≡ true)
unfolding here_in
here-some d x last n i zero e = absurd (true≢false (sym e))
here-some d x last n i (suc m) e =
    ⊎_elim
    (λ f. let w = here-some d x last n i m f in (w.0, omega (arith, w.1), w.2))
    (λ f. (i + m, omega arith, f))
    (or_cases (here_in d x last n i m) (is_here d x last n (i + m)) e)

pub looked-none : (d x : List ℕ) (last n : ℕ) → Looked d x last n 0 false
looked-none d x last n = record { found = λ e. absurd (true≢false (sym e)); none = λ e p h. absurd (omega arith) }

-- no place is left
pub looked-all : (d x : List ℕ) (last n i : ℕ) (r : Bool) → length x ≤ i + last → Looked d x last n i r
    → Looked d x last n (length x) r
looked-all d x last n i r h L = record { found = L.found; none = λ e p k l. L.none e p (omega arith) l }

-- a block more
pub looked-more : (d x : List ℕ) (last n i step : ℕ) (hit r : Bool) → r ≡ here_in d x last n i 16
    → i + 15 + last < length x → step ≤ 16 → Looked d x last n i hit → Looked d x last n (i + step) (hit || r)
looked-more d x last n i step hit r e room few L = record {
  found = λ f. ⊎_elim L.found (λ g.
      let w = here-some d x last n i 16 (sym e ∙ g) in (w.0, omega (arith, w.1), w.2)) (or_cases hit r f);
  none = λ f p h l.
      let g = or-false hit r f in
      elim (dec_lt p i) [
        | yes z ↦ L.none g.0 p z l
        | no z ↦ here-none d x last n i 16 (sym e ∙ g.1) p (omega arith) (omega arith)
      ];
}

-- ---- what comes of the starts

module _ (t d x : List ℕ) (bytes : (k : ℕ) → get_or x k 0 < 256) (W : Word t d) where
  abbrev final : ℕ
  final = last_place d

  -- a match may start at s as where the text starts
  abbrev Opens : ℕ → Type 0
  Opens s = row t (entry_row s) ≡ row t 0

  -- a start whose bytes are those of the word
  live : (s : ℕ) → Opens s → (n : ℕ) → n ≤ suc final → stands d x s n ≡ true → live_at t x 0 s n ≡ W.sets n
  unfolding live_at stands
  live s O zero h e = rw (zero-add s) (O ∙ sym W.begins)
  live s O (suc n) h e =
      let f = and-true (stands d x s n) (fits d n (get_or x (s + n) 0)) e in
      ap (λ (u : List ℕ). step t u (get_or x (s + n) 0)) (live s O n (omega arith) f.0)
      ∙ W.on n (get_or x (s + n) 0) (omega arith) (bytes (s + n)) f.1

  -- no match starts at s
  dead : (s : ℕ) → row t (entry_row s) ≡ no_place → (n : ℕ) → live_at t x 0 s n ≡ no_place
  unfolding live_at
  dead s e zero = rw (zero-add s) e
  dead s e (suc n) =
      ap (λ (u : List ℕ). step t u (get_or x (s + n) 0)) (dead s e n) ∙ bare_step t no_place bare-none (get_or x (s + n) 0)

  -- what comes of a start where the word isn't
  abbrev Fate : ℕ → ℕ → Type 0
  Fate s n = (live_at t x 0 s n ≡ no_place) ⊎ ((n ≤ final) × (stands d x s n ≡ true))

  fate : (s : ℕ) → Opens s → (s + final < length x → stands d x s (suc final) ≡ false) → (n : ℕ) → s + n ≤ length x
      → Fate s n
  unfolding live_at stands
  fate s O none zero h = inr (omega arith, refl)
  fate s O none (suc n) h =
      ⊎_elim
      (λ e. inl (ap (λ (u : List ℕ). step t u (get_or x (s + n) 0)) e ∙ bare_step t no_place bare-none (get_or x (s + n) 0)))
      (λ w. on w (fits d n (get_or x (s + n) 0)) refl)
      (fate s O none n (omega arith))
    where
      on : (n ≤ final) × (stands d x s n ≡ true) → (z : Bool) → fits d n (get_or x (s + n) 0) ≡ z → Fate s (suc n)
      on w true e =
          let more = and-of (stands d x s n) _ w.1 e in
          elim (ℕ_discrete n final) [
            | yes z ↦ absurd (true≢false (sym (subst (λ (k : ℕ). stands d x s (suc k) ≡ true) z more) ∙ none (omega arith)))
            | no z ↦ inr (omega (arith, w.0), more)
          ]
      on w false e =
          inl (ap (λ (u : List ℕ). step t u (get_or x (s + n) 0)) (live s O n (omega (arith, w.0)) w.1)
          ∙ W.off n (get_or x (s + n) 0) w.0 (bytes (s + n)) e)

  no_stop : (f : Bool) → stop_in no_place f ≡ false
  no_stop f = mem-none (cond f 129 128)

  low : (f : Bool) → cond f 129 128 < 192
  low true = omega arith
  low false = omega arith

  -- the word isn't at s, or no match starts there
  abbrev Never : ℕ → Type 0
  Never s = (row t (entry_row s) ≡ no_place) ⊎ ((Opens s) × (s + final < length x → stands d x s (suc final) ≡ false))

  module _ (never : (s : ℕ) → Never s) where
    start-stops : (s n : ℕ) → s + n ≤ length x → (f : Bool) → stop_in (live_at t x 0 s n) f ≡ false
    start-stops s n h f =
        ⊎_elim
        (λ e. ap (λ (u : List ℕ). stop_in u f) (dead s e n) ∙ no_stop f)
        (λ w.
        ⊎_elim
        (λ e. ap (λ (u : List ℕ). stop_in u f) e ∙ no_stop f)
        (λ v. ap (λ (u : List ℕ). stop_in u f) (live s w.0 n (omega (arith, v.0)) v.1) ∙ W.unended n v.0 f)
        (fate s w.0 w.1 n h))
        (never s)

    all-stops : (k : ℕ) → k ≤ length x → (f : Bool) → stop_in (all_at t x k) f ≡ false
    all-stops k h f = by (stop_in (all_at t x k) f) refl
      where
        by : (z : Bool) → stop_in (all_at t x k) f ≡ z → z ≡ false
        by false e = refl
        by true e =
            let w = all_in t x k (cond f 129 128) (low f) e in
            absurd (true≢false (sym w.3 ∙ start-stops w.0 w.1 (omega (arith, w.2)) f))

    none-exists : Exists t x false
    none-exists = ends t x (length x) refl false (λ k h T. all-stops k (omega arith) false) (λ T. sym (all-stops (length x) (le_refl _) true))

  module _ (s : ℕ) (O : Opens s) (h : s + final < length x) (e : stands d x s (suc final) ≡ true) where
    stops : (f : Bool) → stop_in (all_at t x (s + suc final)) f ≡ true
    stops f =
        all-out t x s (suc final) (cond f 129 128) (low f)
        (ap (λ (u : List ℕ). stop_in u f) (live s O (suc final) (le_refl _) e) ∙ W.ends f)

    -- a match ends before k, or none does
    early : (k : ℕ) → k ≤ length x
        → (Exists t x true) ⊎ ((i : ℕ) → i < k → stop_in (all_at t x i) false ≡ false)
    early zero l = inr (λ i m. absurd (omega arith))
    early (suc k) l = ⊎_elim inl (λ w. by w (stop_in (all_at t x k) false) refl) (early k (omega arith))
      where
        by : ((i : ℕ) → i < k → stop_in (all_at t x i) false ≡ false) → (z : Bool) → stop_in (all_at t x k) false ≡ z
            → (Exists t x true) ⊎ ((i : ℕ) → i < suc k → stop_in (all_at t x i) false ≡ false)
        by w true z = inl (stops-early t x k (omega arith) (λ T. z))
        by w false z = inr (λ i m. elim (ℕ_discrete i k) [
          | yes g ↦ ap (λ (j : ℕ). stop_in (all_at t x j) false) g ∙ z
          | no g ↦ w i (omega arith)
        ])

    one-exists : Exists t x true
    one-exists =
        elim (dec_lt (s + suc final) (length x)) [
          | yes l ↦ stops-early t x (s + suc final) l (λ T. stops false)
          | no l ↦
              let z : s + suc final ≡ length x = omega arith in
              ⊎_elim (λ E. E)
              (λ w. ends t x (length x) refl true (λ k m T. w k m)
              (λ T. sym (subst (λ (k : ℕ). stop_in (all_at t x k) true ≡ true) z (stops true))))
              (early (length x) (le_refl _))
        ]

  -- a match may start anywhere: what was seen of all places
  module _ (anywhere : row t 1 ≡ row t 0) where
    opens : (s : ℕ) → Opens s
    opens s = pick (eqb s 0)
      where
        pick : (z : Bool) → row t (cond z 0 1) ≡ row t 0
        pick true = refl
        pick false = anywhere

    pub word-exists : (r : Bool) → Looked d x final (test_count d) (length x) r → Exists t x r
    word-exists true L =
        let w = L.found refl in one-exists w.0 (opens w.0) w.1 (sym (here-stands t d x W w.0) ∙ w.2)
    word-exists false L =
        none-exists (λ s. inr (opens s, λ h. sym (here-stands t d x W s) ∙ L.none refl s (omega arith) h))

  -- only where the text starts: what was seen there
  module _ (fixed : row t 1 ≡ no_place) where
    never : (final < length x → stands d x 0 (suc final) ≡ false) → (s : ℕ) → Never s
    never none zero = inr (refl, λ h. none (omega arith))
    never none (suc s) = inl (ap (λ (z : Bool). row t (cond z 0 1)) (ne_eqb (suc s) 0 (omega arith)) ∙ fixed)

    pub first-exists : (r : Bool) → final < length x → r ≡ is_here d x final (test_count d) 0 → Exists t x r
    first-exists true h e = one-exists 0 refl (omega arith) (sym (here-stands t d x W 0) ∙ sym e)
    first-exists false h e = none-exists (never (λ l. sym (here-stands t d x W 0) ∙ sym e))

    pub first_short : length x ≤ final → Exists t x false
    first_short h = none-exists (never (λ l. absurd (omega arith)))
