-- What was stored is an automaton of the table.
use mathlib.Core.Path.{◌≡◌, sym, ap, ap₂, subst, ◌∙◌}
use mathlib.Core.Bool.{Bool, false, cond}
use mathlib.Core.List.{List, ◌++◌}
use Prim.Native.Nat.{ℕ, ◌+◌, ◌-◌, ◌*◌, ◌/◌, ◌%◌, ◌≤◌, ◌<◌}
use native.Mathlib.Nat.{div-eq_of_eq-mul_left, mul_comm, mul-le-mul_left, mul-div-le}
use native.Mathlib.Omega.{arith}
use lib.ListN.{length, take, drop, get_or, set, length-set, get_or-append}
use lib.Seq.{get_or-take, length-take-le, length_front, take-append-le, get_or-set_same, get_or-set_other}
use lib.Dec.{eqb}
use borrow.Author.Tests.{eq-eqb, ne_eqb}
use Rattle.ere_table.specs.Table.{row}
use Rattle.ere_automaton.specs.Layout.{State, class_in, next_in, pair_in, end_word, rows_at, stride_by, stride_of, state_count, Testable}
use Rattle.ere_automaton.specs.Automaton.{Hull, Shape}
use Rattle.ere_classes.specs.Column.{Classified}
use Rattle.std.specs.Prelude.{Option, Some, None, IfSome}
use Rattle.ere_sets.specs.Modes.{change_by, first_by, later_by, last_by, FollowsBy}
use Rattle.ere_sets.specs.Growth.{Fair, Has, Leads}
use Rattle.ere_derive.specs.Layout.{Rows, RowOf, Closed, Paired, PutRows, PutPairs, Beginning, Headed}
use Rattle.ere_derive.specs.Derived.{Derived, DerivedBy, Attempted}
use Rattle.ere_sets.proofs.Grown.{grows_none, has_on}
use Rattle.ere_derive.proofs.Composed.{rows-below, square-below, row_on}
use Rattle.ere_classes.proofs.Bounded.{classified-on, hull-on}
use Rattle.ere_shapes.proofs.Spelling.{testable-on, shape_on}
use Rattle.ere_derive.proofs.Following.{change-same, fair-marks, follows-all, follows-drives}

-- ---- words of a row

pub stride-plain : (k pairs : ℕ) → pairs ≡ 0 → k + 1 ≡ stride_by k pairs
stride-plain k pairs e = let z : k + 1 ≡ k + 1 + 0 = omega arith in z ∙ ap (λ (x : Bool). k + 1 + cond x 0 (k * k)) (sym (eq-eqb pairs 0 e))

pub stride-paired : (k pairs : ℕ) → (pairs ≡ 0 → ⊥) → k + 1 + k * k ≡ stride_by k pairs
stride-paired k pairs e = ap (λ (x : Bool). k + 1 + cond x 0 (k * k)) (sym (ne_eqb pairs 0 e))

pub stride-wide : (k pairs : ℕ) → k + 1 ≤ stride_by k pairs
stride-wide k pairs = let z : k + 1 ≤ k + 1 + cond (eqb pairs 0) 0 (k * k) = omega arith in z

-- how many rows fit
pub fits_in : (len stride : ℕ) → rows_at ≤ len → rows_at + stride * ((len - rows_at) / stride) ≤ len
fits_in len stride h = let z = mul-div-le (len - rows_at) stride in omega arith

-- ---- the head

pub headed : (d : List ℕ) (k first later accepted pairs : ℕ) → rows_at ≤ length d
    → Headed d k first later accepted pairs (set (set (set (set (set d 0 k) 1 first) 2 later) 3 accepted) 4 pairs)
headed d k first later accepted pairs room = record {
  frame = record { size = simp length-set; below = λ i h. absurd (omega arith); above = other };
  classes = after-four 0 (omega arith) ∙ after-three 0 (omega arith) ∙ after_two 0 (omega arith) ∙ get_or-set_other d1 1 0 first 0 (omega arith) ∙ get_or-set_same d 0 k 0 (omega arith);
  is-first = after-four 1 (omega arith) ∙ after-three 1 (omega arith) ∙ after_two 1 (omega arith) ∙ get_or-set_same d1 1 first 0 (simp length-set (omega arith));
  is_later = after-four 2 (omega arith) ∙ after-three 2 (omega arith) ∙ get_or-set_same d2 2 later 0 (simp length-set (omega arith));
  is_accepted = after-four 3 (omega arith) ∙ get_or-set_same d3 3 accepted 0 (simp length-set (omega arith));
  is_paired = get_or-set_same d4 4 pairs 0 (simp length-set (omega arith));
}
  where
    d1 : List ℕ
    d1 = set d 0 k

    d2 : List ℕ
    d2 = set d1 1 first

    d3 : List ℕ
    d3 = set d2 2 later

    d4 : List ℕ
    d4 = set d3 3 accepted

    after-four : (i : ℕ) → i < 4 → get_or (set d4 4 pairs) i 0 ≡ get_or d4 i 0
    after-four i h = get_or-set_other d4 4 i pairs 0 (omega arith)

    after-three : (i : ℕ) → i < 3 → get_or d4 i 0 ≡ get_or d3 i 0
    after-three i h = get_or-set_other d3 3 i accepted 0 (omega arith)

    after_two : (i : ℕ) → i < 2 → get_or d3 i 0 ≡ get_or d2 i 0
    after_two i h = get_or-set_other d2 2 i later 0 (omega arith)

    other : (i : ℕ) → 5 ≤ i → get_or (set d4 4 pairs) i 0 ≡ get_or d i 0
    other i h =
        get_or-set_other d4 4 i pairs 0 (omega arith) ∙ get_or-set_other d3 3 i accepted 0 (omega arith) ∙ get_or-set_other d2 2 i later 0 (omega arith)
        ∙ get_or-set_other d1 1 i first 0 (omega arith) ∙ get_or-set_other d 0 i k 0 (omega arith)

-- ---- the automaton

-- q is the row of the set s
pub record Stands (a : List ℕ) (n stride : ℕ) (s : List ℕ) (q : ℕ) : Type 0 where
  pub number : ℕ
  pub is : q ≡ rows_at + stride * number
  pub has : Has a n number s

-- the words d, of which the first are an automaton whose states stand for the sets a
pub record Built (mode : ℕ) (t bytes : List ℕ) (k : ℕ) (a : List ℕ) (n stride pairs : ℕ) (d : List ℕ) : Type 0 where
  pub width : stride ≡ stride_by k pairs
  pub room : rows_at + stride * n ≤ length d
  pub count : get_or d 0 0 ≡ k
  pub paired : get_or d 4 0 ≡ pairs
  pub first : Stands a n stride (first_by mode t) (get_or d 1 0)
  pub later : Stands a n stride (later_by mode t) (get_or d 2 0)
  pub accepted : Stands a n stride (last_by mode) (get_or d 3 0)
  pub rows : Rows mode t bytes k a n stride d n
  pub composed : eqb pairs 0 ≡ false → (i : ℕ) → i < n → Paired k d d (rows_at + stride * i) k
  pub fair : (j : ℕ) → j < n → Fair (row a j)
  pub classes : Classified t bytes k d
  pub hull : Hull t d
  pub tests : Testable d

module _ (mode : ℕ) (t bytes : List ℕ) (k : ℕ) (a : List ℕ) (n stride pairs : ℕ) (d : List ℕ)
    (B : Built mode t bytes k a n stride pairs d) where
  abbrev r : ℕ
  r = rows_at + stride * n

  abbrev D : List ℕ
  D = take r d

  wide : k + 1 ≤ stride
  wide = let z = stride-wide k pairs in let e = B.width in omega arith

  at : (i : ℕ) → i < r → get_or D i 0 ≡ get_or d i 0
  at i h = get_or-take r d i 0 h

  size : length D ≡ r
  size = length-take-le r d B.room

  count : get_or D 0 0 ≡ k
  count = at 0 (omega arith) ∙ B.count

  stride-is : stride_of D ≡ stride
  stride-is = ap₂ stride_by count (at 4 (omega arith) ∙ B.paired) ∙ sym B.width

  number_of : (i : ℕ) → stride * i / stride ≡ i
  number_of i = let w = wide in div-eq_of_eq-mul_left (omega arith) (mul_comm stride i)

  states : state_count D ≡ n
  states =
      let e : length D - rows_at ≡ stride * n = let z = size in omega arith in
      ap₂ (λ (x y : ℕ). x / y) e stride-is ∙ number_of n

  state-of : (q : ℕ) → State D q → RowOf n stride q
  state-of q s = record { number = s.number; low = subst (λ (x : ℕ). s.number < x) states s.low; is = s.is ∙ ap (λ (x : ℕ). rows_at + x * s.number) stride-is }

  state-in : (q : ℕ) → RowOf n stride q → State D q
  state-in q s = record { number = s.number; low = subst (λ (x : ℕ). s.number < x) (sym states) s.low; is = s.is ∙ ap (λ (x : ℕ). rows_at + x * s.number) (sym stride-is) }

  abbrev sets : ℕ → List ℕ
  sets q = row a ((q - rows_at) / stride)

  sets-at : (q i : ℕ) → q ≡ rows_at + stride * i → sets q ≡ row a i
  sets-at q i e = let z : q - rows_at ≡ stride * i = omega arith in ap (λ (x : ℕ). row a (x / stride)) z ∙ ap (row a) (number_of i)

  class-at : (b : ℕ) → b < 256 → class_in D b ≡ class_in d b
  class-at b h = at (24 + b) (omega arith)

  -- the word of a row
  word : (q : ℕ) (s : RowOf n stride q) (c : ℕ) → c < stride → get_or D (q + c) 0 ≡ get_or d (rows_at + stride * s.number + c) 0
  word q s c h =
      let z = rows-below stride s.number n s.low in
      let e = s.is in
      at (q + c) (omega arith) ∙ ap (λ (x : ℕ). get_or d (x + c) 0) e

  next : (q : ℕ) (s : RowOf n stride q) (b : ℕ) → b < 256 → next_in D q b ≡ get_or d (rows_at + stride * s.number + class_in d b) 0
  next q s b h = let z = B.classes.is b h in let w = wide in ap (λ (x : ℕ). get_or D (q + x) 0) (class-at b h) ∙ word q s (class_in d b) (omega arith)

  leads : (q : ℕ) (s : RowOf n stride q) (b : ℕ) → b < 256 → Leads mode t a n stride (row a s.number) (get_or bytes (class_in d b) 0) (next_in D q b)
  leads q s b h =
      subst (λ (x : ℕ). Leads mode t a n stride (row a s.number) (get_or bytes (class_in d b) 0) x) (sym (next q s b h))
      ((B.rows s.number s.low).leads (class_in d b) (B.classes.is b h))

  led-row : (q : ℕ) (s : RowOf n stride q) (b : ℕ) → b < 256 → RowOf n stride (next_in D q b)
  led-row q s b h = let l = leads q s b h in record { number = l.number; low = l.has.low; is = l.is }

  steps : (q : ℕ) (s : RowOf n stride q) (b : ℕ) → b < 256 → sets (next_in D q b) ≡ change_by mode t (sets q) b
  steps q s b h =
      let l = leads q s b h in
      sets-at (next_in D q b) l.number l.is ∙ l.has.is
      ∙ sym (change-same mode t (row a s.number) b _ (λ u. B.classes.same u b h))
      ∙ ap (λ (u : List ℕ). change_by mode t u b) (sym (sets-at q s.number s.is))

  marks : (q : ℕ) (s : RowOf n stride q) → end_word D q ≡ get_or (sets q) 2 0 % 4
  marks q s =
      let w = wide in
      ap (λ (x : ℕ). get_or D (q + x) 0) count ∙ word q s k (omega arith) ∙ (B.rows s.number s.low).marks
      ∙ ap (λ (u : List ℕ). get_or u 2 0 % 4) (sym (sets-at q s.number s.is))

  fair : (q : ℕ) (s : RowOf n stride q) → end_word D q ≡ 1 → ⊥
  fair q s h =
      let f = subst Fair (sym (sets-at q s.number s.is)) (B.fair s.number s.low) in
      fair-marks (sets q) f (sym (marks q s) ∙ h)

  two : (q : ℕ) (s : RowOf n stride q) (b c : ℕ) → b < 256 → c < 256 → eqb pairs 0 ≡ false → pair_in D q b c ≡ next_in D (next_in D q b) c
  two q s b c h l p =
      let x = B.classes.is b h in
      let y = B.classes.is c l in
      let z = square-below k (class_in d b) k x in
      let e : stride ≡ k + 1 + k * k = B.width ∙ ap (λ (u : Bool). k + 1 + cond u 0 (k * k)) p in
      let f = led-row q s b h in
      ap₂ (λ (u v : ℕ). get_or D (q + (u + 1 + (v * u + class_in D c))) 0) count (class-at b h)
      ∙ ap (λ (u : ℕ). get_or D (q + (k + 1 + (class_in d b * k + u))) 0) (class-at c l)
      ∙ word q s (k + 1 + (class_in d b * k + class_in d c)) (omega arith)
      ∙ B.composed p s.number s.low (class_in d b) (class_in d c) x y
      ∙ ap (λ (u : ℕ). get_or d (u + class_in d c) 0) (sym (next q s b h) ∙ f.is)
      ∙ sym (next (next_in D q b) f c l)

  stood : (i q : ℕ) (s : List ℕ) → i < rows_at → Stands a n stride s (get_or d i 0) → sets (get_or D i 0) ≡ s
  stood i q s h S = sets-at (get_or D i 0) S.number (at i (omega arith) ∙ S.is) ∙ S.has.is

  state-at : (i : ℕ) (s : List ℕ) → i < rows_at → Stands a n stride s (get_or d i 0) → State D (get_or D i 0)
  state-at i s h S = state-in (get_or D i 0) (record { number = S.number; low = S.has.low; is = at i (omega arith) ∙ S.is })

  pub built-follows : FollowsBy mode t D
  built-follows = record {
    ranged = record {
      head = let z = size in omega arith;
      classes = λ b h. subst (λ (x : ℕ). class_in D b < x) (sym count) (subst (λ (x : ℕ). x < k) (sym (class-at b h)) (B.classes.is b h));
      first = state-at 1 _ (omega arith) B.first;
      later = state-at 2 _ (omega arith) B.later;
      moves = λ q b s h. state-in _ (led-row q (state-of q s) b h);
      pairs = λ q b c s h l p. two q (state-of q s) b c h l (ap (λ (x : ℕ). eqb x 0) (sym (at 4 (omega arith) ∙ B.paired)) ∙ p);
      tests = testable-on t d D (λ i l m. at i (omega arith)) B.tests;
    };
    sets = sets;
    starts = stood 1 0 _ (omega arith) B.first;
    elsewhere = stood 2 0 _ (omega arith) B.later;
    lasts = state-at 3 _ (omega arith) B.accepted;
    stays = stood 3 0 _ (omega arith) B.accepted;
    steps = λ q b s h. steps q (state-of q s) b h;
    marks = λ q s. marks q (state-of q s);
    fair = λ q s. fair q (state-of q s);
  }

  pub built-hull : Hull t D
  built-hull = hull-on D (λ i l m. at i (omega arith)) (at 14 (omega arith)) B.hull

-- ---- from the pieces

pub rows-closed : {mode : ℕ} {t bytes : List ℕ} {k : ℕ} {a : List ℕ} {n stride : ℕ} {d : List ℕ} → Rows mode t bytes k a n stride d n
    → (i : ℕ) → i < n → Closed k n stride d (rows_at + stride * i)
rows-closed R i h c l = let x = (R i h).leads c l in record { number = x.number; low = x.has.low; is = x.is }

module _ (mode : ℕ) (t bytes : List ℕ) (k : ℕ) (a₀ a : List ℕ) (most n₀ n stride accepted later first pairs : ℕ) (d d1 d2 d3 : List ℕ)
    (width : stride ≡ stride_by k pairs) (room : rows_at + stride * most ≤ length d)
    (C : Classified t bytes k d) (H : Hull t d) (T : Testable d) (G : Beginning mode t a₀ most n₀ accepted later first)
    (R : PutRows mode t bytes k a₀ n₀ most stride d (Some n) a d1) (P : PutPairs k n stride (cond (eqb pairs 0) 0 n) d1 d2)
    (E : Headed d2 k (rows_at + stride * first) (rows_at + stride * later) (rows_at + stride * accepted) pairs d3) where
  kept : (i : ℕ) → 5 ≤ i → i < rows_at → get_or d3 i 0 ≡ get_or d i 0
  kept i g h = E.frame.above i g ∙ P.below i h ∙ R.frame.below i h

  proper : (i c : ℕ) → i < n → c < k + 1 → get_or d3 (rows_at + stride * i + c) 0 ≡ get_or d1 (rows_at + stride * i + c) 0
  proper i c h g = E.frame.above (rows_at + stride * i + c) (omega arith) ∙ P.kept i c h g

  length-is : length d3 ≡ length d
  length-is = E.frame.size ∙ P.size ∙ R.frame.size

  inside : rows_at + stride * n ≤ length d
  inside = let z = mul-le-mul_left stride R.has.0 in omega arith

  composed : eqb pairs 0 ≡ false → (i : ℕ) → i < n → Paired k d3 d3 (rows_at + stride * i) k
  composed p i h c e g m =
      let x = rows-closed R.has.2 i h c g in
      let w : get_or d1 (rows_at + stride * i + c) 0 ≡ rows_at + stride * x.number = x.is in
      E.frame.above (rows_at + stride * i + (k + 1 + (c * k + e))) (omega arith)
      ∙ P.paired i (subst (λ (u : Bool). i < cond u 0 n) (sym p) h) c e g m
      ∙ ap (λ (u : ℕ). get_or d1 (u + e) 0) w
      ∙ sym (proper x.number e x.low (omega arith))
      ∙ ap (λ (u : ℕ). get_or d3 (u + e) 0) (sym (proper i c h (omega arith) ∙ w))

  stands : (q number : ℕ) (s : List ℕ) → q ≡ rows_at + stride * number → Has a₀ n₀ number s → Stands a n stride s q
  stands q number s e h = record { number = number; is = e; has = has_on h R.has.1 }

  built : Built mode t bytes k a n stride pairs d3
  built = record {
    width = width;
    room = let z = length-is in let y = inside in omega arith;
    count = E.classes;
    paired = E.is_paired;
    first = stands _ first _ E.is-first G.is-first;
    later = stands _ later _ E.is_later G.is_later;
    accepted = stands _ accepted _ E.is_accepted G.is_accepted;
    rows = λ i h. row_on d3 (R.has.2 i h) (grows_none a n) (λ x g. proper i x h g);
    composed = composed;
    fair = R.has.1.fair G.fair;
    classes = classified-on d3 (λ b h. kept (24 + b) (omega arith) (omega arith)) C;
    hull = hull-on d3 (λ i g h. kept i (omega arith) (omega arith)) (kept 14 (omega arith) (omega arith)) H;
    tests = testable-on t d d3 (λ i g h. kept i (omega arith) (omega arith)) T;
  }

  pub attempted : Attempted mode t d (Some (rows_at + stride * n)) d3
  attempted = record {
    derived = record {
      size = length-is;
      made = (
        inside,
        built-follows mode t bytes k a n stride pairs d3 built,
        built-hull mode t bytes k a n stride pairs d3 built,
      );
    };
    kept = kept;
  }

-- no room
pub unattempted : (mode : ℕ) (t d d' : List ℕ) → length d' ≡ length d → ((i : ℕ) → 5 ≤ i → i < rows_at → get_or d' i 0 ≡ get_or d i 0) → Attempted mode t d None d'
unattempted mode t d d' e k = record { derived = record { size = e; made = tt }; kept = k }

-- an attempt on the first m words
module _ (mode : ℕ) (t bytes : List ℕ) (k m : ℕ) (d : List ℕ) (h : rows_at ≤ m) (l : m ≤ length d) where
  pub front-size : length (take m d) ≡ m
  front-size = length-take-le m d l

  pub front-classified : Classified t bytes k d → Classified t bytes k (take m d)
  front-classified = classified-on (take m d) (λ b g. get_or-take m d (24 + b) 0 (omega arith))

  pub front-hull : Hull t d → Hull t (take m d)
  front-hull = hull-on (take m d) (λ i g o. get_or-take m d i 0 (omega arith)) (get_or-take m d 14 0 (omega arith))

  pub front-tests : Testable d → Testable (take m d)
  front-tests = testable-on t d (take m d) (λ i g o. get_or-take m d i 0 (omega arith))

  abbrev Made : List ℕ → List ℕ → ℕ → Type 0
  Made e f n = (n ≤ length e) × FollowsBy mode t (take n f) × Hull t (take n f)

  front-made : (r : Option ℕ) (f : List ℕ) → length f ≡ m → IfSome r (Made (take m d) f) → IfSome r (Made d (f ++ drop m d))
  front-made None f e w = tt
  front-made (Some n) f e w =
      let z = front-size in
      let c = take-append-le n f (drop m d) (omega (arith, w.0)) in
      (omega (arith, w.0), subst (FollowsBy mode t) (sym c) w.1, subst (Hull t) (sym c) w.2)

  pub front-attempted : (r : Option ℕ) (f : List ℕ) → Attempted mode t (take m d) r f → Attempted mode t d r (f ++ drop m d)
  front-attempted r f A = record {
    derived = record { size = length_front d f m A.derived.size; made = front-made r f f-size A.derived.made };
    kept = λ i g o. get_or-append f (drop m d) 0 i (f-has i o) ∙ A.kept i g o ∙ get_or-take m d i 0 (omega arith);
  }
    where
      f-size : length f ≡ m
      f-size = A.derived.size ∙ front-size

      f-has : (i : ℕ) → i < rows_at → i < length f
      f-has i o = let z = f-size in omega arith

-- words of the same length
pub derived-on : {mode : ℕ} {t d d' : List ℕ} {r : Option ℕ} (e : List ℕ) → length d ≡ length e → DerivedBy mode t d r d' → DerivedBy mode t e r d'
derived-on {mode} {t} {d} {d'} {r} e l D = record {
  size = D.size ∙ l;
  made = subst (λ (x : ℕ). IfSome r (λ n. (n ≤ x) × FollowsBy mode t (take n d') × Hull t (take n d'))) l D.made;
}

-- ---- all starts: whether there is a match

module _ (t d₀ d d' : List ℕ) (size : length d ≡ length d₀) (S : Shape t d) where
  pub derived-all : (r : Option ℕ) → Attempted 0 t d r d' → Derived t d₀ r d'
  derived-all None A = record { size = A.derived.size ∙ size; made = tt }
  derived-all (Some r) A =
      let M = A.derived.made in
      -- an automaton has a head
      let long : rows_at ≤ r =
      subst (λ (n : ℕ). rows_at ≤ n) (length-take-le r d' (omega (arith, M.0, A.derived.size))) M.1.ranged.head in
      record {
        size = A.derived.size ∙ size;
        made = (
          omega (arith, M.0, size),
          follows-drives (follows-all t M.1) M.2
              (shape_on t d (take r d')
              (λ i g l. get_or-take r d' i 0 (omega (arith, long)) ∙ A.kept i (omega arith) (omega arith)) S),
        );
      }
