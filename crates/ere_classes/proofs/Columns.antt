-- Laws of columns, by which bytes are told apart, and of classes.
use mathlib.Core.Path.{◌≡◌, refl, sym, ap, ap₂, subst, ◌∙◌}
use mathlib.Core.Bool.{Bool, true, cond, ◌&&◌}
use mathlib.Core.List.{List}
use mathlib.Core.Logic.{◌⊎◌, inl, inr, ⊎_elim}
use Prim.Native.Nat.{ℕ, zero, suc, ◌+◌, ◌-◌, ◌*◌, ◌/◌, ◌%◌, ◌^◌, ◌≤◌, ◌<◌}
use native.Mathlib.Nat.{le_of_suc-le-suc, eq-or-lt_of_le, le_refl, pow-suc, zero-div}
use native.Mathlib.Omega.{arith}
use lib.ListN.{length, get_or, set, length-set}
use lib.Seq.{get_or-set_same, get_or-set_other}
use lib.Dec.{eqb}
use lib.Pow.{pow_mono}
use borrow.Author.Tests.{eqb-true}
use Rattle.lists.specs.Digit.{bit}
use Rattle.lists.proofs.Tests.{and-true}
use Rattle.ere_table.specs.Table.{row_words, place_count, accepts_at, row, join}
use Rattle.ere_search.specs.Walk.{step_word, step}
use Rattle.ere_automaton.specs.Layout.{class_in, classes_at}
use Rattle.ere_classes.specs.Column.{taken_by, column_of, Used, first_word, Alike, Class, Classed, Classified}

-- one of two orders
pub ordered : (i j : ℕ) → (i < j) ⊎ (j ≤ i)
ordered zero zero = inr (omega arith)
ordered zero (suc j) = inl (omega arith)
ordered (suc i) zero = inr (omega arith)
ordered (suc i) (suc j) = ⊎_elim (λ h. inl (omega arith)) (λ h. inr (omega arith)) (ordered i j)

-- ---- columns

column-lt : (t : List ℕ) (b p n : ℕ) → column_of t b p n < 2 ^ n
unfolding column_of
column-lt t b p zero = omega arith
column-lt t b p (suc n) = let h = column-lt t b p n in rw pow-suc (omega arith)

-- a column of fewer than 64 places has room for one more
pub column-room : (t : List ℕ) (b p n : ℕ) → n < 64 → 2 * column_of t b p n + 1 < 2 ^ 64
column-room t b p n h =
    let l = column-lt t b p n in
    let m : 2 ^ suc n ≤ 2 ^ 64 = pow_mono h in
    let e : 2 ^ suc n ≡ 2 ^ n * 2 = pow-suc 2 n in
    omega arith

pub column-more : (t : List ℕ) (b from p : ℕ) → from ≤ p → column_of t b from (p + 1 - from) ≡ 2 * column_of t b from (p - from) + taken_by t b p
unfolding column_of
column-more t b from p h =
    let e : p + 1 - from ≡ suc (p - from) = omega arith in
    let f : from + (p - from) ≡ p = omega arith in
    ap (column_of t b from) e ∙ ap (λ (q : ℕ). 2 * column_of t b from (p - from) + taken_by t b q) f

pub column-none : (t : List ℕ) (b from : ℕ) → column_of t b from (from - from) ≡ 0
unfolding column_of
column-none t b from = let e : from - from ≡ 0 = omega arith in ap (column_of t b from) e

-- the two words of a column
pub column-low : (t : List ℕ) (b n m x : ℕ) → m ≡ first_word n → x ≡ column_of t b 0 (m - 0) → x ≡ column_of t b 0 (first_word n)
column-low t b n m x e h = let f : m - 0 ≡ first_word n = omega arith in h ∙ ap (column_of t b 0) f

pub column-high : (t : List ℕ) (b n m x : ℕ) → m ≡ first_word n → x ≡ column_of t b m (n - m) → x ≡ column_of t b (first_word n) (n - first_word n)
column-high t b n m x e h = h ∙ ap (λ (w : ℕ). column_of t b w (n - w)) e

-- equal columns: the same places
column-alike : (t : List ℕ) (a b p n : ℕ) → column_of t a p n ≡ column_of t b p n → (i : ℕ) → i < n → taken_by t a (p + i) ≡ taken_by t b (p + i)
unfolding column_of
column-alike t a b p zero e i h = absurd (omega arith)
column-alike t a b p (suc n) e i h =
    ⊎_elim
    (λ g. ap₂ (λ (x y : ℕ). taken_by t a (p + x)) g g ∙ last ∙ ap (λ (x : ℕ). taken_by t b (p + x)) (sym g))
    (λ g. column-alike t a b p n front i g)
    (eq-or-lt_of_le (le_of_suc-le-suc h))
  where
    last : taken_by t a (p + n) ≡ taken_by t b (p + n)
    last = omega arith

    front : column_of t a p n ≡ column_of t b p n
    front = omega arith

-- both words of the columns of n places are equal
pub columns-alike : (t : List ℕ) (a b n : ℕ) → column_of t a 0 (first_word n) ≡ column_of t b 0 (first_word n)
    → column_of t a (first_word n) (n - first_word n) ≡ column_of t b (first_word n) (n - first_word n) → Alike t n a b
columns-alike t a b n low high p h = ⊎_elim first second (ordered p (first_word n))
  where
    first : p < first_word n → taken_by t a p ≡ taken_by t b p
    first g = let e : 0 + p ≡ p = omega arith in subst (λ (q : ℕ). taken_by t a q ≡ taken_by t b q) e (column-alike t a b 0 (first_word n) low p g)

    second : first_word n ≤ p → taken_by t a p ≡ taken_by t b p
    second g =
        let e : first_word n + (p - first_word n) ≡ p = omega arith in
        subst (λ (q : ℕ). taken_by t a q ≡ taken_by t b q) e (column-alike t a b (first_word n) (n - first_word n) high (p - first_word n) (omega arith))

-- ---- a place that takes nothing

word_of : (t : List ℕ) (w : ℕ) → get_or t w 0 ≡ 0 → get_or t (w + 1) 0 ≡ 0 → get_or t (w + 2) 0 ≡ 0 → get_or t (w + 3) 0 ≡ 0
    → (q : ℕ) → q < 4 → get_or t (w + q) 0 ≡ 0
word_of t w e f g h zero l = let z : w + 0 ≡ w = omega arith in ap (λ (i : ℕ). get_or t i 0) z ∙ e
word_of t w e f g h (suc zero) l = f
word_of t w e f g h (suc (suc zero)) l = g
word_of t w e f g h (suc (suc (suc zero))) l = h
word_of t w e f g h (suc (suc (suc (suc q)))) l = absurd (omega arith)

-- the four words of a place's class are 0
pub none-taken : (t : List ℕ) (p : ℕ)
    → ((eqb (get_or t (row_words + 4 * p) 0) 0 && eqb (get_or t (row_words + 4 * p + 1) 0) 0) && (eqb (get_or t (row_words + 4 * p + 2) 0) 0 && eqb (get_or t (row_words + 4 * p + 3) 0) 0)) ≡ true
    → (b : ℕ) → b < 256 → taken_by t b p ≡ 0
none-taken t p h b l =
    let w = row_words + 4 * p in
    let x = and-true _ _ h in
    let y = and-true _ _ x.0 in
    let z = and-true _ _ x.1 in
    let e = word_of t w (eqb-true _ _ y.0) (eqb-true _ _ y.1) (eqb-true _ _ z.0) (eqb-true _ _ z.1) (b / 64) (omega arith) in
    rw e (zero-taken (2 ^ (b % 64)))
  where
    zero-taken : (m : ℕ) → 0 / m % 2 ≡ 0
    zero-taken m = rw zero-div

-- ---- bytes alike

-- bytes that the same places take lead to the same
word_same : (t : List ℕ) (a b x w : ℕ) (out : List ℕ) (n : ℕ) → ((i : ℕ) → i < n → accepts_at t (64 * w + i) a ≡ accepts_at t (64 * w + i) b)
    → step_word t a x w out n ≡ step_word t b x w out n
unfolding step_word
word_same t a b x w out zero h = refl
word_same t a b x w out (suc n) h =
    let e = word_same t a b x w out n (λ i l. h i (omega arith)) in
    let f = h n (le_refl (suc n)) in
    ap₂ (λ (o : List ℕ) (y : Bool). cond (bit x n) (cond y (join o (row t (64 * w + n + 2))) o) o) e f

pub step_same : (t : List ℕ) (a b : ℕ) → Alike t place_count a b → (s : List ℕ) → step t s a ≡ step t s b
step_same t a b h s =
    word_same t a b (get_or s 1 0) 1 _ 64 (λ i l. ap (λ (x : ℕ). eqb x 1) (h (64 * 1 + i) (omega arith)))
    ∙ ap (λ (o : List ℕ). step_word t b (get_or s 1 0) 1 o 64)
    (word_same t a b (get_or s 0 0) 0 _ 64 (λ i l. ap (λ (x : ℕ). eqb x 1) (h (64 * 0 + i) (omega arith))))

-- none from n on
pub alike_all : (t : List ℕ) (n a b : ℕ) → Used t n → a < 256 → b < 256 → Alike t n a b → Alike t place_count a b
alike_all t n a b u ha hb h p l = ⊎_elim (h p) (λ g. u.none p a g l ha ∙ sym (u.none p b g l hb)) (ordered p n)

-- ---- a byte more

-- what holds of each number below m, and of m
pub up_to : {P : ℕ → Type 0} (m : ℕ) → ((b : ℕ) → b < m → P b) → P m → (b : ℕ) → b < m + 1 → P b
up_to {P} m h k b l = ⊎_elim (h b) (λ g. let e : m ≡ b = omega arith in subst P e k) (ordered b m)

module _ (t : List ℕ) (n m : ℕ) where
  -- its column is that of class j
  pub class-found : (columns : List ℕ) (k : ℕ) (bytes d : List ℕ) (j : ℕ) → classes_at + m < length d → j < k
      → get_or columns (2 * j) 0 ≡ column_of t m 0 (first_word n)
      → get_or columns (2 * j + 1) 0 ≡ column_of t m (first_word n) (n - first_word n)
      → Classed t n m columns k bytes d → Classed t n (m + 1) columns k bytes (set d (classes_at + m) j)
  class-found columns k bytes d j room h low high C = record {
    each = C.each;
    is = up_to m (λ b l. subst (λ (x : ℕ). x < k) (sym (other b l)) (C.is b l)) (subst (λ (x : ℕ). x < k) (sym here) h);
    alike =
        up_to m (λ b l. subst (λ (x : ℕ). Alike t n b (get_or bytes x 0)) (sym (other b l)) (C.alike b l))
        (subst (λ (x : ℕ). Alike t n m (get_or bytes x 0)) (sym here)
        (columns-alike t m (get_or bytes j 0) n (sym low ∙ (C.each j h).low) (sym high ∙ (C.each j h).high)));
  }
    where
      other : (b : ℕ) → b < m → class_in (set d (classes_at + m) j) b ≡ class_in d b
      other b l = get_or-set_other d (classes_at + m) (classes_at + b) j 0 (omega arith)

      here : class_in (set d (classes_at + m) j) m ≡ j
      here = get_or-set_same d (classes_at + m) j 0 room

  -- one more class
  class-more : (columns : List ℕ) (k : ℕ) (bytes d : List ℕ) (x y : ℕ) → 2 * k + 1 < length columns → k < length bytes → m < 256
      → x ≡ column_of t m 0 (first_word n) → y ≡ column_of t m (first_word n) (n - first_word n)
      → Classed t n m columns k bytes d → Classed t n m (set (set columns (2 * k) x) (2 * k + 1) y) (k + 1) (set bytes k m) d
  class-more columns k bytes d x y room rooms byte low high C = record {
    each = up_to k old new;
    is = λ b l. let h = C.is b l in omega arith;
    alike = λ b l. subst (λ (z : ℕ). Alike t n b z) (sym (kept (class_in d b) (C.is b l))) (C.alike b l);
  }
    where
      both : List ℕ
      both = set (set columns (2 * k) x) (2 * k + 1) y

      kept : (j : ℕ) → j < k → get_or (set bytes k m) j 0 ≡ get_or bytes j 0
      kept j l = get_or-set_other bytes k j m 0 (omega arith)

      at-k : get_or (set bytes k m) k 0 ≡ m
      at-k = get_or-set_same bytes k m 0 rooms

      word : (i : ℕ) → i < 2 * k → get_or both i 0 ≡ get_or columns i 0
      word i l = get_or-set_other (set columns (2 * k) x) (2 * k + 1) i y 0 (omega arith) ∙ get_or-set_other columns (2 * k) i x 0 (omega arith)

      low-k : get_or both (2 * k) 0 ≡ x
      low-k = get_or-set_other (set columns (2 * k) x) (2 * k + 1) (2 * k) y 0 (omega arith) ∙ get_or-set_same columns (2 * k) x 0 (omega arith)

      high-k : get_or both (2 * k + 1) 0 ≡ y
      high-k = get_or-set_same (set columns (2 * k) x) (2 * k + 1) y 0 (simp length-set room)

      old : (j : ℕ) → j < k → Class t n both (set bytes k m) j
      old j l = record {
        byte = subst (λ (z : ℕ). z < 256) (sym (kept j l)) (C.each j l).byte;
        low = word (2 * j) (omega arith) ∙ (C.each j l).low ∙ ap (λ (z : ℕ). column_of t z 0 (first_word n)) (sym (kept j l));
        high = word (2 * j + 1) (omega arith) ∙ (C.each j l).high ∙ ap (λ (z : ℕ). column_of t z (first_word n) (n - first_word n)) (sym (kept j l));
      }

      new : Class t n both (set bytes k m) k
      new = record {
        byte = subst (λ (z : ℕ). z < 256) (sym at-k) byte;
        low = low-k ∙ low ∙ ap (λ (z : ℕ). column_of t z 0 (first_word n)) (sym at-k);
        high = high-k ∙ high ∙ ap (λ (z : ℕ). column_of t z (first_word n) (n - first_word n)) (sym at-k);
      }

  pub class-new : (columns : List ℕ) (k : ℕ) (bytes d : List ℕ) (x y : ℕ) → classes_at + m < length d → 2 * k + 1 < length columns → k < length bytes → m < 256
      → x ≡ column_of t m 0 (first_word n) → y ≡ column_of t m (first_word n) (n - first_word n)
      → Classed t n m columns k bytes d
      → Classed t n (m + 1) (set (set columns (2 * k) x) (2 * k + 1) y) (k + 1) (set bytes k m) (set d (classes_at + m) k)
  class-new columns k bytes d x y room r rooms byte low high C =
      let M = class-more columns k bytes d x y r rooms byte low high C in
      let l : k < k + 1 = omega arith in
      let K = M.each k l in
      let at-k : get_or (set bytes k m) k 0 ≡ m = get_or-set_same bytes k m 0 rooms in
      class-found (set (set columns (2 * k) x) (2 * k + 1) y) (k + 1) (set bytes k m) d k room l
      (K.low ∙ ap (λ (z : ℕ). column_of t z 0 (first_word n)) at-k)
      (K.high ∙ ap (λ (z : ℕ). column_of t z (first_word n) (n - first_word n)) at-k) M

pub classed-none : (t : List ℕ) (n : ℕ) (columns bytes d : List ℕ) → Classed t n 0 columns 0 bytes d
classed-none t n columns bytes d = record { each = λ j h. absurd (omega arith); is = λ b h. absurd (omega arith); alike = λ b h. absurd (omega arith) }

pub classified : (t : List ℕ) (n : ℕ) (columns : List ℕ) (k : ℕ) (bytes d : List ℕ) → Used t n → k ≤ 64 → Classed t n 256 columns k bytes d → Classified t bytes k d
classified t n columns k bytes d u few C = record {
  few = few;
  is = C.is;
  same = λ s b h. step_same t b (get_or bytes (class_in d b) 0)
      (alike_all t n b (get_or bytes (class_in d b) 0) u h (C.each (class_in d b) (C.is b h)).byte (C.alike b h)) s;
}
