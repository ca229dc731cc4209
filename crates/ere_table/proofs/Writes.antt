-- What is where in a table, after a row, a class or the last words are written.
use mathlib.Core.Path.{◌≡◌, refl, sym, ap, ap₂, ◌∙◌}
use mathlib.Core.Bool.{Bool, true, false, cond, ◌&&◌}
use mathlib.Core.Logic.{◌⊎◌, inl, inr, ⊎_elim}
use mathlib.Core.List.{List, [], ◌∷◌}
use Prim.Native.Nat.{ℕ, zero, suc, ◌+◌, ◌*◌, ◌/◌, ◌%◌, ◌≤◌, ◌<◌}
use native.Mathlib.Omega.{arith}
use native.Mathlib.Nat.{add-zero}
use lib.ListN.{length, get_or, set, length-set}
use lib.Seq.{get_or-set_same, get_or-set_other}
use lib.Bits.{bit_or}
use lib.Dec.{eqb, ltb}
use borrow.Author.Tests.{ltb-true, ltb-false}
use Rattle.lists.specs.Digit.{bit}
use Rattle.ere_table.specs.Table.{row, accepts_at, empty_word, table_words}
use Rattle.ere_table.specs.Build.{link, words_at, with_row, link_rows, three_at, four_at, with_class, entered, join_class, begin_to, begin_of, empty_of, sealed}
use Rattle.ere_table.specs.Wiring.{begin_words, Sealed}
use Rattle.ere_table.proofs.Rows.{apart, three}

-- ---- three words, and four, as the first ones of a list

module _ (t : List ℕ) (i : ℕ) (x : List ℕ) where
  pub words-three : words_at t i x 3 ≡ three_at t i x
  unfolding words_at
  words-three = rw (add-zero i)

  pub words-four : words_at t i x 4 ≡ four_at t i x
  unfolding words_at
  words-four = rw (add-zero i)

-- ---- four words

module _ (t : List ℕ) (i : ℕ) (c : List ℕ) where
  u₁ : List ℕ
  u₁ = set t i (get_or c 0 0)

  u₂ : List ℕ
  unfolding u₁
  u₂ = set u₁ (i + 1) (get_or c 1 0)

  u₃ : List ℕ
  unfolding u₂
  u₃ = set u₂ (i + 2) (get_or c 2 0)

  pub four-length : length (four_at t i c) ≡ length t
  four-length = simp length-set

  pub four-other : (j : ℕ) → (j < i) ⊎ (i + 4 ≤ j) → get_or (four_at t i c) j 0 ≡ get_or t j 0
  unfolding u₃
  four-other j h =
      get_or-set_other u₃ (i + 3) j (get_or c 3 0) 0 (λ e. ⊎_elim (λ l. omega arith) (λ l. omega arith) h)
      ∙ get_or-set_other u₂ (i + 2) j (get_or c 2 0) 0 (λ e. ⊎_elim (λ l. omega arith) (λ l. omega arith) h)
      ∙ get_or-set_other u₁ (i + 1) j (get_or c 1 0) 0 (λ e. ⊎_elim (λ l. omega arith) (λ l. omega arith) h)
      ∙ get_or-set_other t i j (get_or c 0 0) 0 (λ e. ⊎_elim (λ l. omega arith) (λ l. omega arith) h)

  pub four-at : (k : ℕ) → k < 4 → i + 4 ≤ length t → get_or (four_at t i c) (i + k) 0 ≡ get_or c k 0
  unfolding u₃
  four-at zero h f =
      get_or-set_other u₃ (i + 3) (i + 0) (get_or c 3 0) 0 (λ e. omega arith)
      ∙ get_or-set_other u₂ (i + 2) (i + 0) (get_or c 2 0) 0 (λ e. omega arith)
      ∙ get_or-set_other u₁ (i + 1) (i + 0) (get_or c 1 0) 0 (λ e. omega arith)
      ∙ rw (add-zero i) (get_or-set_same t i (get_or c 0 0) 0 (omega arith))
  four-at (suc zero) h f =
      get_or-set_other u₃ (i + 3) (i + 1) (get_or c 3 0) 0 (λ e. omega arith)
      ∙ get_or-set_other u₂ (i + 2) (i + 1) (get_or c 2 0) 0 (λ e. omega arith)
      ∙ get_or-set_same u₁ (i + 1) (get_or c 1 0) 0 (simp length-set (omega arith))
  four-at (suc (suc zero)) h f =
      get_or-set_other u₃ (i + 3) (i + 2) (get_or c 3 0) 0 (λ e. omega arith)
      ∙ get_or-set_same u₂ (i + 2) (get_or c 2 0) 0 (simp length-set (omega arith))
  four-at (suc (suc (suc zero))) h f = get_or-set_same u₃ (i + 3) (get_or c 3 0) 0 (simp length-set (omega arith))
  four-at (suc (suc (suc (suc k)))) h f = absurd (omega arith)

-- ---- classes

-- bit b % 64 of word b / 64 of the class that was put is set exactly if the place takes the byte b
pub class-bit : (t : List ℕ) (p : ℕ) (c : List ℕ) (b : ℕ) → length t ≡ table_words → p < 128 → b < 256
    → accepts_at (with_class t p c) p b ≡ bit (get_or c (b / 64) 0) (b % 64)
class-bit t p c b h hp hb = ap (λ (x : ℕ). bit x (b % 64)) (four-at t (390 + 4 * p) c (b / 64) (omega arith) (omega arith))

pub class-other : (t : List ℕ) (p : ℕ) (c : List ℕ) (q b : ℕ) → (q ≡ p → ⊥) → b < 256 → accepts_at (with_class t p c) q b ≡ accepts_at t q b
class-other t p c q b h hb = ap (λ (x : ℕ). bit x (b % 64)) (four-other t (390 + 4 * p) c (390 + 4 * q + b / 64) side)
  where
    side : (390 + 4 * q + b / 64 < 390 + 4 * p) ⊎ (390 + 4 * p + 4 ≤ 390 + 4 * q + b / 64)
    side = by (ltb q p) refl
      where
        by : (x : Bool) → ltb q p ≡ x → (390 + 4 * q + b / 64 < 390 + 4 * p) ⊎ (390 + 4 * p + 4 ≤ 390 + 4 * q + b / 64)
        by true e = let l = ltb-true q p e in inl (omega arith)
        by false e = let l = ltb-false q p e in inr (omega arith)

pub class-row : (t : List ℕ) (p : ℕ) (c : List ℕ) (r : ℕ) → r < 130 → row (with_class t p c) r ≡ row t r
class-row t p c r h =
    three (four-other t (390 + 4 * p) c (3 * r) (inl (omega arith))) (four-other t (390 + 4 * p) c (3 * r + 1) (inl (omega arith)))
    (four-other t (390 + 4 * p) c (3 * r + 2) (inl (omega arith)))

pub length-class : (t : List ℕ) (p : ℕ) (c : List ℕ) → length (with_class t p c) ≡ length t
length-class t p c = four-length t (390 + 4 * p) c

-- rows keep the classes
pub row-class : (t : List ℕ) (r : ℕ) (x : List ℕ) (p b : ℕ) → r < 130 → accepts_at (with_row t r x) p b ≡ accepts_at t p b
row-class t r x p b h =
    ap (λ (y : ℕ). bit y (b % 64)) (apart t r x (390 + 4 * p + b / 64) (λ e. omega arith) (λ e. omega arith) (λ e. omega arith))

pub linked-class : (t : List ℕ) (r : ℕ) (y : List ℕ) (n p b : ℕ) → r + n ≤ 130 → accepts_at (link_rows t r n y) p b ≡ accepts_at t p b
unfolding link_rows
linked-class t r y zero p b h = refl
linked-class t r y (suc n) p b h =
    row-class (link_rows t r n y) (r + n) (link (row (link_rows t r n y) (r + n)) y) p b (omega arith) ∙ linked-class t r y n p b (omega arith)

-- ---- the last five words

module _ (t : List ℕ) where
  below : (j : ℕ) → j < 902 → get_or (sealed t) j 0 ≡ get_or t j 0
  below j h =
      get_or-set_other (four_at t 902 (begin_of t)) 906 j (empty_of t) 0 (λ e. omega arith) ∙ four-other t 902 (begin_of t) j (inl h)

  pub length-sealed : length (sealed t) ≡ length t
  length-sealed = simp length-set

  pub sealed-row : (r : ℕ) → r < 130 → row (sealed t) r ≡ row t r
  sealed-row r h = three (below (3 * r) (omega arith)) (below (3 * r + 1) (omega arith)) (below (3 * r + 2) (omega arith))

  pub sealed-class : (p b : ℕ) → p < 128 → b < 256 → accepts_at (sealed t) p b ≡ accepts_at t p b
  sealed-class p b hp hb = ap (λ (y : ℕ). bit y (b % 64)) (below (390 + 4 * p + b / 64) (omega arith))

-- what is gathered depends on the rows and classes only
gathered-same : (t u : List ℕ) → ((j : ℕ) → j < 902 → get_or u j 0 ≡ get_or t j 0) → (n : ℕ) → n ≤ 128 → begin_to u n ≡ begin_to t n
unfolding begin_to
gathered-same t u h zero l = refl
gathered-same t u h (suc n) l =
    ap (λ (e : Bool). cond e (join_class u (begin_to u n) n) (begin_to u n)) en
    ∙ ap₂ (λ (x y : List ℕ). cond (entered t n) x y) (cl ∙ ap (λ (o : List ℕ). join_class t o n) (gathered-same t u h n (omega arith))) (gathered-same t u h n (omega arith))
  where
    en : entered u n ≡ entered t n
    en = ap₂ (λ (x y : ℕ). bit (bit_or x y) (n % 64)) (h (n / 64) (omega arith)) (h (3 + n / 64) (omega arith))

    cl : join_class u (begin_to u n) n ≡ join_class t (begin_to u n) n
    cl =
        let a = h (390 + 4 * n) (omega arith) in
        let b = h (390 + 4 * n + 1) (omega arith) in
        let c = h (390 + 4 * n + 2) (omega arith) in
        let d = h (390 + 4 * n + 3) (omega arith) in
        λ i. bit_or (get_or (begin_to u n) 0 0) (a i) ∷ bit_or (get_or (begin_to u n) 1 0) (b i) ∷ bit_or (get_or (begin_to u n) 2 0) (c i) ∷ bit_or (get_or (begin_to u n) 3 0) (d i) ∷ []

four : {a b c d a' b' c' d' : ℕ} → a ≡ a' → b ≡ b' → c ≡ c' → d ≡ d' → ◌≡◌ {A = List ℕ} (a ∷ b ∷ c ∷ d ∷ []) (a' ∷ b' ∷ c' ∷ d' ∷ [])
four p q r s = λ i. p i ∷ q i ∷ r i ∷ s i ∷ []

begin-four : (t : List ℕ) (n : ℕ) → get_or (begin_to t n) 0 0 ∷ get_or (begin_to t n) 1 0 ∷ get_or (begin_to t n) 2 0 ∷ get_or (begin_to t n) 3 0 ∷ [] ≡ begin_to t n
unfolding begin_to
begin-four t zero = refl
begin-four t (suc n) = by (entered t n) (begin-four t n)
  where
    all : List ℕ → List ℕ
    all o = get_or o 0 0 ∷ get_or o 1 0 ∷ get_or o 2 0 ∷ get_or o 3 0 ∷ []

    by : (x : Bool) → all (begin_to t n) ≡ begin_to t n → all (cond x (join_class t (begin_to t n) n) (begin_to t n)) ≡ cond x (join_class t (begin_to t n) n) (begin_to t n)
    by true h = refl
    by false h = h

pub sealed-shut : (t : List ℕ) → length t ≡ table_words → Sealed (sealed t)
sealed-shut t h = record { begin = words ∙ sym (gathered-same t (sealed t) (below t) 128 (omega arith)); empty = mark ∙ sym same }
  where
    f : List ℕ
    f = four_at t 902 (begin_of t)

    word : (k : ℕ) → k < 4 → get_or (sealed t) (902 + k) 0 ≡ get_or (begin_of t) k 0
    word k l = get_or-set_other (four_at t 902 (begin_of t)) 906 (902 + k) (empty_of t) 0 (λ e. omega arith) ∙ four-at t 902 (begin_of t) k l (omega arith)

    words : begin_words (sealed t) ≡ begin_of t
    words = four (word 0 (omega arith)) (word 1 (omega arith)) (word 2 (omega arith)) (word 3 (omega arith)) ∙ begin-four t 128

    mark : empty_word (sealed t) ≡ empty_of t
    mark = get_or-set_same (four_at t 902 (begin_of t)) 906 (empty_of t) 0 (simp length-set (omega arith))

    same : empty_of (sealed t) ≡ empty_of t
    same = ap₂ (λ (x y : ℕ). cond (eqb x 0 && eqb y 0) 0 1) (below t 2 (omega arith)) (below t 5 (omega arith))
