-- The last words of a sealed table: with which bytes a match can begin, and that none is empty.
use mathlib.Core.Path.{◌≡◌, refl, sym, ap, subst, ◌∙◌}
use mathlib.Core.Bool.{Bool, true, false, cond, ◌&&◌, ◌||◌}
use mathlib.Core.Logic.{⊎_elim}
use mathlib.Core.List.{List}
use Prim.Native.Nat.{ℕ, zero, suc, ◌+◌, ◌*◌, ◌/◌, ◌%◌, ◌<◌}
use native.Mathlib.Omega.{arith}
use native.Mathlib.Numerals.{add-one}
use native.Mathlib.Nat.{add-zero, eq-or-lt_of_le, le_of_suc-le-suc}
use lib.ListN.{get_or}
use lib.Bits.{bit_or}
use lib.Dec.{eqb}
use borrow.Author.Tests.{eqb-true}
use Rattle.lists.proofs.Tests.{or_left, or_right}
use Rattle.lists.specs.Digit.{bit}
use Rattle.ere_table.specs.Table.{mem, row, accepts_at, begins, empty_word}
use Rattle.ere_table.specs.Wiring.{stop_in, begin_words, Sealed}
use Rattle.ere_table.specs.Build.{entered, join_class, gather, begin_to}
use Rattle.lists.proofs.Digits.{bit-or}

pub begin-more : (t : List ℕ) (p : ℕ) (out r : List ℕ) → out ≡ begin_to t p → r ≡ gather t out p → r ≡ begin_to t (p + 1)
unfolding begin_to
begin-more t p out r h k = rw add-one (k ∙ ap (λ (o : List ℕ). gather t o p) h)

module _ (t : List ℕ) where
  class-at : (out : List ℕ) (p i : ℕ) → i < 4 → get_or (join_class t out p) i 0 ≡ bit_or (get_or out i 0) (get_or t (390 + 4 * p + i) 0)
  class-at out p zero h = ap (λ (j : ℕ). bit_or (get_or out 0 0) (get_or t j 0)) (sym (add-zero (390 + 4 * p)))
  class-at out p (suc zero) h = refl
  class-at out p (suc (suc zero)) h = refl
  class-at out p (suc (suc (suc zero))) h = refl
  class-at out p (suc (suc (suc (suc i)))) h = absurd (omega arith)

  -- what a place takes with which a match may begin is gathered
  gathered : (i k : ℕ) → i < 4 → (n p : ℕ) → p < n → entered t p ≡ true → bit (get_or t (390 + 4 * p + i) 0) k ≡ true → bit (get_or (begin_to t n) i 0) k ≡ true
  unfolding begin_to
  gathered i k hi zero p h en b = absurd (omega arith)
  gathered i k hi (suc n) p h en b =
      ⊎_elim (λ z. here (subst (λ (x : ℕ). entered t x ≡ true) z en) (subst (λ (x : ℕ). bit (get_or t (390 + 4 * x + i) 0) k ≡ true) z b))
      (λ g. there (entered t n) (gathered i k hi n p g en b)) (eq-or-lt_of_le (le_of_suc-le-suc h))
    where
      out : List ℕ
      out = begin_to t n

      both : bit (get_or (join_class t out n) i 0) k ≡ (bit (get_or out i 0) k || bit (get_or t (390 + 4 * n + i) 0) k)
      both = ap (λ (x : ℕ). bit x k) (class-at out n i hi) ∙ bit-or (get_or out i 0) (get_or t (390 + 4 * n + i) 0) k

      here : entered t n ≡ true → bit (get_or t (390 + 4 * n + i) 0) k ≡ true → bit (get_or (gather t out n) i 0) k ≡ true
      here en b = rw en (both ∙ or_right (bit (get_or out i 0) k) _ b)

      there : (x : Bool) → bit (get_or out i 0) k ≡ true → bit (get_or (cond x (join_class t out n) out) i 0) k ≡ true
      there true b = both ∙ or_left _ _ b
      there false b = b

  begin-at : (i : ℕ) → i < 4 → get_or (begin_words t) i 0 ≡ get_or t (902 + i) 0
  begin-at zero h = refl
  begin-at (suc zero) h = refl
  begin-at (suc (suc zero)) h = refl
  begin-at (suc (suc (suc zero))) h = refl
  begin-at (suc (suc (suc (suc i)))) h = absurd (omega arith)

  row_word : (r k : ℕ) → r < 2 → k < 2 → get_or (row t r) k 0 ≡ get_or t (3 * r + k) 0
  row_word r zero h l = ap (λ (j : ℕ). get_or t j 0) (sym (add-zero (3 * r)))
  row_word r (suc zero) h l = refl
  row_word r (suc (suc k)) h l = absurd (omega arith)

  -- a place of an entry row is one with which a match may begin
  enters : (r p : ℕ) → r < 2 → p < 128 → mem (row t r) p ≡ true → entered t p ≡ true
  enters r p hr hp m =
      bit-or (get_or t (p / 64) 0) (get_or t (3 + p / 64) 0) (p % 64)
      ∙ pick r hr (ap (λ (x : ℕ). bit x (p % 64)) (sym (row_word r (p / 64) hr (omega arith))) ∙ m)
    where
      pick : (r : ℕ) → r < 2 → bit (get_or t (3 * r + p / 64) 0) (p % 64) ≡ true
          → (bit (get_or t (p / 64) 0) (p % 64) || bit (get_or t (3 + p / 64) 0) (p % 64)) ≡ true
      pick zero h b =
          let z : 3 * 0 + p / 64 ≡ p / 64 = omega arith in
          or_left _ _ (subst (λ (j : ℕ). bit (get_or t j 0) (p % 64) ≡ true) z b)
      pick (suc zero) h b = or_right (bit (get_or t (p / 64) 0) (p % 64)) _ b
      pick (suc (suc r)) h b = absurd (omega arith)

module _ (t : List ℕ) (S : Sealed t) where
  pub begins-with : (r p b : ℕ) → r < 2 → p < 128 → b < 256 → mem (row t r) p ≡ true → accepts_at t p b ≡ true → begins t b ≡ true
  begins-with r p b hr hp hb m k =
      ap (λ (x : ℕ). bit x (b % 64)) (sym (begin-at t (b / 64) (omega arith)) ∙ ap (λ (l : List ℕ). get_or l (b / 64) 0) S.begin)
      ∙ gathered t (b / 64) (b % 64) (omega arith) 128 p hp (enters t r p hr hp m) k

  pub empty-out : (r : ℕ) → r < 2 → empty_word t ≡ 0 → (f : Bool) → stop_in (row t r) f ≡ false
  empty-out r hr z f = by (eqb (get_or t 2 0) 0) refl (eqb (get_or t 5 0) 0) refl (sym S.empty ∙ z)
    where
      none : (x : ℕ) → x ≡ 0 → (f : Bool) → bit x (cond f 1 0) ≡ false
      none x e true = rw e
      none x e false = rw e

      at : (r : ℕ) → r < 2 → get_or t 2 0 ≡ 0 → get_or t 5 0 ≡ 0 → (f : Bool) → stop_in (row t r) f ≡ false
      at zero h a b true = none (get_or t 2 0) a true
      at zero h a b false = none (get_or t 2 0) a false
      at (suc zero) h a b true = none (get_or t 5 0) b true
      at (suc zero) h a b false = none (get_or t 5 0) b false
      at (suc (suc r)) h a b f = absurd (omega arith)

      by : (x : Bool) → eqb (get_or t 2 0) 0 ≡ x → (y : Bool) → eqb (get_or t 5 0) 0 ≡ y → ◌≡◌ {A = ℕ} (cond (x && y) 0 1) 0 → stop_in (row t r) f ≡ false
      by true a true b e = at r hr (eqb-true _ _ a) (eqb-true _ _ b) f
      by true a false b e = absurd (omega (arith, e))
      by false a y b e = absurd (omega (arith, e))
