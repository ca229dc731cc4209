-- A table whose rows are those of a part is, sealed, that of the ERE.
use mathlib.Core.Path.{◌≡◌, refl, sym, ap, subst, ◌∙◌}
use mathlib.Core.Bool.{Bool, true, false, cond, ◌&&◌}
use mathlib.Core.Logic.{◌↔◌}
use mathlib.Core.List.{List, [], ◌∷◌}
use Prim.Native.Nat.{ℕ, zero, suc, ◌+◌, ◌/◌, ◌%◌, ◌≤◌, ◌<◌}
use native.Mathlib.Omega.{arith}
use lib.ListN.{length, get_or, length-set}
use lib.Dec.{ltb}
use borrow.Author.Tests.{ltb-true}
use Rattle.ere_meaning.specs.Tree.{Ere, place}
use Rattle.ere_table.specs.Nexts.{Next, stop, go, Enter, Last}
use Rattle.lists.specs.Digit.{bit}
use Rattle.ere_table.specs.Table.{mem, row, accepts_at, table_words}
use Rattle.ere_table.specs.Build.{with_row, with_class, sealed, single, accept}
use Rattle.ere_table.specs.Wiring.{next_in, after_place, Tabled}
use Rattle.ere_table.proofs.Rows.{row_same, row_other}
use Rattle.ere_table.proofs.Parts.{wired-kept, part-kept}
use Rattle.ere_table.proofs.RowParts.{RowPart, rows-place}
use Rattle.ere_table.proofs.Writes.{sealed-row, sealed-class, sealed-shut, row-class, class-row}

-- the three words of a set
abbrev pub words : List ℕ → List ℕ
words x = get_or x 0 0 ∷ get_or x 1 0 ∷ get_or x 2 0 ∷ []

words-next : (x : List ℕ) (f : Bool) (r : Next) → next_in (words x) f r ≡ next_in x f r
words-next x true stop = refl
words-next x false stop = refl
words-next x true (go q) = refl
words-next x false (go q) = by (ltb q 128) refl
  where
    at : (k : ℕ) → k < 2 → get_or (words x) k 0 ≡ get_or x k 0
    at zero l = refl
    at (suc zero) l = refl
    at (suc (suc k)) l = absurd (omega arith)

    by : (b : Bool) → ltb q 128 ≡ b → (b && mem (words x) q) ≡ (b && mem x q)
    by true e = let l = ltb-true q 128 e in ap (λ (w : ℕ). bit w (q % 64)) (at (q / 64) (omega arith))
    by false e = refl

-- the table with its entry rows, sealed
abbrev pub finished : List ℕ → List ℕ → List ℕ → List ℕ
finished t first later = sealed (with_row (with_row t 0 first) 1 later)

module _ (t first later : List ℕ) (h : length t ≡ table_words) where
  pub length-finished : length (finished t first later) ≡ table_words
  length-finished = simp length-set h

  finished-row : (p : ℕ) → p < 128 → row (finished t first later) (p + 2) ≡ row t (p + 2)
  finished-row p l =
      sealed-row (with_row (with_row t 0 first) 1 later) (p + 2) (omega arith)
      ∙ row_other (with_row t 0 first) 1 later (p + 2) (λ e. omega arith)
      ∙ row_other t 0 first (p + 2) (λ e. omega arith)

  entry_first : row (finished t first later) 0 ≡ words first
  entry_first =
      sealed-row (with_row (with_row t 0 first) 1 later) 0 (omega arith)
      ∙ row_other (with_row t 0 first) 1 later 0 (λ e. omega arith)
      ∙ row_same t 0 first (omega arith)

  entry-later : row (finished t first later) 1 ≡ words later
  entry-later =
      sealed-row (with_row (with_row t 0 first) 1 later) 1 (omega arith)
      ∙ row_same (with_row t 0 first) 1 later (simp length-set (omega arith))

  -- the classes are kept
  pub finished-class : (p b : ℕ) → p < 128 → b < 256 → accepts_at (finished t first later) p b ≡ accepts_at t p b
  finished-class p b hp hb =
      sealed-class (with_row (with_row t 0 first) 1 later) p b hp hb
      ∙ row-class (with_row t 0 first) 1 later p b (omega arith) ∙ row-class t 0 first p b (omega arith)

  pub tabled : (lo hi : ℕ) (e : Ere ℕ) → hi ≤ 128 → RowPart t lo hi first later e → Tabled (finished t first later) e
  tabled lo hi e l p = record {
    wired = wired-kept (after_place t) (after_place (finished t first later)) lo hi kept e Last p.within p.wired;
    starts = starts;
    shut = sealed-shut (with_row (with_row t 0 first) 1 later) (simp length-set h);
  }
    where
      kept : (q : ℕ) → lo ≤ q → q < hi → (f : Bool) (r : Next) → after_place (finished t first later) q f r ↔ after_place t q f r
      kept q a b f r =
          let z = finished-row q (omega arith) in
          ((λ x. subst (λ (s : List ℕ). next_in s f r ≡ true) z x), (λ x. subst (λ (s : List ℕ). next_in s f r ≡ true) (sym z) x))

      starts : (s f : Bool) (r : Next) → (next_in (row (finished t first later) (cond s 0 1)) f r ≡ true) ↔ Enter e Last s f r
      starts true f r =
          let z : next_in (row (finished t first later) 0) f r ≡ next_in first f r = ap (λ (s : List ℕ). next_in s f r) entry_first ∙ words-next first f r in
          ((λ x. (p.starts true f r).0 (sym z ∙ x)), (λ x. z ∙ (p.starts true f r).1 x))
      starts false f r =
          let z : next_in (row (finished t first later) 1) f r ≡ next_in later f r = ap (λ (s : List ℕ). next_in s f r) entry-later ∙ words-next later f r in
          ((λ x. (p.starts false f r).0 (sym z ∙ x)), (λ x. z ∙ (p.starts false f r).1 x))

-- a part stays one where a class is put
pub rows-class : (t : List ℕ) (lo hi : ℕ) (first later : List ℕ) (e : Ere ℕ) (p : ℕ) (c : List ℕ) → hi ≤ 128
    → RowPart t lo hi first later e → RowPart (with_class t p c) lo hi first later e
rows-class t lo hi first later e p c l part = part-kept (after_place t) (after_place (with_class t p c)) lo hi _ e kept part
  where
    kept : (q : ℕ) → lo ≤ q → q < hi → (f : Bool) (r : Next) → after_place (with_class t p c) q f r ↔ after_place t q f r
    kept q a b f r =
        let z = class-row t p c (q + 2) (omega arith) in
        ((λ x. subst (λ (s : List ℕ). next_in s f r ≡ true) z x), (λ x. subst (λ (s : List ℕ). next_in s f r ≡ true) (sym z) x))

-- the table of an ERE that is one place
pub tabled-place : (t : List ℕ) (p : ℕ) (c : List ℕ) → length t ≡ table_words → p < 128
    → Tabled (finished (with_class (with_row t (p + 2) accept) p c) (single p) (single p)) (place p)
tabled-place t p c h l =
    let n : length (with_class (with_row t (p + 2) accept) p c) ≡ table_words = simp length-set h in
    tabled (with_class (with_row t (p + 2) accept) p c) (single p) (single p) n p (p + 1) (place p) (omega arith)
    (rows-class (with_row t (p + 2) accept) p (p + 1) (single p) (single p) (place p) p c (omega arith) (rows-place t p l (omega arith)))
