-- Laws of rows, one after the other, and of pairs.
use mathlib.Core.Path.{◌≡◌, refl, sym, ap, subst, ◌∙◌}
use mathlib.Core.List.{List}
use mathlib.Core.Logic.{inl, inr, ⊎_elim}
use Prim.Native.Nat.{ℕ, ◌+◌, ◌*◌, ◌%◌, ◌≤◌, ◌<◌}
use native.Mathlib.Nat.{mul-le-mul_left, mul-le-mul_right, mul-suc, suc-mul, eq-or-lt_of_le}
use native.Mathlib.Omega.{arith}
use lib.ListN.{length, get_or, set}
use lib.Seq.{get_or-set_same, get_or-set_other}
use Rattle.ere_table.specs.Table.{row}
use Rattle.ere_automaton.specs.Layout.{rows_at}
use Rattle.ere_sets.specs.Growth.{Grows, Leads}
use Rattle.ere_classes.specs.Frames.{Frame}
use Rattle.ere_derive.specs.Layout.{Apart, RowAt, Rows, RowOf, Closed, Paired, PutPairs}
use Rattle.ere_classes.proofs.Columns.{up_to, ordered}
use Rattle.ere_classes.proofs.Framed.{frame_on, frame-wider}
use Rattle.ere_sets.proofs.Grown.{leads-on}

-- row j lies before row i
pub rows-below : (stride j i : ℕ) → j < i → stride * j + stride ≤ stride * i
rows-below stride j i h = let m = mul-le-mul_left stride h in let e = mul-suc stride j in omega arith

-- ---- rows

-- a row that is kept, while sets become more
pub row_on : {mode : ℕ} {t bytes : List ℕ} {k : ℕ} {a : List ℕ} {n stride : ℕ} {s d : List ℕ} {p : ℕ} {a' : List ℕ} {n' : ℕ} (d' : List ℕ) → RowAt mode t bytes k a n stride s d p → Grows a n a' n'
    → ((x : ℕ) → x < k + 1 → get_or d' (p + x) 0 ≡ get_or d (p + x) 0) → RowAt mode t bytes k a' n' stride s d' p
row_on {mode} {t} {bytes} {k} {a} {n} {stride} {s} {d} {p} {a'} {n'} d' r g e = record {
  leads = λ c h. subst (λ (q : ℕ). Leads mode t a' n' stride s (get_or bytes c 0) q) (sym (e c (omega arith))) (leads-on (r.leads c h) g);
  marks = e k (omega arith) ∙ r.marks;
}

module _ (mode : ℕ) (t bytes : List ℕ) (k : ℕ) (a : List ℕ) (n stride : ℕ) (d : List ℕ) (i : ℕ) (a' : List ℕ) (n' : ℕ) (d' : List ℕ) where
  pub rows_more : k < stride → i < n → Rows mode t bytes k a n stride d i → Grows a n a' n'
      → Frame (rows_at + stride * i) (rows_at + stride * i + (k + 1)) d d'
      → RowAt mode t bytes k a' n' stride (row a i) d' (rows_at + stride * i) → Rows mode t bytes k a' n' stride d' (i + 1)
  rows_more l h R g f new = up_to i old (subst (λ (s : List ℕ). RowAt mode t bytes k a' n' stride s d' (rows_at + stride * i)) (sym (g.kept i h)) new)
    where
      old : (j : ℕ) → j < i → RowAt mode t bytes k a' n' stride (row a' j) d' (rows_at + stride * j)
      old j m =
          let z = rows-below stride j i m in
          subst (λ (s : List ℕ). RowAt mode t bytes k a' n' stride s d' (rows_at + stride * j)) (sym (g.kept j (omega arith)))
          (row_on d' (R j m) g (λ x o. f.below (rows_at + stride * j + x) (omega arith)))

-- ---- pairs

pub square-below : (k x c : ℕ) → x < c → x * k + k ≤ c * k
square-below k x c h = let m = mul-le-mul_right k h in let e = suc-mul x k in omega arith

pub apart_in : (p k low high low' high' : ℕ) → low ≤ low' → high' ≤ high → Apart p k low high → Apart p k low' high'
apart_in p k low high low' high' l h = ⊎_elim (λ g. inl (omega arith)) (λ g. inr (omega arith))

module _ (d s s' : List ℕ) (k p c : ℕ) (h : c < k) (apart : Apart (get_or d (p + c) 0) k (p + (k + 1)) (p + (k + 1 + k * k)))
    (f : Frame (p + (k + 1)) (p + (k + 1 + k * k)) d s) where
  -- what the class c leads to was not changed
  pub pair-next : get_or s (p + c) 0 ≡ get_or d (p + c) 0
  pair-next = f.below (p + c) (omega arith)

  pub pairs-frame : Frame (p + (k + 1 + c * k)) (p + (k + 1 + c * k) + k) s s' → Frame (p + (k + 1)) (p + (k + 1 + k * k)) d s'
  pairs-frame g = let z = square-below k c k h in frame_on f (frame-wider (omega arith) (omega arith) g)

  pub pairs-more : Paired k d s p c → Frame (p + (k + 1 + c * k)) (p + (k + 1 + c * k) + k) s s'
      → ((e : ℕ) → e < k → get_or s' (p + (k + 1 + c * k) + e) 0 ≡ get_or s (get_or s (p + c) 0 + e) 0) → Paired k d s' p (c + 1)
  pairs-more P g copied x e l m = ⊎_elim old (λ o. let y : c ≡ x = omega arith in subst (λ (z : ℕ). get_or s' (p + (k + 1 + (z * k + e))) 0 ≡ get_or d (get_or d (p + z) 0 + e) 0) y new) (ordered x c)
    where
      old : x < c → get_or s' (p + (k + 1 + (x * k + e))) 0 ≡ get_or d (get_or d (p + x) 0 + e) 0
      old o = let z = square-below k x c o in g.below (p + (k + 1 + (x * k + e))) (omega arith) ∙ P x e o m

      new : get_or s' (p + (k + 1 + (c * k + e))) 0 ≡ get_or d (get_or d (p + c) 0 + e) 0
      new =
          let i : p + (k + 1 + (c * k + e)) ≡ p + (k + 1 + c * k) + e = omega arith in
          ap (λ (z : ℕ). get_or s' z 0) i ∙ copied e m ∙ ap (λ (z : ℕ). get_or s (z + e) 0) pair-next
          ∙ ⊎_elim (λ o. f.below (get_or d (p + c) 0 + e) (omega arith)) (λ o. f.above (get_or d (p + c) 0 + e) (omega arith)) apart

module _ (k n stride : ℕ) (st : stride ≡ k + 1 + k * k) where
  -- rows proper share no word with the pairs of a row
  pub apart-rows : (i q : ℕ) → RowOf n stride q → Apart q k (rows_at + stride * i + (k + 1)) (rows_at + stride * i + (k + 1 + k * k))
  apart-rows i q r =
      ⊎_elim
      (λ h. inl (let m = mul-le-mul_left stride h in let e = mul-suc stride r.number in let f = r.is in omega arith))
      (λ h. ⊎_elim
      (λ e. inl (let f = r.is in let g : q ≡ rows_at + stride * i = f ∙ ap (λ (x : ℕ). rows_at + stride * x) (sym e) in omega arith))
      (λ g. inr (let m = rows-below stride i r.number g in let f = r.is in omega arith))
      (eq-or-lt_of_le h))
      (ordered r.number i)

  pub row_room : (q : ℕ) → RowOf n stride q → q + stride ≤ rows_at + stride * n
  row_room q r = let m = rows-below stride r.number n r.low in let f = r.is in omega arith

  module _ (d s s' : List ℕ) (i : ℕ) (h : i < n) (closed : (j : ℕ) → j < n → Closed k n stride d (rows_at + stride * j)) (P : PutPairs k n stride i d s) where
    -- what the pairs of row i ask
    pub pairs-ask : rows_at + stride * n ≤ length d → (c : ℕ) → c < k
        → (get_or s (rows_at + stride * i + c) 0 + k ≤ length s)
        × Apart (get_or s (rows_at + stride * i + c) 0) k (rows_at + stride * i + (k + 1)) (rows_at + stride * i + (k + 1 + k * k))
    pairs-ask room c l =
        let r = closed i h c l in
        let e = P.kept i c h (omega arith) in
        let z = row_room (get_or d (rows_at + stride * i + c) 0) r in
        let y = P.size in
        (omega arith, subst (λ (q : ℕ). Apart q k (rows_at + stride * i + (k + 1)) (rows_at + stride * i + (k + 1 + k * k))) (sym e) (apart-rows i _ r))

    pub put-pairs-more : Frame (rows_at + stride * i + (k + 1)) (rows_at + stride * i + (k + 1 + k * k)) s s' → Paired k s s' (rows_at + stride * i) k
        → PutPairs k n stride (i + 1) d s'
    put-pairs-more f new = record {
      size = f.size ∙ P.size;
      below = λ x l. f.below x (omega arith) ∙ P.below x l;
      kept = λ j c l m. row_kept j c m ∙ P.kept j c l m;
      paired = up_to i old last;
    }
      where
        row_kept : (j c : ℕ) → c < k + 1 → get_or s' (rows_at + stride * j + c) 0 ≡ get_or s (rows_at + stride * j + c) 0
        row_kept j c m =
            ⊎_elim
            (λ g. let z = rows-below stride i j g in f.above (rows_at + stride * j + c) (omega arith))
            (λ g. let z = mul-le-mul_left stride g in f.below (rows_at + stride * j + c) (omega arith))
            (ordered i j)

        old : (j : ℕ) → j < i → Paired k d s' (rows_at + stride * j) k
        old j g c e l m =
            let z = rows-below stride j i g in
            let y = square-below k c k l in
            f.below (rows_at + stride * j + (k + 1 + (c * k + e))) (omega arith) ∙ P.paired j g c e l m

        last : Paired k d s' (rows_at + stride * i) k
        last c e l m =
            let r = closed i h c l in
            let x = P.kept i c h (omega arith) in
            let y = r.is in
            new c e l m ∙ ap (λ (z : ℕ). get_or s (z + e) 0) (x ∙ y) ∙ P.kept r.number e r.low (omega arith) ∙ ap (λ (z : ℕ). get_or d (z + e) 0) (sym y)

-- a row, once its accept bits are stored
pub row-ended : (mode : ℕ) (t bytes : List ℕ) (k : ℕ) (a : List ℕ) (n stride : ℕ) (s d : List ℕ) (p m : ℕ) → p + k < length d → m ≡ get_or s 2 0 % 4
    → ((c : ℕ) → c < k → Leads mode t a n stride s (get_or bytes c 0) (get_or d (p + c) 0)) → RowAt mode t bytes k a n stride s (set d (p + k) m) p
row-ended mode t bytes k a n stride s d p m room e l = record {
  leads = λ c h. subst (λ (q : ℕ). Leads mode t a n stride s (get_or bytes c 0) q) (sym (get_or-set_other d (p + k) (p + c) m 0 (omega arith))) (l c h);
  marks = get_or-set_same d (p + k) m 0 room ∙ e;
}

pub put-pairs-none : (k n stride : ℕ) (d : List ℕ) → PutPairs k n stride 0 d d
put-pairs-none k n stride d = record { size = refl; below = λ i h. refl; kept = λ i c h l. refl; paired = λ i h. absurd (omega arith) }
