-- Columns counted from the front of a list.
use mathlib.Core.Path.{◌≡◌, ap, ◌∙◌}
use mathlib.Core.List.{List, ◌∷◌}
use Prim.Native.Nat.{ℕ, suc, ◌+◌, ◌-◌, ◌≤◌, ◌<◌}
use native.Mathlib.Omega.{arith}
use lib.ListN.{length, drop, get_or, drop_of_length-le}
use borrow.Author.Tests.{le-leb, lt-leb}
use Rattle.buffer.proofs.Parts.{drop-next}
use Rattle.front_places.specs.Shown.{width_of, columns_of, left_out, fitting}

pub columns-next : (s : List ℕ) (i : ℕ) → i < length s
    → columns_of (drop i s) ≡ width_of (get_or s i 0) + columns_of (drop (i + 1) s)
unfolding columns_of
columns-next s i h = ap columns_of (drop-next s i h)

pub columns-end : (s : List ℕ) (i : ℕ) → length s ≤ i → columns_of (drop i s) ≡ 0
unfolding columns_of
columns-end s i h = ap columns_of (drop_of_length-le s {i = i} h)

-- ---- bytes left out at the front

pub out-next : (s : List ℕ) (n i : ℕ) → i < length s → n < columns_of (drop i s)
    → left_out n (drop i s) ≡ suc (left_out n (drop (i + 1) s))
unfolding left_out columns_of
out-next s n i h more =
    let e = drop-next s i h in
    let m : n < columns_of (get_or s i 0 ∷ drop (i + 1) s) = rw e at more in
    ap (left_out n) e ∙ rw (lt-leb (columns_of (get_or s i 0 ∷ drop (i + 1) s)) n m)

pub out-stop : (s : List ℕ) (n i : ℕ) → i < length s → columns_of (drop i s) ≤ n → left_out n (drop i s) ≡ 0
unfolding left_out columns_of
out-stop s n i h few =
    let e = drop-next s i h in
    let m : columns_of (get_or s i 0 ∷ drop (i + 1) s) ≤ n = rw e at few in
    ap (left_out n) e ∙ rw (le-leb (columns_of (get_or s i 0 ∷ drop (i + 1) s)) n m)

pub out-end : (s : List ℕ) (n i : ℕ) → length s ≤ i → left_out n (drop i s) ≡ 0
unfolding left_out
out-end s n i h = ap (left_out n) (drop_of_length-le s {i = i} h)

-- ---- bytes that fit at the front

fit_next : (s : List ℕ) (n i : ℕ) → i < length s → width_of (get_or s i 0) ≤ n
    → fitting n (drop i s) ≡ suc (fitting (n - width_of (get_or s i 0)) (drop (i + 1) s))
unfolding fitting
fit_next s n i h m = ap (fitting n) (drop-next s i h) ∙ rw (le-leb (width_of (get_or s i 0)) n m)

-- after i bytes n columns are left, of which the next byte takes w
pub fit-more : (s : List ℕ) (i : ℕ) {k n w : ℕ} → i < length s → w ≡ width_of (get_or s i 0) → w ≤ n
    → k ≡ i + fitting n (drop i s) → k ≡ i + 1 + fitting (n - w) (drop (i + 1) s)
fit-more s i {k} {n} {w} h e m f =
    let g = fit_next s n i h (omega arith) in
    let z = ap (λ (v : ℕ). fitting (n - v) (drop (i + 1) s)) e in
    omega (arith, g, z)

pub fit-stop : (s : List ℕ) (n i : ℕ) → i < length s → n < width_of (get_or s i 0) → fitting n (drop i s) ≡ 0
unfolding fitting
fit-stop s n i h m = ap (fitting n) (drop-next s i h) ∙ rw (lt-leb (width_of (get_or s i 0)) n m)

pub fit-end : (s : List ℕ) (n i : ℕ) → length s ≤ i → fitting n (drop i s) ≡ 0
unfolding fitting
fit-end s n i h = ap (fitting n) (drop_of_length-le s {i = i} h)
