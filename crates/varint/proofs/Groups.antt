-- A number by its groups from the front on: what is read so far, at a scale, and what the bytes after it give.
use mathlib.Core.Path.{◌≡◌, refl, sym, ap, subst, ◌∙◌}
use mathlib.Core.Bool.{Bool, true, false, cond, not, ◌&&◌}
use mathlib.Core.List.{List}
use mathlib.Core.Option.{Option, some, none}
use Prim.Native.Nat.{ℕ, suc, ◌+◌, ◌-◌, ◌*◌, ◌^◌, ◌≤◌, ◌<◌}
use native.Mathlib.Omega.{arith}
use native.Mathlib.Nat.{mul-add, mul_assoc, add_assoc, one-mul, zero-add, add-zero, mul-le-mul, pow-le-pow_right, pow-suc}
use native.Mathlib.Numerals.{add-one}
use lib.ListN.{length, drop, get_or, drop_of_length-le}
use lib.Seq.{drop-cons}
use lib.Dec.{eqb, ltb, leb}
use borrow.Author.Tests.{ne_eqb, eqb-false, lt-ltb, le-ltb, le-leb, lt-leb, ltb-true, ltb-false}
use Rattle.lists.specs.Parsing.{Parsed, parsed}
use Rattle.edition.specs.Limits.{number_bound}
use Rattle.image_format.specs.Numbers.{above, take_groups, bounded, take_number}
use Rattle.varint.specs.Take.{TakesAt, last_of}
use Rattle.std.specs.Prelude.{Some, None}

-- what is read so far, with what comes after it; after others a 0 is needless
abbrev pub combined : ℕ → ℕ → Option (Parsed ℕ) → Option (Parsed ℕ)
combined v s none = none
combined v s (some r) = cond (eqb r.value 0 && not (eqb s 1)) none (parsed (v + s * r.value) r.rest)

pub combined-first : (o : Option (Parsed ℕ)) → o ≡ combined 0 1 o
combined-first none = refl
combined-first (some r) = by (eqb r.value 0)
  where
    z : parsed r.value r.rest ≡ parsed (0 + 1 * r.value) r.rest
    z = ap (λ (n : ℕ). parsed n r.rest) (sym (zero-add (1 * r.value) ∙ one-mul r.value))

    by : (x : Bool) → some r ≡ cond (x && false) none (parsed (0 + 1 * r.value) r.rest)
    by true = z
    by false = z

-- one group more
pub combined-more : (v s g : ℕ) (o : Option (Parsed ℕ)) → 1 ≤ s → combined v s (above g o) ≡ combined (v + s * g) (s * 128) o
combined-more v s g none h = refl
combined-more v s g (some r) h = by (eqb r.value 0) refl
  where
    scaled : eqb (s * 128) 1 ≡ false
    scaled = ne_eqb (s * 128) 1 (λ e. omega arith)

    by : (x : Bool) → eqb r.value 0 ≡ x → combined v s (cond x none (parsed (g + 128 * r.value) r.rest)) ≡ cond (x && not (eqb (s * 128) 1)) none (parsed (v + s * g + s * 128 * r.value) r.rest)
    by true e = rw scaled
    by false e =
        let n = eqb-false r.value 0 e in
        let z : eqb (g + 128 * r.value) 0 ≡ false = ne_eqb (g + 128 * r.value) 0 (λ q. n (omega arith)) in
        let d : v + s * (g + 128 * r.value) ≡ v + s * g + s * 128 * r.value =
        ap (λ (m : ℕ). v + m) (mul-add s g (128 * r.value) ∙ ap (λ (m : ℕ). s * g + m) (sym (mul_assoc s 128 r.value))) ∙ sym (add_assoc v (s * g) (s * 128 * r.value)) in
        rw z (ap (λ (m : ℕ). parsed m r.rest) d)

-- a ninth group makes a number too great, or is needless
pub too_many : (v g : ℕ) (o : Option (Parsed ℕ)) → bounded (combined v (2 ^ 49) (above g o)) ≡ none
too_many v g none = refl
too_many v g (some r) = by (eqb r.value 0) refl
  where
    by : (x : Bool) → eqb r.value 0 ≡ x → bounded (combined v (2 ^ 49) (cond x none (parsed (g + 128 * r.value) r.rest))) ≡ none
    by true e = refl
    by false e =
        let n = eqb-false r.value 0 e in
        let z : eqb (g + 128 * r.value) 0 ≡ false = ne_eqb (g + 128 * r.value) 0 (λ q. n (omega arith)) in
        let b : leb (v + 2 ^ 49 * (g + 128 * r.value)) number_bound ≡ false = lt-leb (v + 2 ^ 49 * (g + 128 * r.value)) number_bound (omega arith) in
        rw (z, b)

-- ---- on the bytes of an image

module _ (l : List ℕ) (at : ℕ) where
  -- the groups up to place i are read
  abbrev pub ReadTo : ℕ → ℕ → ℕ → Type 0
  ReadTo i v s = take_groups (drop at l) ≡ combined v s (take_groups (drop i l))

  module _ (i : ℕ) (h : i < length l) where
    groups-more : get_or l i 0 < 256 → 128 ≤ get_or l i 0 → take_groups (drop i l) ≡ above (get_or l i 0 - 128) (take_groups (drop (suc i) l))
    unfolding take_groups
    groups-more b g = ap take_groups (drop-cons l i 0 h) ∙ rw (le-ltb (get_or l i 0) 128 g, lt-ltb (get_or l i 0) 256 b)

    groups-last : get_or l i 0 < 128 → take_groups (drop i l) ≡ parsed (get_or l i 0) (drop (suc i) l)
    unfolding take_groups
    groups-last b = ap take_groups (drop-cons l i 0 h) ∙ rw (lt-ltb (get_or l i 0) 128 b)

    pub read_more : (v s : ℕ) → 1 ≤ s → get_or l i 0 < 256 → 128 ≤ get_or l i 0 → ReadTo i v s → ReadTo (suc i) (v + s * (get_or l i 0 - 128)) (s * 128)
    read_more v s p b g e =
        e ∙ ap (combined v s) (groups-more b g) ∙ combined-more v s (get_or l i 0 - 128) (take_groups (drop (suc i) l)) p

    pub read-many : (v : ℕ) → get_or l i 0 < 256 → 128 ≤ get_or l i 0 → ReadTo i v (2 ^ 49) → TakesAt l at None
    unfolding take_number
    read-many v b g e =
        ap bounded (e ∙ ap (combined v (2 ^ 49)) (groups-more b g)) ∙ too_many v (get_or l i 0 - 128) (take_groups (drop (suc i) l))

    pub read-last : (v s : ℕ) → at ≤ i → get_or l i 0 < 128 → ReadTo i v s → TakesAt l at (last_of v s (get_or l i 0) (suc i))
    unfolding take_number
    read-last v s a b e = by (eqb g 0 && not (eqb s 1)) refl
      where
        g : ℕ
        g = get_or l i 0

        n : ℕ
        n = v + s * g

        q : take_groups (drop at l) ≡ combined v s (parsed g (drop (suc i) l))
        q = e ∙ ap (combined v s) (groups-last b)

        within : take_groups (drop at l) ≡ parsed n (drop (suc i) l) → (x : Bool) → ltb number_bound n ≡ x
            → TakesAt l at (cond x None (Some (n, suc i)))
        within c true w = ap bounded c ∙ rw (lt-leb n number_bound (ltb-true number_bound n w))
        within c false w = (ap bounded c ∙ rw (le-leb n number_bound (ltb-false number_bound n w)), omega arith, omega arith)

        by : (x : Bool) → (eqb g 0 && not (eqb s 1)) ≡ x → TakesAt l at (cond x None (cond (ltb number_bound n) None (Some (n, suc i))))
        by true z = let c : combined v s (parsed g (drop (suc i) l)) ≡ none = rw z in ap bounded (q ∙ c)
        by false z = let c : combined v s (parsed g (drop (suc i) l)) ≡ parsed n (drop (suc i) l) = rw z in within (q ∙ c) (ltb number_bound n) refl

  pub read_out : (i v s : ℕ) → length l ≤ i → ReadTo i v s → TakesAt l at None
  unfolding take_number take_groups
  read_out i v s h e = ap bounded (e ∙ ap (λ (t : List ℕ). combined v s (take_groups t)) (drop_of_length-le l {i = i} h))

  -- ---- k groups

  pub read-start : ReadTo (at + 0) 0 1
  read-start = combined-first (take_groups (drop at l)) ∙ ap (λ (n : ℕ). combined 0 1 (take_groups (drop n l))) (sym (add-zero at))

  module _ (k : ℕ) (h : at + k < length l) (v s : ℕ) (e : ReadTo (at + k) v s) where
    pub take_last : get_or l (at + k) 0 < 128 → TakesAt l at (last_of v s (get_or l (at + k) 0) (at + k + 1))
    take_last b =
        let z = sym (add-one (at + k)) in
        subst (λ (n : ℕ). TakesAt l at (last_of v s (get_or l (at + k) 0) n)) z (read-last (at + k) h v s (omega arith) b e)

    pub take_more : 1 ≤ s → get_or l (at + k) 0 < 256 → 128 ≤ get_or l (at + k) 0 → ReadTo (at + (k + 1)) (v + s * (get_or l (at + k) 0 - 128)) (s * 128)
    take_more p b g =
        let z : suc (at + k) ≡ at + (k + 1) = omega arith in
        subst (λ (n : ℕ). ReadTo n (v + s * (get_or l (at + k) 0 - 128)) (s * 128)) z (read_more (at + k) h v s p b g e)

    pub take-many : s ≡ 128 ^ k → k ≡ 7 → get_or l (at + k) 0 < 256 → 128 ≤ get_or l (at + k) 0 → TakesAt l at None
    take-many p q b g = read-many (at + k) h v b g (subst (ReadTo (at + k) v) (p ∙ ap (λ (n : ℕ). 128 ^ n) q) e)

-- ---- scales

-- the scale after k groups: there is room for one more
pub scale-most : (k : ℕ) → k ≤ 7 → 128 ^ k ≤ 2 ^ 49
scale-most k h = pow-le-pow_right {n = 128} (omega arith) {i = k} {j = 7} h

pub scale-some : (k : ℕ) → 1 ≤ 128 ^ k
scale-some k = pow-le-pow_right {n = 128} (omega arith) {i = 0} {j = k} (omega arith)

pub group-fits : (s g : ℕ) → s ≤ 2 ^ 49 → g < 128 → s * g ≤ 2 ^ 49 * 127
group-fits s g h l = mul-le-mul {n₁ = s} {m₁ = g} {n₂ = 2 ^ 49} {m₂ = 127} h (omega arith)

-- a value below its scale stays so
pub group-below : (v s g : ℕ) → v < s → g < 128 → v + s * g < s * 128
group-below v s g h l =
    let z : s * g ≤ s * 127 = mul-le-mul {n₁ = s} {n₂ = s} (omega arith) (omega arith) in
    omega arith

-- the scale of one group more
pub scale-more : (s k : ℕ) → s ≡ 128 ^ k → s * 128 ≡ 128 ^ (k + 1)
scale-more s k e = ap (λ (n : ℕ). n * 128) e ∙ sym (pow-suc 128 k) ∙ ap (λ (n : ℕ). 128 ^ n) (sym (add-one k))
