-- A number has one coding, which is what `coded` computes and all that `take_number` takes.
use mathlib.Core.Path.{◌≡◌, refl, sym, ap, subst, ◌∙◌}
use mathlib.Core.Bool.{Bool, true, false, cond}
use mathlib.Core.List.{List, [], ◌∷◌, ◌++◌}
use mathlib.Core.Option.{Option, some, none}
use Prim.Native.Nat.{ℕ, zero, suc, ◌+◌, ◌-◌, ◌*◌, ◌/◌, ◌%◌, ◌^◌, ◌≤◌, ◌<◌}
use native.Mathlib.Omega.{arith}
use lib.Dec.{eqb, ltb, leb}
use borrow.Author.Tests.{ltb-true, ltb-false, leb-true, leb-false, eqb-true, eqb-false, lt-ltb, le-ltb, le-leb, lt-leb, ne_eqb}
use Rattle.lists.proofs.Options.{some_one, none-some}
use Rattle.lists.specs.Parsing.{Parsed, parsed}
use Rattle.edition.specs.Limits.{number_bound}
use Rattle.image_format.specs.Numbers.{Coded, last, more, groups, coded, above, take_groups, bounded, take_number}

-- ---- what is computed is the coding

-- a number below 128^k has at most k groups
groups-coded : (k n : ℕ) → n < 128 ^ suc k → Coded n (groups (suc k) n)
groups-coded zero n h = rw (lt-ltb n 128 (omega arith)) (last {g = n} (omega arith))
groups-coded (suc k) n h = by (ltb n 128) refl (groups-coded k (n / 128) (omega arith))
  where
    by : (x : Bool) → ltb n 128 ≡ x → Coded (n / 128) (groups (suc k) (n / 128))
        → Coded n (cond x (n ∷ []) ((128 + n % 128) ∷ groups (suc k) (n / 128)))
    by true e r = last (ltb-true n 128 e)
    by false e r =
        let low : n ≡ n % 128 + 128 * (n / 128) = omega arith in
        subst (λ (m : ℕ). Coded m ((128 + n % 128) ∷ groups (suc k) (n / 128))) (sym low) (more {g = n % 128} (omega arith) (omega (arith, ltb-false n 128 e)) r)

pub coded-is : {n : ℕ} → n ≤ number_bound → Coded n (coded n)
unfolding coded
coded-is {n} h = groups-coded 7 n (omega arith)

-- ---- a number has one coding

coded-unique : {n m : ℕ} {s t : List ℕ} → Coded n s → Coded m t → n ≡ m → s ≡ t
coded-unique (last h) (last k) e = cc
coded-unique (last h) (more k p y) e = absurd (omega arith)
coded-unique (more h p x) (last k) e = absurd (omega arith)
coded-unique (more {g} {n} {t} h p x) (more {g = f} {n = m} {t = u} k q y) e =
    let same : g ≡ f = omega arith in
    let rest = coded-unique x y (omega arith) in
    cc

pub coded-one : {n : ℕ} {s t : List ℕ} → Coded n s → Coded n t → s ≡ t
coded-one x y = coded-unique x y refl

-- ---- the coding is taken back

-- a last group of 0 is one more than needed
needless : (g : ℕ) (r : Parsed ℕ) → r.value ≡ 0 → above g (some r) ≡ none
needless g r h = rw h

needed : (g : ℕ) (r : Parsed ℕ) → 0 < r.value → above g (some r) ≡ parsed (g + 128 * r.value) r.rest
needed g r h = search (ne_eqb r.value 0 (omega arith))

groups-back : {n : ℕ} {t : List ℕ} → Coded n t → (l : List ℕ) → take_groups (t ++ l) ≡ parsed n l
unfolding take_groups
groups-back (last {g} h) l = rw (lt-ltb g 128 h)
groups-back (more {g} {n} {t} h p x) l =
    let low : 128 + g - 128 ≡ g = omega arith in
    rw (le-ltb (128 + g) 128 (omega arith), lt-ltb (128 + g) 256 (omega arith), groups-back x l, low) (needed g (record { value = n; rest = l }) p)

-- bytes are one number's
pub coded-same : {n m : ℕ} {t : List ℕ} → Coded n t → Coded m t → n ≡ m
coded-same x y = ap (λ (g : Parsed ℕ). g.value) (some_one (groups-back x []) (groups-back y []))

-- "a number over 2^53" is refused
over : (r : Parsed ℕ) → number_bound < r.value → bounded (some r) ≡ none
over r h = search (lt-leb r.value number_bound h)

within : (r : Parsed ℕ) → r.value ≤ number_bound → bounded (some r) ≡ some r
within r h = search (le-leb r.value number_bound h)

pub number-back : (n : ℕ) → n ≤ number_bound → (l : List ℕ) → take_number (coded n ++ l) ≡ parsed n l
unfolding take_number
number-back n h l = rw (groups-back (coded-is h) l) (within (record { value = n; rest = l }) h)

-- ---- and nothing else is taken

Fronts : List ℕ → Option (Parsed ℕ) → Type 0
Fronts l none = Unit {0}
Fronts l (some g) = (t : List ℕ) × (Coded g.value t) × (l ≡ t ++ g.rest)

groups-only : (l : List ℕ) → Fronts l (take_groups l)
unfolding take_groups Fronts
groups-only [] = tt
groups-only (b ∷ t) = by (ltb b 128) refl (ltb b 256) refl (take_groups t) (groups-only t)
  where
    on : (g : Parsed ℕ) (x : Bool) → eqb g.value 0 ≡ x → 128 ≤ b → b < 256 → Fronts t (some g) → Fronts (b ∷ t) (above (b - 128) (some g))
    on g true e h k r = subst (Fronts (b ∷ t)) (sym (needless (b - 128) g (eqb-true g.value 0 e))) tt
    on g false e h k (s, c, q) =
        let high : 128 + (b - 128) ≡ b = omega arith in
        let some-above : 0 < g.value = omega (arith, eqb-false g.value 0 e) in
        subst (Fronts (b ∷ t)) (sym (needed (b - 128) g some-above)) (b ∷ s, rw high at (more {g = b - 128} (omega arith) some-above c), rw q)

    by : (x : Bool) → ltb b 128 ≡ x → (y : Bool) → ltb b 256 ≡ y → (o : Option (Parsed ℕ)) → Fronts t o
        → Fronts (b ∷ t) (cond x (parsed b t) (cond y (above (b - 128) o) none))
    by true e y f o r = (b ∷ [], last (ltb-true b 128 e), refl)
    by false e true f none r = tt
    by false e true f (some g) r = on g (eqb g.value 0) refl (ltb-false b 128 e) (ltb-true b 256 f) r
    by false e false f o r = tt

pub number-only : (l : List ℕ) (g : Parsed ℕ) → take_number l ≡ some g → (g.value ≤ number_bound) × (l ≡ coded g.value ++ g.rest)
unfolding take_number Fronts
number-only l g h = by (take_groups l) (groups-only l) h
  where
    on : (r : Parsed ℕ) (x : Bool) → leb r.value number_bound ≡ x → Fronts l (some r) → bounded (some r) ≡ some g
        → (g.value ≤ number_bound) × (l ≡ coded g.value ++ g.rest)
    on r true e (t, c, q) h =
        let small = leb-true r.value number_bound e in
        let same : r ≡ g = some_one (within r small) h in
        rw (← same) (small, rw (coded-one (coded-is small) c) q)
    on r false e f h = absurd (none-some (sym (over r (leb-false r.value number_bound e)) ∙ h))

    by : (o : Option (Parsed ℕ)) → Fronts l o → bounded o ≡ some g → (g.value ≤ number_bound) × (l ≡ coded g.value ++ g.rest)
    by none f h = absurd (none-some h)
    by (some r) f h = on r (leb r.value number_bound) refl f h
