-- Laws on the order of byte strings, and on the test for equal ones.
use mathlib.Core.Path.{◌≡◌, refl, sym, ap, ap₂, ◌∙◌}
use mathlib.Core.Bool.{Bool, true, false, false≢true, cond, ◌&&◌}
use mathlib.Core.List.{List, [], ◌∷◌, ◌++◌, append-nil}
use Prim.Native.Nat.{ℕ, ◌+◌, ◌<◌}
use native.Mathlib.Decide.{ℕ_discrete, dec_lt}
use native.Mathlib.Omega.{arith}
use lib.Dec.{eqb}
use lib.ListN.{length, drop, get_or}
use lib.Pointwise.{pointwise}
use borrow.Author.Tests.{lt-ltb, le-ltb, eq-eqb, ne_eqb}
use Rattle.std.specs.declared.cmp.Ordering.TheVariants.{Less, Equal, Greater}
use Rattle.std.specs.declared.cmp.Ordering.{Ordering}
use Rattle.std.specs.Ordering.{ordering_reverse, ordering_then, nat_cmp}
use Rattle.std.specs.Cmp.{nat_cmp_is}
use Rattle.std.specs.Cmp.Lexicographic.{slice_cmp}
use Rattle.buffer.specs.Order.{ordering, equal_bytes, Before, shorter, lower}
use Rattle.buffer.proofs.Parts.{drop-next}

-- ---- the test for equal strings holds of these alone

pub equal-same : (a b : List ℕ) → equal_bytes a b ≡ true → a ≡ b
unfolding equal_bytes
equal-same [] [] h = refl
equal-same [] (y ∷ b) h = absurd (false≢true h)
equal-same (x ∷ a) [] h = absurd (false≢true h)
equal-same (x ∷ a) (y ∷ b) h =
    elim (ℕ_discrete x y) [ yes e ↦ ap₂ ◌∷◌ e (equal-same a b (rw (eq-eqb x y e) at h)) | no n ↦ absurd (false≢true (rw (ne_eqb x y n) at h)) ]

same_self : (a : List ℕ) → equal_bytes a a ≡ true
unfolding equal_bytes
same_self [] = refl
same_self (x ∷ a) = rw (eq-eqb x x refl) (same_self a)

pub same-equal : (a b : List ℕ) → a ≡ b → equal_bytes a b ≡ true
same-equal a b e = ap (equal_bytes a) (sym e) ∙ same_self a

-- the library's test of slices, by the one of bytes, is the test
both : (u v : Bool) → (u && v) ≡ cond u v false
both true v = refl
both false v = refl

pub slices-equal : (a b : List ℕ) → pointwise eqb a b ≡ equal_bytes a b
unfolding equal_bytes
slices-equal [] [] = refl
slices-equal [] (y ∷ b) = refl
slices-equal (x ∷ a) [] = refl
slices-equal (x ∷ a) (y ∷ b) = both (eqb x y) (pointwise eqb a b) ∙ ap (λ (v : Bool). cond (eqb x y) v false) (slices-equal a b)

-- a test that cannot hold fails
pub unless : (t : Bool) → (t ≡ true → ⊥) → t ≡ false
unless true n = absurd (n refl)
unless false n = refl

pub differ-equal : (a b : List ℕ) → (a ≡ b → ⊥) → equal_bytes a b ≡ false
differ-equal a b n = unless (equal_bytes a b) (λ h. n (equal-same a b h))

-- ---- the order

-- the three answers differ
pub less-not-equal : Less ≡ Equal → ⊥
less-not-equal h = let z : ◌≡◌ {A = ℕ} 0 1 = cc in omega arith

pub more-not-equal : Greater ≡ Equal → ⊥
more-not-equal h = let z : ◌≡◌ {A = ℕ} 0 1 = cc in omega arith

pub more-not-less : Greater ≡ Less → ⊥
more-not-less h = let z : ◌≡◌ {A = ℕ} 0 1 = cc in omega arith

-- two bytes, by which is lower
by_order : {A : Type 0} (x y : ℕ) → (x < y → A) → (y < x → A) → (x ≡ y → A) → A
by_order x y less more same =
    elim (dec_lt x y) [ yes l ↦ less l | no n ↦ elim (dec_lt y x) [ yes m ↦ more m | no m ↦ same (omega arith) ] ]

ordering-less : (x y : ℕ) (a b : List ℕ) → x < y → ordering (x ∷ a) (y ∷ b) ≡ Less
unfolding ordering
ordering-less x y a b h = rw (lt-ltb x y h)

ordering-more : (x y : ℕ) (a b : List ℕ) → y < x → ordering (x ∷ a) (y ∷ b) ≡ Greater
unfolding ordering
ordering-more x y a b h = rw (le-ltb x y (omega arith), lt-ltb y x h)

ordering-on : (x y : ℕ) (a b : List ℕ) → x ≡ y → ordering (x ∷ a) (y ∷ b) ≡ ordering a b
unfolding ordering
ordering-on x y a b h = rw (le-ltb x y (omega arith), le-ltb y x (omega arith))

-- the order of what is left at index k
module _ (a b : List ℕ) (k : ℕ) (ha : k < length a) (hb : k < length b) where
  both-next : ordering (drop k a) (drop k b) ≡ ordering (get_or a k 0 ∷ drop (k + 1) a) (get_or b k 0 ∷ drop (k + 1) b)
  both-next = ap₂ ordering (drop-next a k ha) (drop-next b k hb)

  pub less-at : get_or a k 0 < get_or b k 0 → ordering (drop k a) (drop k b) ≡ Less
  less-at h = both-next ∙ ordering-less _ _ _ _ h

  pub more-at : get_or b k 0 < get_or a k 0 → ordering (drop k a) (drop k b) ≡ Greater
  more-at h = both-next ∙ ordering-more _ _ _ _ h

  pub same_at : get_or a k 0 ≡ get_or b k 0 → ordering (drop k a) (drop k b) ≡ ordering (drop (k + 1) a) (drop (k + 1) b)
  same_at h = both-next ∙ ordering-on _ _ _ _ h

-- the library's comparison of slices, by the one of bytes
pub slices-ordering : (a b : List ℕ) → slice_cmp nat_cmp a b ≡ ordering a b
unfolding ordering
slices-ordering [] [] = refl
slices-ordering [] (y ∷ b) = refl
slices-ordering (x ∷ a) [] = refl
slices-ordering (x ∷ a) (y ∷ b) =
    let first = λ (r : Ordering) (is : r ≡ nat_cmp x y). ap (λ (q : Ordering). ordering_then q (slice_cmp nat_cmp a b)) (sym is) in
    by_order x y
    (λ l. first Less (nat_cmp_is x y Less l) ∙ sym (ordering-less x y a b l))
    (λ m. first Greater (nat_cmp_is x y Greater m) ∙ sym (ordering-more x y a b m))
    (λ e. first Equal (nat_cmp_is x y Equal e) ∙ slices-ordering a b ∙ sym (ordering-on x y a b e))

-- a common front does not count
pub ordering-front : (p a b : List ℕ) → ordering (p ++ a) (p ++ b) ≡ ordering a b
ordering-front [] a b = refl
ordering-front (x ∷ p) a b = ordering-on x x (p ++ a) (p ++ b) refl ∙ ordering-front p a b

-- equal in order are the same strings, and no others
pub ordering-same : (a b : List ℕ) → ordering a b ≡ Equal → a ≡ b
unfolding ordering
ordering-same [] [] h = refl
ordering-same [] (y ∷ b) h = absurd (less-not-equal h)
ordering-same (x ∷ a) [] h = absurd (more-not-equal h)
ordering-same (x ∷ a) (y ∷ b) h =
    by_order x y
    (λ l. absurd (less-not-equal (sym (ordering-less x y a b l) ∙ h)))
    (λ m. absurd (more-not-equal (sym (ordering-more x y a b m) ∙ h)))
    (λ e. ap₂ ◌∷◌ e (ordering-same a b (sym (ordering-on x y a b e) ∙ h)))

pub same-ordering : (a b : List ℕ) → a ≡ b → ordering a b ≡ Equal
unfolding ordering
same-ordering a b e = ap (ordering a) (sym e) ∙ ap₂ ordering (sym (append-nil a)) (sym (append-nil a)) ∙ ordering-front a [] []

-- read from the other side the order is reversed
pub ordering-swap : (a b : List ℕ) → ordering b a ≡ ordering_reverse (ordering a b)
unfolding ordering
ordering-swap [] [] = refl
ordering-swap [] (y ∷ b) = refl
ordering-swap (x ∷ a) [] = refl
ordering-swap (x ∷ a) (y ∷ b) =
    by_order x y
    (λ l. ordering-more y x b a l ∙ ap ordering_reverse (sym (ordering-less x y a b l)))
    (λ m. ordering-less y x b a m ∙ ap ordering_reverse (sym (ordering-more x y a b m)))
    (λ e. ordering-on y x b a (sym e) ∙ ordering-swap a b ∙ ap ordering_reverse (sym (ordering-on x y a b e)))

-- ---- less in order is what comes before

before_on : {a b : List ℕ} (x y : ℕ) → x ≡ y → Before a b → Before (x ∷ a) (y ∷ b)
before_on x y e (shorter z b' q) = shorter z b' (ap₂ ◌∷◌ (sym e) q)
before_on x y e (lower p u v a' b' l q r) = lower (x ∷ p) u v a' b' l (ap₂ ◌∷◌ refl q) (ap₂ ◌∷◌ (sym e) r)

pub less-before : (a b : List ℕ) → ordering a b ≡ Less → Before a b
unfolding ordering
less-before [] [] h = absurd (less-not-equal (sym h))
less-before [] (y ∷ b) h = shorter y b refl
less-before (x ∷ a) [] h = absurd (more-not-less h)
less-before (x ∷ a) (y ∷ b) h =
    by_order x y
    (λ l. lower [] x y a b l refl refl)
    (λ m. absurd (more-not-less (sym (ordering-more x y a b m) ∙ h)))
    (λ e. before_on x y e (less-before a b (sym (ordering-on x y a b e) ∙ h)))

pub before-less : (a b : List ℕ) → Before a b → ordering a b ≡ Less
unfolding ordering
before-less a b (shorter y b' q) = ap₂ ordering (sym (append-nil a)) q ∙ ordering-front a [] (y ∷ b')
before-less a b (lower p x y a' b' l q r) = ap₂ ordering q r ∙ ordering-front p (x ∷ a') (y ∷ b') ∙ ordering-less x y a' b' l
