-- Laws on the first place of a byte, and of a part.
use mathlib.Core.Path.{◌≡◌, refl, ap, ◌∙◌, subst}
use mathlib.Core.Bool.{true, Bool-discrete}
use mathlib.Core.List.{List, [], ◌∷◌}
use mathlib.Core.Option.{Option, some, none}
use Prim.Native.Nat.{ℕ, zero, suc, ◌≤◌, ◌<◌}
use native.Mathlib.Decide.{ℕ_discrete}
use native.Mathlib.Omega.{arith}
use lib.ListN.{length, take, get_or, length-take}
use borrow.Author.Tests.{eq-eqb, ne_eqb}
use Rattle.buffer.specs.Parts.{part}
use Rattle.buffer.specs.Order.{equal_bytes}
use Rattle.buffer.specs.First.{first_byte, starts_with, further, first_part, Stands, FirstAt, IsFirst}
use Rattle.buffer.proofs.Ordering.{equal-same, same-equal, unless}

-- ---- the first place of a byte

pub first-byte-here : (b x : ℕ) (s : List ℕ) → x ≡ b → first_byte b (x ∷ s) ≡ 0
unfolding first_byte
first-byte-here b x s e = rw (eq-eqb x b e)

pub first-byte-on : (b x : ℕ) (s : List ℕ) → (x ≡ b → ⊥) → first_byte b (x ∷ s) ≡ suc (first_byte b s)
unfolding first_byte
first-byte-on b x s n = rw (ne_eqb x b n)

-- it is at most the length
pub first-byte-most : (b : ℕ) (s : List ℕ) → first_byte b s ≤ length s
unfolding first_byte
first-byte-most b [] = omega arith
first-byte-most b (x ∷ s) =
    elim (ℕ_discrete x b) [ yes e ↦ omega (arith, first-byte-here b x s e) | no n ↦ omega (arith, first-byte-on b x s n, first-byte-most b s) ]

-- below it is no b
pub first-byte-below : (b : ℕ) (s : List ℕ) (k : ℕ) → k < first_byte b s → get_or s k 0 ≡ b → ⊥
unfolding first_byte
first-byte-below b [] k h e = omega arith
first-byte-below b (x ∷ s) zero h e = omega (arith, first-byte-here b x s e)
first-byte-below b (x ∷ s) (suc k) h e =
    elim (ℕ_discrete x b) [ yes f ↦ omega (arith, first-byte-here b x s f) | no n ↦ first-byte-below b s k (omega (arith, first-byte-on b x s n)) e ]

-- at it, unless it is the length, is a b
pub first-byte-at : (b : ℕ) (s : List ℕ) → first_byte b s < length s → get_or s (first_byte b s) 0 ≡ b
unfolding first_byte
first-byte-at b [] h = absurd (omega arith)
first-byte-at b (x ∷ s) h =
    elim (ℕ_discrete x b) [
      | yes e ↦ ap (λ (k : ℕ). get_or (x ∷ s) k 0) (first-byte-here b x s e) ∙ e
      | no n ↦ ap (λ (k : ℕ). get_or (x ∷ s) k 0) (first-byte-on b x s n) ∙ first-byte-at b s (omega (arith, first-byte-on b x s n))
    ]

-- ---- the first place of a part

stands_on : (t s : List ℕ) (x k : ℕ) → Stands t s k → Stands t (x ∷ s) (suc k)
unfolding part
stands_on t s x k h = record { fits = omega arith; same = h.same }

stands-back : (t s : List ℕ) (x k : ℕ) → Stands t (x ∷ s) (suc k) → Stands t s k
unfolding part
stands-back t s x k h = record { fits = omega arith; same = h.same }

starts-stands : (t s : List ℕ) → take (length t) s ≡ t → Stands t s 0
unfolding part
starts-stands t s e = record { fits = omega (arith, simp length-take at (ap length e)); same = e }

starts : (t s : List ℕ) → Dec (starts_with t s ≡ true)
starts t s = Bool-discrete (starts_with t s) true

here : (t s : List ℕ) → starts_with t s ≡ true → FirstAt t s 0
unfolding starts_with
here t s h = record { stands = starts-stands t s (equal-same (take (length t) s) t h); least = λ j w. omega arith }

not-here : (t s : List ℕ) → (starts_with t s ≡ true → ⊥) → Stands t s 0 → ⊥
unfolding part starts_with
not-here t s n w = n (same-equal (take (length t) s) t w.same)

-- an answer that is right for s is right for x and s, one further, where t is not at the front
further-right : (t s : List ℕ) (x : ℕ) (o : Option ℕ) → (Stands t (x ∷ s) 0 → ⊥) → IsFirst t s o → IsFirst t (x ∷ s) (further o)
further-right t s x (some k) n w =
    record {
      stands = stands_on t s x k w.stands;
      least = λ j. elim j as (λ i. Stands t (x ∷ s) i → suc k ≤ i) [ zero ↦ λ v. absurd (n v) | suc j ↦ λ v. omega (arith, w.least j (stands-back t s x j v)) ];
    }
further-right t s x none n w = λ j. elim j as (λ k. Stands t (x ∷ s) k → ⊥) [ zero ↦ n | suc j ↦ λ v. w j (stands-back t s x j v) ]

-- the answer is right
pub first-part-right : (t s : List ℕ) → IsFirst t s (first_part t s)
unfolding first_part
first-part-right t [] =
    elim (starts t []) [
      | yes h ↦ rw h (here t [] h)
      | no n ↦ rw (unless (starts_with t []) n) (λ j w. not-here t [] n (subst (Stands t []) (let z : j ≡ 0 = omega (arith, w.fits) in z) w))
    ]
first-part-right t (x ∷ s) =
    elim (starts t (x ∷ s)) [
      | yes h ↦ rw h (here t (x ∷ s) h)
      | no n ↦ rw (unless (starts_with t (x ∷ s)) n) (further-right t s x (first_part t s) (not-here t (x ∷ s) n) (first-part-right t s))
    ]

-- there is one right answer
one_right : (t s : List ℕ) (o p : Option ℕ) → IsFirst t s o → IsFirst t s p → o ≡ p
one_right t s (some k) (some j) v w = let e : k ≡ j = omega (arith, v.least j w.stands, w.least k v.stands) in ap some e
one_right t s (some k) none v w = absurd (w k v.stands)
one_right t s none (some j) v w = absurd (v j w.stands)
one_right t s none none v w = refl

pub first-part-is : (t s : List ℕ) (o : Option ℕ) → IsFirst t s o → first_part t s ≡ o
first-part-is t s o w = one_right t s (first_part t s) o (first-part-right t s) w

-- `some k` exactly if t is at k and at no lower index, `none` exactly if it is nowhere
pub first-part-some : (t s : List ℕ) (k : ℕ) → first_part t s ≡ some k → FirstAt t s k
first-part-some t s k e = subst (IsFirst t s) e (first-part-right t s)

pub some-first-part : (t s : List ℕ) (k : ℕ) → FirstAt t s k → first_part t s ≡ some k
some-first-part t s k w = first-part-is t s (some k) w

pub first-part-none : (t s : List ℕ) → first_part t s ≡ none → (j : ℕ) → Stands t s j → ⊥
first-part-none t s e = subst (IsFirst t s) e (first-part-right t s)

pub none-first-part : (t s : List ℕ) → ((j : ℕ) → Stands t s j → ⊥) → first_part t s ≡ none
none-first-part t s w = first-part-is t s none w

-- the empty part is at the front
pub first-part-empty : (s : List ℕ) → first_part [] s ≡ some 0
unfolding first_part starts_with equal_bytes
first-part-empty [] = refl
first-part-empty (x ∷ s) = refl
