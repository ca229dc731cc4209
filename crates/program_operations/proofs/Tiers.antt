-- The tiers, and the levels.
use mathlib.Core.Path.{◌≡◌, refl}
use mathlib.Core.Bool.{Bool, true, false}
use mathlib.Core.List.{List}
use Prim.Native.Nat.{ℕ, zero, suc, ◌-◌}
use native.Mathlib.Omega.{arith}
use lib.Dec.{eqb}
use borrow.Author.Tests.{ne_eqb, eqb-true, eqb-false}
use Rattle.program_tokens.specs.Tokens.{Token}
use Rattle.program_tree.specs.Tree.{Expression}
use Rattle.program_reader.specs.Read.{Read as Result, no, too_deep}
use Rattle.program_reader.specs.Expressions.{Inner, turns, matching, field_form, prefix_form, assignment, more, step_tier, tier, inside}
use Rattle.program_parser.specs.declared.read.Read.{Read}
use Rattle.program_parser.specs.Reading.{Reading}
use Rattle.program_operations.specs.Parts.{Continues, ContinuesFrom}
use Rattle.program_operations.proofs.Readings.{failed, continued, continued-from}

module _ (edition : ℕ) (s : List ℕ) where
  -- ---- levels

  pub inside-none : (levels : ℕ) (printed : Bool) (k : ℕ) (opener t : Token) → levels ≡ 0
      → inside edition s levels printed k opener t ≡ too_deep opener
  unfolding inside
  inside-none levels printed k opener t e = rw e

  pub inside-some : (levels : ℕ) (printed : Bool) (k : ℕ) (opener t : Token) → (levels ≡ 0 → ⊥)
      → inside edition s levels printed k opener t ≡ tier edition s (inside edition s (levels - 1)) printed k t
  unfolding inside
  inside-some zero printed k opener t z = absurd (z refl)
  inside-some (suc levels) printed k opener t z = let e : suc levels - 1 ≡ levels = omega arith in rw e

  pub inside-read : (levels : ℕ) (printed : Bool) (k : ℕ) (opener t : Token) (n d : ℕ) (xs ys : List ℕ) (r : Read)
      → (levels ≡ 0 → ⊥)
      → Reading edition s t n d xs (tier edition s (inside edition s (levels - 1)) printed k t) r ys
      → Reading edition s t n d xs (inside edition s levels printed k opener t) r ys
  inside-read levels printed k opener t n d xs ys r z h = rw (inside-some levels printed k opener t z) h

  -- ---- tiers

  pub more_no : (printed : Bool) (k : ℕ) (below : Token → Result Expression) (n o p : ℕ)
      → more edition s printed k below n (no o p) ≡ no o p
  unfolding more
  more_no printed k below zero o p = refl
  more_no printed k below (suc n) o p = refl

  module _ (inner : Inner) (printed : Bool) where
    pub tier-fields : (k : ℕ) (t : Token) → k ≡ 0 → field_form edition s inner t ≡ tier edition s inner printed k t
    unfolding tier
    tier-fields k t e = rw e

    pub tier-prefixed : (k : ℕ) (t : Token) → k ≡ 1
        → prefix_form edition s inner (field_form edition s inner) t ≡ tier edition s inner printed k t
    unfolding tier step_tier prefix_form
    tier-prefixed k t e = rw e

    pub tier-matched : (k : ℕ) (t : Token) → k ≡ 6 → matching edition s (tier edition s inner printed (k - 1) t)
        ≡ tier edition s inner printed k t
    unfolding tier step_tier
    tier-matched k t e = rw e

    pub tier-assigned : (k : ℕ) (t : Token) → k ≡ 10
        → assignment edition s inner printed (tier edition s inner printed (k - 1) t) ≡ tier edition s inner printed k t
    unfolding tier step_tier
    tier-assigned k t e = rw e

    pub tier-more : (k : ℕ) (t : Token) → (k ≡ 0 → ⊥) → (k ≡ 1 → ⊥) → (k ≡ 6 → ⊥) → (k ≡ 10 → ⊥)
        → more edition s printed k (tier edition s inner printed (k - 1)) (turns s k)
        (tier edition s inner printed (k - 1) t)
        ≡ tier edition s inner printed k t
    unfolding tier step_tier
    tier-more zero t a b c d = absurd (a refl)
    tier-more (suc k) t a b c d =
        let e : suc k - 1 ≡ k = omega arith in
        rw (e, ne_eqb (suc k) 1 b, ne_eqb (suc k) 6 c, ne_eqb (suc k) 10 d)

    pub read-fields : (k : ℕ) (t : Token) (n d : ℕ) (xs ys : List ℕ) (r : Read) → k ≡ 0
        → Reading edition s t n d xs (field_form edition s inner t) r ys
        → Reading edition s t n d xs (tier edition s inner printed k t) r ys
    read-fields k t n d xs ys r e h = rw (← (tier-fields k t e)) h

    pub read-prefixed : (k : ℕ) (t : Token) (n d : ℕ) (xs ys : List ℕ) (r : Read) → k ≡ 1
        → Reading edition s t n d xs (prefix_form edition s inner (field_form edition s inner) t) r ys
        → Reading edition s t n d xs (tier edition s inner printed k t) r ys
    read-prefixed k t n d xs ys r e h = rw (← (tier-prefixed k t e)) h

    -- a reading that failed at the tier below
    pub tier-failed : (k : ℕ) (t : Token) (n d : ℕ) (xs ys : List ℕ) (r : Read) → (k ≡ 0 → ⊥) → (k ≡ 1 → ⊥)
        → Reading edition s t n d xs (tier edition s inner printed (k - 1) t) r ys → (r.outcome ≡ 0 → ⊥)
        → Reading edition s t n d xs (tier edition s inner printed k t) r ys
    unfolding matching assignment
    tier-failed k t n d xs ys r a b h z = go (eqb k 6) refl (eqb k 10) refl
      where
        go : (x : Bool) → eqb k 6 ≡ x → (y : Bool) → eqb k 10 ≡ y
            → Reading edition s t n d xs (tier edition s inner printed k t) r ys
        go true e y f =
            rw (← (tier-matched k t (eqb-true k 6 e)))
            (failed edition s t n d xs (matching edition s) (λ o p. refl) t n d xs
            (tier edition s inner printed (k - 1) t) r ys h z ys)
        go false e true f =
            rw (← (tier-assigned k t (eqb-true k 10 f)))
            (failed edition s t n d xs (assignment edition s inner printed) (λ o p. refl) t n d xs
            (tier edition s inner printed (k - 1) t) r ys h z ys)
        go false e false f =
            rw (← (tier-more k t a b (eqb-false k 6 e) (eqb-false k 10 f)))
            (failed edition s t n d xs (more edition s printed k (tier edition s inner printed (k - 1)) (turns s k))
            (more_no printed k (tier edition s inner printed (k - 1)) (turns s k)) t n d xs
            (tier edition s inner printed (k - 1) t) r ys h z ys)

    module _ (k : ℕ) (t : Token) (n d : ℕ) (xs ys zs : List ℕ) (r q : Read)
        (h : Reading edition s t n d xs (tier edition s inner printed (k - 1) t) r ys) (z : r.outcome ≡ 0) where
      pub read-matched : k ≡ 6 → Continues edition s d (matching edition s) r ys q zs
          → Reading edition s t n d xs (tier edition s inner printed k t) q zs
      read-matched e c =
          rw (← (tier-matched k t e)) (continued edition s t n d xs (matching edition s)
          (tier edition s inner printed (k - 1) t) r q ys zs h z c)

      pub read-assigned : k ≡ 10 → (start : ℕ) → t.start ≡ start
          → ContinuesFrom edition s start d (assignment edition s inner printed) r ys q zs
          → Reading edition s t n d xs (tier edition s inner printed k t) q zs
      read-assigned e start a c =
          rw (← (tier-assigned k t e))
          (continued-from edition s t n d xs start (assignment edition s inner printed)
          (tier edition s inner printed (k - 1) t) r q ys zs a h z c)

      pub read_more : (k ≡ 0 → ⊥) → (k ≡ 1 → ⊥) → (k ≡ 6 → ⊥) → (k ≡ 10 → ⊥)
          → Continues edition s d (more edition s printed k (tier edition s inner printed (k - 1)) (turns s k)) r ys q
          zs
          → Reading edition s t n d xs (tier edition s inner printed k t) q zs
      read_more a b e f c =
          rw (← (tier-more k t a b e f))
          (continued edition s t n d xs (more edition s printed k (tier edition s inner printed (k - 1)) (turns s k))
          (tier edition s inner printed (k - 1) t) r q ys zs h z c)
