-- Small laws of the tests that the reader makes, and of what it hands back.
-- Assumes nothing.
use mathlib.Core.Path.{◌≡◌, refl, sym}
use mathlib.Core.Bool.{Bool, true, false, cond}
use mathlib.Core.List.{List, [], ◌∷◌, ◌++◌}
use mathlib.Core.Option.{Option, some, none}
use Prim.Native.Nat.{ℕ}
use lib.Dec.{eqb}
use borrow.Author.Tests.{eqb-true}
use Rattle.lists.specs.Elements.{one_of}
use Rattle.lists.specs.Parsing.{Parsed}
use Rattle.lists.proofs.Tests.{clash, or-false}
use Rattle.ere_grammar.specs.Grammar.{Clear, at-end, before}
use Rattle.ere_grammar.specs.Read.{begins, tail}

-- a byte that is none of some bytes is not the first of them, and none of the others
pub not_first : (x : ℕ) (l : List ℕ) (b : ℕ) → one_of (x ∷ l) b ≡ false → eqb b x ≡ false
unfolding one_of
not_first x l b h = (or-false (eqb b x) (one_of l b) h).0

pub not-others : (x : ℕ) (l : List ℕ) (b : ℕ) → one_of (x ∷ l) b ≡ false → one_of l b ≡ false
unfolding one_of
not-others x l b h = (or-false (eqb b x) (one_of l b) h).1

-- ---- how a list begins

pub begins-one : (b : ℕ) (t : List ℕ) → begins (b ∷ []) t ≡ true → t ≡ b ∷ tail t
unfolding begins tail one_of
begins-one b [] h = absurd (clash (sym h))
begins-one b (c ∷ t) h = go (eqb c b) refl
  where
    go : (q : Bool) → eqb c b ≡ q → c ∷ t ≡ b ∷ t
    go true e = rw (eqb-true c b e)
    go false e = absurd (clash (sym (rw e at h)))

pub clear-begins : {bytes t : List ℕ} → Clear bytes t → (r : List ℕ) → begins bytes r ≡ false → begins bytes (t ++ r) ≡ false
unfolding begins
clear-begins at-end r h = h
clear-begins (before k) r h = k

pub begins-clear : (bytes t r : List ℕ) → begins bytes (t ++ r) ≡ false → Clear bytes t
unfolding begins
begins-clear bytes [] r h = at-end
begins-clear bytes (b ∷ t) r h = before h

-- ---- what was read has a property; where nothing was read, there is nothing to say

unfoldable pub Holds : {A : Type 0} → (A → List ℕ → Type 0) → Option (Parsed A) → Type 0
Holds P none = Unit {0}
Holds P (some g) = P g.value g.rest

pub holds-cond : {A : Type 0} (P : A → List ℕ → Type 0) (b : Bool) (x y : Option (Parsed A)) → (b ≡ true → Holds P x) → (b ≡ false → Holds P y)
    → Holds P (cond b x y)
holds-cond P true x y p q = p refl
holds-cond P false x y p q = q refl

pub holds-map : {A : Type 0} (P Q : A → List ℕ → Type 0) (o : Option (Parsed A)) → ((a : A) (l : List ℕ) → P a l → Q a l) → Holds P o → Holds Q o
unfolding Holds
holds-map P Q none f h = h
holds-map P Q (some g) f h = f g.value g.rest h
