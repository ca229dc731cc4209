-- The theorem of document 01's grammar of EREs: what `read_ere` computes is what the grammar says, and that is at most
-- one tree. Assumes nothing.
use mathlib.Core.Path.{◌≡◌, refl, subst}
use mathlib.Core.Logic.{◌↔◌}
use mathlib.Core.Bool.{Bool, true, false, cond}
use mathlib.Core.List.{List, [], ◌∷◌, ◌++◌, append-nil}
use mathlib.Core.Option.{Option, some, none}
use Prim.Native.Nat.{ℕ, suc, ◌≤◌}
use native.Mathlib.Omega.{arith}
use lib.ListN.{length}
use borrow.Author.Tests.{leb-true, le-leb}
use Rattle.edition.specs.Limits.{ere_bytes, ere_places, ere_groups}
use Rattle.ere_meaning.specs.Tree.{Class, Ere, places}
use Rattle.ere_grammar.specs.Grammar.{Reads}
use Rattle.ere_grammar.specs.Read.{Tree, whole, read_ere}
use Rattle.ere_grammar.proofs.Laws.{Holds}
use Rattle.ere_grammar.proofs.Sound.{RestRead, group-spelled}
use Rattle.ere_grammar.proofs.Complete.{whole-complete}

module _ (edition : ℕ) (bytes : List ℕ) where
  Answers : Option (Ere Class) → Type 0
  Answers none = Unit {0}
  Answers (some e) = Reads edition bytes e

  answers-cond : (b : Bool) (x : Option (Ere Class)) → (b ≡ true → Answers x) → Answers (cond b x none)
  unfolding Answers
  answers-cond true x f = f refl
  answers-cond false x f = tt

  whole-sound : length bytes ≤ ere_bytes → (o : Tree) → Holds (RestRead edition ere_groups [] bytes) o → Answers (whole o)
  unfolding Answers Holds whole
  whole-sound l none h = tt
  whole-sound l (some g) (s, e, k) = go g.rest e
    where
      go : (t : List ℕ) → bytes ≡ s ++ t → Answers (whole (some (record { value = g.value; rest = t })))
      go [] q =
          answers-cond _ (some g.value) (λ p. record { spelled = rw (q, append-nil) k; short = l; few = leb-true (places g.value) ere_places p })
      go (b ∷ t) q = tt

  answers : Answers (read_ere edition bytes)
  unfolding read_ere
  answers = answers-cond _ _ (λ h. whole-sound (leb-true (length bytes) ere_bytes h) _ (group-spelled edition (suc (length bytes)) ere_groups bytes))

  -- a tree that is read is one that the bytes spell
  pub read-sound : {e : Ere Class} → read_ere edition bytes ≡ some e → Reads edition bytes e
  unfolding Answers
  read-sound h = subst Answers h answers

  -- a tree that the bytes spell is read
  pub read-complete : {e : Ere Class} → Reads edition bytes e → read_ere edition bytes ≡ some e
  unfolding read_ere whole
  read-complete {e} r =
      rw (le-leb (length bytes) ere_bytes r.short, whole-complete edition r.spelled (suc (length bytes)) (omega arith), le-leb (places e) ere_places r.few)

  -- the bytes spell at most one tree
  pub read_only : {a b : Ere Class} → Reads edition bytes a → Reads edition bytes b → a ≡ b
  read_only h k = let p = read-complete h in let q = read-complete k in cc

  -- bytes are refused exactly if they spell none
  pub refused_none : read_ere edition bytes ≡ none → (e : Ere Class) → Reads edition bytes e → ⊥
  refused_none h e r = let q = read-complete r in let z : ◌≡◌ {A = ℕ} 0 1 = cc in omega arith

  pub none-refused : ((e : Ere Class) → Reads edition bytes e → ⊥) → read_ere edition bytes ≡ none
  none-refused h = go (read_ere edition bytes) refl
    where
      go : (o : Option (Ere Class)) → read_ere edition bytes ≡ o → o ≡ none
      go none q = refl
      go (some e) q = absurd (h e (read-sound q))

  pub refused-exactly : (read_ere edition bytes ≡ none) ↔ ((e : Ere Class) → Reads edition bytes e → ⊥)
  refused-exactly = (refused_none, none-refused)
