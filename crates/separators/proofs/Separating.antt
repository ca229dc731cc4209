-- The kind of a separator, by its length and its first byte.
use mathlib.Core.Path.{◌≡◌, refl, ap, subst, ◌∙◌}
use mathlib.Core.List.{List, [], ◌∷◌}
use mathlib.Core.Option.{some, none}
use Prim.Native.Nat.{ℕ, ◌<◌}
use native.Mathlib.Omega.{arith}
use lib.ListN.{length, get_or}
use borrow.Author.Tests.{eq-eqb, ne_eqb}
use Rattle.ere_meaning.specs.Tree.{Class, Ere}
use Rattle.ere_grammar.specs.Read.{read_ere}
use types.Run.{OneOf, miss}
use denote.Enum.Declared.{tag_of}
use Rattle.separators.specs.Kinds.{Told, Tells}
use Rattle.separators.specs.declared.kinds.Kind.{Kind}
use Rattle.separators.specs.declared.kinds.Kind.TheVariants.{Blank, Byte, Pattern, Refused}
use Rattle.separators.specs.contracts.kinds.Kind.{the_type}
use Rattle.splitting.specs.Separator.{blanks, blank, byte, ere, by_ere, single, separator_of}

module _ (edition : ℕ) where
  pub of_none : (l : List ℕ) → length l ≡ 0 → separator_of edition l ≡ none
  unfolding separator_of
  of_none [] h = refl
  of_none (b ∷ t) h = absurd (omega arith)

  of-single : (l : List ℕ) → 0 < length l → length l < 2 → separator_of edition l ≡ some (single edition (get_or l 0 0))
  unfolding separator_of
  of-single [] h g = absurd (omega arith)
  of-single (b ∷ []) h g = refl
  of-single (b ∷ c ∷ t) h g = absurd (omega arith)

  pub of-blank : (l : List ℕ) → 0 < length l → length l < 2 → get_or l 0 0 ≡ 32 → separator_of edition l ≡ some (blank (blanks edition))
  of-blank l h g e = of-single l h g ∙ rw (eq-eqb (get_or l 0 0) 32 e)

  pub of-byte : (l : List ℕ) → 0 < length l → length l < 2 → (get_or l 0 0 ≡ 32 → ⊥) → separator_of edition l ≡ some (byte (get_or l 0 0))
  of-byte l h g e = of-single l h g ∙ rw (ne_eqb (get_or l 0 0) 32 e)

  of-longer : (l : List ℕ) → 1 < length l → separator_of edition l ≡ by_ere (read_ere edition l)
  unfolding separator_of
  of-longer [] h = absurd (omega arith)
  of-longer (b ∷ []) h = absurd (omega arith)
  of-longer (b ∷ c ∷ t) h = refl

  pub of-ere : (l : List ℕ) → 1 < length l → (e : Ere Class) → read_ere edition l ≡ some e → separator_of edition l ≡ some (ere e)
  of-ere l h e r = of-longer l h ∙ ap by_ere r

  pub of-no-ere : (l : List ℕ) → 1 < length l → read_ere edition l ≡ none → separator_of edition l ≡ none
  of-no-ere l h r = of-longer l h ∙ ap by_ere r

-- ---- a kind that isn't refused

pub told : (edition : ℕ) (bytes t : List ℕ) (k : Kind) → (k ≡ Refused → ⊥) → Tells edition bytes t k → Told edition bytes t k
told edition bytes t Blank n h = h
told edition bytes t (Byte b) n h = h
told edition bytes t Pattern n h = h
told edition bytes t Refused n h = absurd (n refl)

-- a code's match has come to the arm of the other kinds
pub not-refused : (k : Kind) → OneOf (0 ∷ 1 ∷ 2 ∷ []) (tag_of the_type k) → k ≡ Refused → ⊥
not-refused k h e = miss (0 ∷ 1 ∷ 2 ∷ []) 3 tt (subst (λ (x : Kind). OneOf (0 ∷ 1 ∷ 2 ∷ []) (tag_of the_type x)) e h)
