-- The lists of an image that passes the check fit, so that one that doesn't fit refuses the image; and lists that fit
-- are their part of the check.
use mathlib.Core.Path.{◌≡◌, refl, sym, ap, subst, ◌∙◌}
use mathlib.Core.Bool.{Bool, true, false, ◌&&◌, and-false}
use mathlib.Core.List.{List}
use Prim.Native.Nat.{ℕ, ◌≤◌}
use native.Mathlib.Omega.{arith}
use lib.ListN.{length, drop}
use borrow.Author.Tests.{le-leb}
use Rattle.image_items.proofs.Following.{taken-same}
use Rattle.lists.proofs.Elements.{every_of}
use Rattle.lists.specs.Elements.{Every, all, is_some, empty, cons}
use Rattle.lists.specs.Parsing.{parsed}
use Rattle.edition.specs.Limits.{user_names}
use Rattle.image_format.specs.Image.{Constant, number, text, Image}
use Rattle.image_format.specs.Reading.{from_bytes, counted}
use Rattle.semantics.specs.Moves.{Section, begin, main, end, section_of}
use Rattle.semantics.specs.Check.{small_constant, section_checks, check}
use Rattle.semantics.specs.Checked.{Short, Checked}
use Rattle.semantics.proofs.Checks.{check-exactly}
use Rattle.semantics.proofs.ImageSizes.{instruction-small}
use Rattle.image_index.specs.Lists.{ItemOf, taker_of, FitsOf, Indexes, Fits, ListAt}
use Rattle.image_index.specs.declared.indexes.Kind.{Kind}
use Rattle.image_index.specs.declared.indexes.Kind.TheVariants.{Constants, Eres, Instructions}
use Rattle.image_index.specs.declared.indexes.Listed.{Listed}
use Rattle.std.specs.Prelude.{Some, None}

-- ---- tests

pub and_both : (a b : Bool) → a ≡ true → b ≡ true → (a && b) ≡ true
and_both a b p q = rw (p, q)

-- what can't be true is false
not_so : (b : Bool) → (b ≡ true → ⊥) → b ≡ false
not_so true h = absurd (h refl)
not_so false h = refl

all-every : {A : Type 0} {P : A → Type 0} {f : A → Bool} {l : List A} → ((a : A) → P a → f a ≡ true) → Every P l → all f l ≡ true
all-every h empty = refl
all-every h (cons {a} p e) = and_both _ _ (h a p) (all-every h e)

module _ (i : Image) where
  -- ---- what the check refuses

  pub unchecked : (Checked i → ⊥) → check i ≡ false
  unchecked n = not_so (check i) (λ h. n ((check-exactly i).0 h))

  pub section-refuses : (s : Section) → section_checks i s ≡ false → check i ≡ false
  unfolding check
  section-refuses begin e = rw e (simp and-false)
  section-refuses main e = rw e (simp and-false)
  section-refuses end e = rw e (simp and-false)

  -- ---- what fits

  constant-fits : (a : Constant) → Short a → FitsOf i.edition Constants a
  constant-fits (number n) h = tt
  constant-fits (text l) h = h

  constant-small : (a : Constant) → FitsOf i.edition Constants a → small_constant a ≡ true
  constant-small (number n) h = refl
  constant-small (text l) h = le-leb _ _ h

  module _ (c : Checked i) (l : List ℕ) where
    pub constants-fit : Fits i.edition Constants l i.constants
    constants-fit = record {
      some_items = omega arith;
      few = c.constants;
      each = every_of i.constants (λ n a h. constant-fits a (c.texts n a h));
    }

    pub eres-fit : Fits i.edition Eres l i.eres
    eres-fit = record { some_items = omega arith; few = c.eres; each = every_of i.eres c.reads }

    pub section-fits : (s : Section) → Fits i.edition Instructions l (section_of i s)
    section-fits s = record {
      some_items = c.some_code s;
      few = c.few s;
      each = every_of (section_of i s) (λ n j h.
          let x = instruction-small i c s n j h in
          (x.depth, x.numbers));
    }

  -- lists that fit, and sections that pass, are all of the check
  pub check-all : (l : List ℕ) → i.users ≤ user_names → Fits i.edition Constants l i.constants → Fits i.edition Eres l i.eres
      → (section_checks i begin && (section_checks i main && section_checks i end)) ≡ true → check i ≡ true
  unfolding check
  check-all l u c e s =
      and_both _ _
      (and_both _ _ (le-leb _ _ u)
      (and_both _ _ (le-leb _ _ c.few) (and_both _ _ (all-every constant-small c.each) (le-leb _ _ e.few))))
      (and_both _ _ (all-every (λ l (r : FitsOf i.edition Eres l). ap is_some r.1) e.each) s)

  -- ---- a list by what the code found

  module _ (k : Kind) (xs : List (ItemOf k)) (l : List ℕ) (at : ℕ) (index t : List ℕ)
      (e : counted from_bytes (taker_of i.edition k) (drop at l) ≡ parsed xs t) where
    pub list-refused : ListAt i.edition k l at None index → (Checked i → Fits i.edition k l xs) → check i ≡ false
    list-refused x fit = unchecked (λ c. x xs t e (fit c))

    pub list-found : (r : Listed) → ListAt i.edition k l at (Some r) index
        → (t ≡ drop r.end l) × (r.count ≡ length xs) × (Fits i.edition k l xs) × (Indexes i.edition k l xs index)
    list-found r f =
        let same = taken-same f.1.taken e in (
          sym same.1,
          f.2 ∙ ap length same.0,
          subst (Fits i.edition k l) same.0 f.3,
          subst (λ (ys : List (ItemOf k)). Indexes i.edition k l ys index) same.0 f.4,
        )
