-- Laws on reading one byte of a bracket, from an index of a list on.
use mathlib.Core.Path.{◌≡◌, refl, sym, ap, ◌∙◌}
use mathlib.Core.Bool.{true, false, true≢false, not, ◌||◌, ◌&&◌}
use mathlib.Core.List.{List, [], ◌∷◌}
use mathlib.Core.Option as maybe
use Prim.Native.Nat.{ℕ, ◌+◌, ◌<◌}
use native.Mathlib.Decide.{dec_lt}
use native.Mathlib.Omega.{arith}
use lib.ListN.{length, drop, get_or, drop_of_length-le}
use lib.Dec.{eqb}
use denote.Ref.{Bor}
use borrow.Author.Tests.{eq-eqb, eqb-true, ne_eqb}
use Rattle.std.specs.Prelude.{Option, Some, None}
use Rattle.std.specs.Option.{option_copied, option_eq}
use Rattle.std.specs.Slice.{IsItemAt}
use Rattle.std.proofs.lemmas.Option.{none-some, same_Some}
use Rattle.lists.proofs.Tests.{or-none, or-false, or-group}
use Rattle.lists.specs.Elements.{one_of}
use Rattle.buffer.proofs.Parts.{drop-next}
use Rattle.ere_grammar.specs.Bytes.{escape_of}
use Rattle.ere_grammar.specs.Read.{begins, read_escape, escaped_byte, read_member, joins}
use Rattle.ere_member.specs.Members.{class_marks, Further, Reads}

further-on : (r : Option (ℕ × ℕ)) (l : List ℕ) (at : ℕ) → Further r l (at + 1) → Further r l at
further-on (Some m) l at h = (omega arith, omega arith)
further-on None l at h = tt

-- ---- what a look at an index tells

-- the byte b is at index `at` of l
pub record Here (l : List ℕ) (at b : ℕ) : Type 0 where
  pub inside : at < length l
  pub left : drop at l ≡ b ∷ drop (at + 1) l

module _ (l : List ℕ) (at : ℕ) where
  pub here : {b : ℕ} (r : Option (Bor ℕ)) → IsItemAt l at r → option_copied r ≡ Some b → Here l at b
  here None h e = absurd (none-some _ e)
  here {b} (Some x) h e =
      let k : get_or l at 0 ≡ b = sym (h.4 (omega arith) 0) ∙ same_Some x.now b e in
      record { inside = h.3.0; left = rw (← k) (drop-next l at h.3.0) }

  pub past : (r : Option (Bor ℕ)) → IsItemAt l at r → option_copied r ≡ None → drop at l ≡ []
  past None h e = drop_of_length-le l {i = at} h.3
  past (Some x) h e = absurd (none-some _ (sym e))

  -- ---- past the end

  module _ (h : drop at l ≡ []) where
    pub begins-past : (bs : List ℕ) → false ≡ begins bs (drop at l)
    unfolding begins
    begins-past bs = rw h

    pub escape-past : Reads None l at (read_escape (drop at l))
    unfolding read_escape
    escape-past = rw h (record { same = refl; further = tt })

    pub member-past : Reads None l at (read_member (drop at l))
    unfolding read_member
    member-past = rw h (record { same = refl; further = tt })

  -- ---- at a byte

  module _ {b : ℕ} (h : Here l at b) where
    pub begins-class : ((eqb b 58 || eqb b 61) || eqb b 46) ≡ begins class_marks (drop at l)
    unfolding begins one_of
    begins-class = rw (h.left, or-none (eqb b 46)) (sym (or-group (eqb b 58) (eqb b 61) (eqb b 46)))

    pub escape-byte : (c : ℕ) → maybe.some c ≡ escape_of b → Reads (Some (c, at + 1)) l at (read_escape (drop at l))
    unfolding read_escape escaped_byte
    escape-byte c e = let k = h.inside in record { same = rw (h.left, ← e); further = (omega arith, omega arith) }

    pub escape-bad : maybe.none ≡ escape_of b → Reads None l at (read_escape (drop at l))
    unfolding read_escape escaped_byte
    escape-bad e = record { same = rw (h.left, ← e); further = tt }

    pub member-escape : (r : Option (ℕ × ℕ)) → b ≡ 92 → Reads r l (at + 1) (read_escape (drop (at + 1) l)) → Reads r l at (read_member (drop at l))
    unfolding read_member
    member-escape r e w =
        record { same = rw (h.left, eq-eqb b 92 e) w.same; further = further-on r l at w.further }

    pub member-class : (b ≡ 92 → ⊥) → b ≡ 91 → true ≡ begins class_marks (drop (at + 1) l) → Reads None l at (read_member (drop at l))
    unfolding read_member
    member-class n e q = record { same = rw (h.left, ne_eqb b 92 n, eq-eqb b 91 e, ← q); further = tt }

    member-itself : (b ≡ 92 → ⊥) → (eqb b 91 && begins class_marks (drop (at + 1) l)) ≡ false → Reads (Some (b, at + 1)) l at (read_member (drop at l))
    unfolding read_member
    member-itself n q =
        let k = h.inside in
        record { same = rw (h.left, ne_eqb b 92 n, q); further = (omega arith, omega arith) }

    pub member-plain : (b ≡ 92 → ⊥) → (b ≡ 91 → ⊥) → Reads (Some (b, at + 1)) l at (read_member (drop at l))
    member-plain n m = member-itself n (rw (ne_eqb b 91 m))

    pub member-open : (b ≡ 92 → ⊥) → b ≡ 91 → false ≡ begins class_marks (drop (at + 1) l) → Reads (Some (b, at + 1)) l at (read_member (drop at l))
    member-open n e q = member-itself n (rw (eq-eqb b 91 e, ← q))

-- ---- a byte that is asked for

module _ (l : List ℕ) (at b : ℕ) where
  pub stands-here : (r : Option (Bor ℕ)) → IsItemAt l at r → option_eq eqb (option_copied r) (Some b) ≡ begins (b ∷ []) (drop at l)
  unfolding begins one_of
  stands-here None h = begins-past l at (past l at None h refl) (b ∷ [])
  stands-here (Some x) h = rw (here l at {b = x.now} (Some x) h refl).left (sym (or-none (eqb x.now b)))

-- a byte that is somewhere is in the list
pub begins-inside : (l : List ℕ) (at : ℕ) (bs : List ℕ) → true ≡ begins bs (drop at l) → at < length l
begins-inside l at bs e =
    elim (dec_lt at (length l)) [ yes h ↦ h | no n ↦ absurd (true≢false (e ∙ sym (begins-past l at (drop_of_length-le l {i = at} (omega arith)) bs))) ]

-- ---- a `-` that joins

no-hyphen : (t : List ℕ) → false ≡ begins (45 ∷ []) t → false ≡ joins t
unfolding begins one_of joins
no-hyphen [] e = refl
no-hyphen (b ∷ t) e = rw (or-false (eqb b 45) false (sym e)).0

module _ (l : List ℕ) (at : ℕ) where
  pub joins-not : false ≡ begins (45 ∷ []) (drop at l) → false ≡ joins (drop at l)
  joins-not = no-hyphen (drop at l)

  module _ (e : true ≡ begins (45 ∷ []) (drop at l)) where
    at_hyphen : drop at l ≡ 45 ∷ drop (at + 1) l
    unfolding begins one_of
    at_hyphen =
        let k = drop-next l at (begins-inside l at (45 ∷ []) e) in
        let h : eqb (get_or l at 0) 45 ≡ true = sym (or-none (eqb (get_or l at 0) 45)) ∙ sym (rw k at e) in
        k ∙ ap (λ (b : ℕ). b ∷ drop (at + 1) l) (eqb-true (get_or l at 0) 45 h)

    pub joins-on : {b : ℕ} → Here l (at + 1) b → not (eqb b 93) ≡ joins (drop at l)
    unfolding joins
    joins-on h = rw (at_hyphen, h.left)

    pub joins-last : drop (at + 1) l ≡ [] → false ≡ joins (drop at l)
    unfolding joins
    joins-last h = rw (at_hyphen, h)

pub joins-inside : (l : List ℕ) (at : ℕ) → true ≡ joins (drop at l) → at < length l
joins-inside l at e = elim (dec_lt at (length l)) [
  | yes h ↦ h
  | no n ↦ absurd (true≢false (e ∙ sym (joins-not l at (begins-past l at (drop_of_length-le l {i = at} (omega arith)) (45 ∷ [])))))
]
