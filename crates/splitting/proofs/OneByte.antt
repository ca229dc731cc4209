-- Fields that one byte separates: the fields are those that the relation says, and there are no others.
use mathlib.Core.Path.{◌≡◌, refl, sym, ap, ap₂, subst, ◌∙◌}
use mathlib.Core.Logic.{⊎_elim}
use mathlib.Core.Bool.{true, false}
use mathlib.Core.List.{List, [], ◌∷◌, ◌++◌, map, append-nil}
use Prim.Native.Nat.{ℕ, zero, suc, ◌+◌, ◌≤◌, ◌<◌}
use native.Mathlib.Nat.{eq-or-lt_of_le}
use native.Mathlib.Decide.{ℕ_discrete}
use native.Mathlib.Omega.{arith}
use lib.ListN.{length, get_or, drop}
use lib.Seq.{drop-cons}
use Rattle.lists.specs.Elements.{leading, All, empty, cons}
use Rattle.buffer.specs.Parts.{part}
use Rattle.splitting.specs.Separator.{byte}
use Rattle.splitting.specs.Field.{span, field, is_in, next_field, fields_from, fields_of}
use Rattle.splitting.specs.Meaning.{ByteSplit, last, more, Occurs, never, once_more}
use Rattle.splitting.specs.Splitting.{text_of}
use Rattle.splitting.proofs.Turns.{byte-field, next_past, fields-more, fields-none, fields-of}
use Rattle.splitting.proofs.Fronts.{Stops, nil-no-cons, cut-one, run-all, run-stops, run-most, byte-itself, other_byte, stop-byte, first-leading}
use Rattle.splitting.proofs.Weaving.{holds_of, part-rest, part-last}

-- ---- the fields are so split

module _ (b : ℕ) where
  module _ (text : List ℕ) where
    -- how many bytes from a place on are no b
    abbrev run : ℕ → ℕ
    run at = leading (is_in false (b ∷ [])) (drop at text)

    byte_next : (at : ℕ) → at ≤ length text → next_field text (byte b) at ≡ field (span at (run at)) (suc (at + run at))
    byte_next at h = byte-field text b at h ∙ ap (λ (n : ℕ). field (span at n) (suc (at + n))) (first-leading b (drop at text))

    -- after the bytes that are no b comes b, or the text's end
    byte_cut : (at : ℕ) → at + run at < length text → drop at text ≡ part at (run at) text ++ (b ∷ drop (suc (at + run at)) text)
    byte_cut at h =
        let c = drop-cons text (at + run at) 0 h in
        let z = stop-byte b (get_or text (at + run at) 0) (subst (Stops false (b ∷ [])) c (run-stops text false (b ∷ []) at)) in
        sym (part-rest text at (run at) (at + run at) refl)
        ∙ ap (λ (l : List ℕ). part at (run at) text ++ l) (c ∙ ap (λ (x : ℕ). x ∷ drop (suc (at + run at)) text) z)

    -- the fields from a place on: the one there, and those after its separator
    byte-fields : (at : ℕ) → at ≤ length text
        → map (text_of text) (fields_from text (byte b) at) ≡ part at (run at) text ∷ map (text_of text) (fields_from text (byte b) (suc (at + run at)))
    byte-fields at h = ap (map (text_of text)) (fields-more text (byte b) at (suc (at + run at)) (span at (run at)) (byte_next at h))

    no_fields : (at : ℕ) → length text < at → fields_from text (byte b) at ≡ []
    no_fields at h = fields-none text (byte b) at (next_past text (byte b) at h)

    byte-from : (n at : ℕ) → length text < at + n → at ≤ length text → ByteSplit b (drop at text) (map (text_of text) (fields_from text (byte b) at))
    byte-from zero at h k = absurd (omega arith)
    byte-from (suc n) at h k =
        let a = run-all text false (b ∷ []) at in
        let end = suc (at + run at) in
        ⊎_elim
        (λ z. holds_of (ByteSplit b) (part-last text at (run at) (omega arith)) (byte-fields at k) (rw (no_fields end (omega arith)) (last a)))
        (λ g. holds_of (ByteSplit b) (byte_cut at g) (byte-fields at k) (more a (byte-from n end (omega arith) g)))
        (eq-or-lt_of_le (run-most text false (b ∷ []) at k))

    pub byte_split : 0 < length text → ByteSplit b text (map (text_of text) (fields_of text (byte b)))
    byte_split h = rw (fields-of text (byte b) h) (byte-from (suc (length text)) 0 (omega arith) (omega arith))

  -- ---- and only so

  byte-same : {t u : List ℕ} {fs gs : List (List ℕ)} → t ≡ u → ByteSplit b t fs → ByteSplit b u gs → fs ≡ gs
  byte-same e (last x) (last y) = ap (λ (l : List ℕ). l ∷ []) e
  byte-same e (last {f} x) (more {t} y q) = absurd (nil-no-cons (cut-one false (b ∷ []) [] (b ∷ t) x y tt (byte-itself b) (append-nil f ∙ e)).1)
  byte-same e (more {t} x p) (last {f} y) = absurd (nil-no-cons (cut-one false (b ∷ []) [] (b ∷ t) y x tt (byte-itself b) (append-nil f ∙ sym e)).1)
  byte-same e (more {t} x p) (more {t = u} y q) =
      let z = cut-one false (b ∷ []) (b ∷ t) (b ∷ u) x y (byte-itself b) (byte-itself b) e in
      ap₂ ◌∷◌ z.0 (byte-same (cc) p q)

  pub byte_one : {t : List ℕ} {fs gs : List (List ℕ)} → ByteSplit b t fs → ByteSplit b t gs → fs ≡ gs
  byte_one p q = byte-same refl p q

  -- ---- no field has the byte, and there is one field more than there are such bytes

  pub no_byte : {t : List ℕ} {fs : List (List ℕ)} → ByteSplit b t fs → (k : ℕ) → k < length fs → All (is_in false (b ∷ [])) (get_or fs k [])
  no_byte (last x) zero h = x
  no_byte (last x) (suc k) h = absurd (omega arith)
  no_byte (more x p) zero h = x
  no_byte (more x p) (suc k) h = no_byte p k (omega arith)

  -- bytes with n times b have n + 1 fields
  occurs-split : {n : ℕ} {t : List ℕ} → Occurs b n t → (fs : List (List ℕ)) × (ByteSplit b t fs) × (length fs ≡ suc n)
  occurs-split (never {t} x) = (t ∷ [], last x, refl)
  occurs-split (once_more {f} x o) = let r = occurs-split o in (f ∷ r.0, more x r.1, ap suc r.2)

  pub byte-count : {t : List ℕ} {fs : List (List ℕ)} → ByteSplit b t fs → (n : ℕ) → Occurs b n t → length fs ≡ suc n
  byte-count p n o = let r = occurs-split o in ap length (byte_one p r.1) ∙ r.2

  other-more : {n x : ℕ} {t : List ℕ} → is_in false (b ∷ []) x ≡ true → Occurs b n t → Occurs b n (x ∷ t)
  other-more h (never a) = never (cons h a)
  other-more h (once_more a o) = once_more (cons h a) o

  pub occurs-some : (t : List ℕ) → (n : ℕ) × (Occurs b n t)
  occurs-some [] = (0, never empty)
  occurs-some (x ∷ t) =
      let r = occurs-some t in
      elim (ℕ_discrete x b) [
        | yes e ↦ (suc r.0, subst (λ (c : ℕ). Occurs b (suc r.0) (c ∷ t)) (sym e) (once_more empty r.1))
        | no n ↦ (r.0, other-more (other_byte b x n) r.1)
      ]

  pub occurs-one : {n m : ℕ} {t : List ℕ} → Occurs b n t → Occurs b m t → n ≡ m
  occurs-one {m} o p = let r = occurs-split o in omega (arith, r.2, byte-count r.1 m p)
