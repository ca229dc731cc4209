-- The fields of a record, with what is before, between and after them, are the record.
use mathlib.Core.Path.{◌≡◌, refl, sym, ap, subst, ◌∙◌}
use mathlib.Core.List.{List, [], ◌∷◌, ◌++◌, append-nil}
use Prim.Native.Nat.{ℕ, ◌+◌, ◌-◌, ◌≤◌}
use native.Mathlib.Omega.{arith}
use lib.ListN.{length, take, drop, take-append-drop, drop_of_length-le}
use lib.Seq.{drop-drop}
use Rattle.buffer.specs.Parts.{part}
use Rattle.splitting.specs.Separator.{Separator}
use Rattle.splitting.specs.Field.{Span, fields_of}
use Rattle.splitting.specs.Meaning.{pieces, Ordered}
use Rattle.splitting.proofs.Turns.{ordered}

-- a relation of bytes and fields holds of what is equal to them
pub holds_of : (R : List ℕ → List (List ℕ) → Type 0) {t u : List ℕ} {fs gs : List (List ℕ)} → t ≡ u → fs ≡ gs → R u gs → R t fs
holds_of R {u} {fs} e g h = subst (λ (l : List ℕ). R l fs) (sym e) (subst (R u) (sym g) h)

module _ (text : List ℕ) where
  -- a part and what comes after it
  pub part-rest : (a n b : ℕ) → a + n ≡ b → part a n text ++ drop b text ≡ drop a text
  unfolding part
  part-rest a n b e =
      ap (λ (k : ℕ). take n (drop a text) ++ drop k text) (sym e)
      ∙ ap (λ (l : List ℕ). take n (drop a text) ++ l) (sym (drop-drop n a text))
      ∙ take-append-drop n (drop a text)

  -- a part up to the text's end
  pub part-last : (a n : ℕ) → length text ≤ a + n → drop a text ≡ part a n text
  part-last a n h =
      sym (part-rest a n (a + n) refl)
      ∙ ap (λ (l : List ℕ). part a n text ++ l) (drop_of_length-le text {i = a + n} h)
      ∙ append-nil (part a n text)

  pub ordered-woven : (at : ℕ) (fs : List Span) → Ordered (length text) at fs → pieces text at fs ≡ drop at text
  ordered-woven at [] h = refl
  ordered-woven at (f ∷ fs) h =
      let s = f.start in
      let n = f.size in
      ap (λ (l : List ℕ). part at (s - at) text ++ (part s n text ++ l)) (ordered-woven (s + n) fs h.1)
      ∙ ap (λ (l : List ℕ). part at (s - at) text ++ l) (part-rest s n (s + n) refl)
      ∙ part-rest at (s - at) s (omega arith)

  pub woven : (s : Separator) → pieces text 0 (fields_of text s) ≡ text
  woven s = ordered-woven 0 (fields_of text s) (ordered text s)
