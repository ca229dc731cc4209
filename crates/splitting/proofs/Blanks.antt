-- Fields that blanks separate: the fields are those that the relation says, and there are no others.
use mathlib.Core.Path.{◌≡◌, refl, sym, ap, ap₂, subst, ◌∙◌}
use mathlib.Core.Logic.{⊎_elim}
use mathlib.Core.Bool.{true, false}
use mathlib.Core.List.{List, [], ◌∷◌, ◌++◌, map, append-nil}
use Prim.Native.Nat.{ℕ, zero, suc, ◌+◌, ◌≤◌, ◌<◌}
use native.Mathlib.Nat.{eq-zero-or-pos}
use native.Mathlib.Decide.{dec_lt}
use native.Mathlib.Omega.{arith}
use lib.ListN.{length, get_or, drop, drop_of_length-le}
use Rattle.lists.specs.Elements.{leading, All, empty, cons}
use Rattle.buffer.specs.Parts.{part}
use Rattle.buffer.proofs.Parts.{length_part}
use Rattle.splitting.specs.Separator.{blank}
use Rattle.splitting.specs.Field.{span, is_in, fields_from, fields_of}
use Rattle.splitting.specs.Meaning.{Behind, BlankSplit, blanks, word}
use Rattle.splitting.specs.Splitting.{text_of}
use Rattle.splitting.proofs.Turns.{word_some, blank-field, blank-past, fields-more, fields-none, fields-of, fields-empty}
use Rattle.splitting.proofs.Fronts.{nil-no-cons, cut-one, run-all, run-stops, run-most, stop-behind, behind-stop, outside-stop}
use Rattle.splitting.proofs.Weaving.{holds_of, part-rest, part-last}

module _ (set : List ℕ) where
  -- ---- the fields are so split

  -- `word`, for a field of which the length is known
  a_word : (l f t : List ℕ) (fs : List (List ℕ)) → 0 < length f → All (is_in true set) l → All (is_in false set) f → Behind set t → BlankSplit set t fs
      → BlankSplit set (l ++ (f ++ t)) (f ∷ fs)
  a_word l [] t fs h a n o p = absurd (omega arith)
  a_word l (b ∷ f) t fs h a n o p = word a n o p

  module _ (text : List ℕ) where
    -- where the blanks from a place on end, and how many bytes from there on are no blanks
    abbrev past : ℕ → ℕ
    past at = at + leading (is_in true set) (drop at text)

    abbrev run : ℕ → ℕ
    run s = leading (is_in false set) (drop s text)

    -- only blanks are left
    blank-last : (at : ℕ) → length text ≤ past at → BlankSplit set (drop at text) (map (text_of text) (fields_from text (blank set) at))
    blank-last at h =
        let n = leading (is_in true set) (drop at text) in
        let a = subst (All (is_in true set)) (sym (part-last text at n h)) (run-all text true set at) in
        rw (fields-none text (blank set) at (blank-past text set at h)) (blanks a)

    blank_cut : (at : ℕ) → drop at text ≡ part at (leading (is_in true set) (drop at text)) text ++ (part (past at) (run (past at)) text ++ drop (past at + run (past at)) text)
    blank_cut at =
        sym (part-rest text at (leading (is_in true set) (drop at text)) (past at) refl)
        ∙ ap (λ (l : List ℕ). part at (leading (is_in true set) (drop at text)) text ++ l) (sym (part-rest text (past at) (run (past at)) (past at + run (past at)) refl))

    blank-from : (n at : ℕ) → length text < at + n → BlankSplit set (drop at text) (map (text_of text) (fields_from text (blank set) at))
    blank-from zero at h = blank-last at (omega arith)
    blank-from (suc n) at h =
        let s = past at in
        let m = run s in
        elim (dec_lt s (length text)) [
          | yes k ↦
              let w = word_some text set at k in
              let r = run-most text false set s (omega arith) in
              holds_of (BlankSplit set) (blank_cut at) (ap (map (text_of text)) (fields-more text (blank set) at (s + m) (span s m) (blank-field text set at k)))
              (a_word (part at (leading (is_in true set) (drop at text)) text) (part s m text) (drop (s + m) text) _
              (omega (arith, length_part s m text r))
              (run-all text true set at) (run-all text false set s)
              (stop-behind set (drop (s + m) text) (run-stops text false set s))
              (blank-from n (s + m) (omega arith)))
          | no k ↦ blank-last at (omega arith)
        ]

    pub blank-split : BlankSplit set text (map (text_of text) (fields_of text (blank set)))
    blank-split =
        ⊎_elim
        (λ z. holds_of (BlankSplit set) (drop_of_length-le text {i = 0} (omega arith)) (ap (map (text_of text)) (fields-empty text (blank set) z)) (blanks empty))
        (λ h. holds_of (BlankSplit set) refl (ap (map (text_of text)) (fields-of text (blank set) h)) (blank-from (suc (length text)) 0 (omega arith)))
        (eq-zero-or-pos (length text))

  -- ---- and only so

  -- the blanks stop at a field
  word-stop : {b : ℕ} {f : List ℕ} → All (is_in false set) (b ∷ f) → is_in true set b ≡ false
  word-stop (cons h a) = outside-stop set _ h

  blank-same : {t u : List ℕ} {fs gs : List (List ℕ)} → t ≡ u → BlankSplit set t fs → BlankSplit set u gs → fs ≡ gs
  blank-same e (blanks x) (blanks y) = refl
  blank-same e (blanks {l} x) (word {t} {b} {f} y w o q) =
      absurd (nil-no-cons (cut-one true set [] ((b ∷ f) ++ t) x y tt (word-stop w) (append-nil l ∙ e)).1)
  blank-same e (word {t} {b} {f} x w o p) (blanks {l} y) =
      absurd (nil-no-cons (cut-one true set [] ((b ∷ f) ++ t) y x tt (word-stop w) (append-nil l ∙ sym e)).1)
  blank-same e (word {t} {b} {f} x w o p) (word {t = u} {b = c} {f = g} y v r q) =
      let z = cut-one true set ((b ∷ f) ++ t) ((c ∷ g) ++ u) x y (word-stop w) (word-stop v) e in
      let k = cut-one false set t u w v (behind-stop o) (behind-stop r) z.1 in
      ap₂ ◌∷◌ k.0 (blank-same k.1 p q)

  pub blank-one : {t : List ℕ} {fs gs : List (List ℕ)} → BlankSplit set t fs → BlankSplit set t gs → fs ≡ gs
  blank-one p q = blank-same refl p q

  -- no field is empty, and none has a blank
  pub words : {t : List ℕ} {fs : List (List ℕ)} → BlankSplit set t fs
      → (k : ℕ) → k < length fs → (0 < length (get_or fs k [])) × (All (is_in false set) (get_or fs k []))
  words (blanks x) k h = absurd (omega arith)
  words (word x w o p) zero h = (omega arith, w)
  words (word x w o p) (suc k) h = words p k (omega arith)
