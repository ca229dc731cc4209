-- A step of the code is the next field.
use mathlib.Core.Path.{◌≡◌, sym, ap, subst, ◌∙◌}
use mathlib.Core.Bool.{Bool, true, false}
use mathlib.Core.List.{List}
use Prim.Native.Nat.{ℕ, suc, ◌+◌, ◌-◌, ◌≤◌, ◌<◌}
use native.Mathlib.Omega.{arith}
use lib.ListN.{length, drop, length-drop}
use borrow.Rule.Slice.PartMut.{mid_of}
use borrow.Author.Tests.{le-ltb, le-leb}
use Rattle.lists.specs.Elements.{leading}
use Rattle.buffer.specs.First.{first_byte}
use Rattle.buffer.proofs.First.{first-byte-most}
use Rattle.buffer.proofs.Lent.{tail-lent}
use Rattle.ere_meaning.specs.Tree.{Class, Ere}
use Rattle.ere_search.specs.Find.{Finds, Inside, match_of}
use Rattle.std.specs.Prelude.{Option, Some}
use Rattle.ere.specs.Answer.{Serves, Bytes}
use Rattle.ere.proofs.Serving.{serves-answer}
use Rattle.splitting.specs.Separator.{Separator, blank, byte, ere}
use native.Mathlib.Numerals.{add-one}
use Rattle.splitting.proofs.Turns.{word_more, blank-field, goes}
use Rattle.splitting.specs.Field.{span, Next, field, none, Goes, is_in, until_separator, next_field}

-- a run of the bytes of a set, or of the others
pub run-kind : (inside x : Bool) (set t : List ℕ) → inside ≡ x → leading (is_in x set) t ≡ leading (is_in inside set) t
run-kind inside x set t e = ap (λ (y : Bool). leading (is_in y set) t) (sym e)

module _ (text : List ℕ) (at : ℕ) where
  -- ---- blanks

  pub word_none : (set : List ℕ) (s : ℕ) → s ≡ at + leading (is_in true set) (drop at text) → length text ≤ s → none ≡ next_field text (blank set) at
  unfolding next_field
  word_none set s e h = rw (← e, le-ltb s (length text) h)

  pub word-is : (set : List ℕ) (s t : ℕ) → s ≡ at + leading (is_in true set) (drop at text) → s < length text → t ≡ s + 1 + leading (is_in false set) (drop (s + 1) text)
      → field (span s (t - s)) t ≡ next_field text (blank set) at
  word-is set s t e h f =
      let w = word_more text set at (omega arith) in
      let q = subst (λ (n : ℕ). leading (is_in false set) (drop n text) ≡ suc (leading (is_in false set) (drop (suc n) text))) (sym e) w in
      let p = ap (λ (n : ℕ). leading (is_in false set) (drop n text)) (add-one s) in
      let z : t - s ≡ leading (is_in false set) (drop s text) = omega arith in
      let y : t ≡ s + leading (is_in false set) (drop s text) = omega arith in
      rw (z, y, e) (sym (blank-field text set at (omega arith)))

  -- ---- a byte

  pub byte-within : (b end : ℕ) → at ≤ length text → end ≡ at + first_byte b (drop at text)
      → (at ≤ end) × (end ≤ length text)
  byte-within b end h e =
      let l = length-drop at text in
      let m = first-byte-most b (drop at text) in
      (omega arith, omega arith)

  pub byte-is : (b end : ℕ) → at ≤ length text → end ≡ at + first_byte b (drop at text)
      → field (span at (end - at)) (end + 1) ≡ next_field text (byte b) at
  unfolding next_field
  byte-is b end h e =
      let n : end - at ≡ first_byte b (drop at text) = omega arith in
      let s : end + 1 ≡ suc (at + first_byte b (drop at text)) = omega arith in
      rw (le-leb at (length text) h, n, s)

  -- ---- an ERE

  pub ere-is : (t : List ℕ) (r : Option (ℕ × ℕ)) → at ≤ length text → Bytes text → Finds t (mid_of at (length text - at) text) at 1 r → (e : Ere Class) → Serves t e
      → until_separator at (length text) (match_of r) ≡ next_field text (ere e) at
  unfolding next_field
  ere-is t r h bytes f e v =
      let z = serves-answer t (mid_of at (length text - at) text) at 1 r e text v f bytes h (sym (tail-lent text at)) in
      rw (le-leb at (length text) h, z)

  -- ---- a step goes on

  -- what the definition answers does
  pub next-goes : (s : Separator) (o : Next) → o ≡ next_field text s at → Goes at (length text) o
  next-goes s o e = rw e (goes text s at)

  pub found-goes : (s n : ℕ) → at ≤ length text → Inside at 1 (length (mid_of at (length text - at) text)) (Some (s, n))
      → Goes at (length text) (field (span at (s - at)) (s + n))
  found-goes s n h i =
      let l = ap length (tail-lent text at) ∙ length-drop at text in
      (omega arith, omega arith, omega arith, omega arith, omega arith)

  pub end_goes : at ≤ length text → Goes at (length text) (field (span at (length text - at)) (length text + 1))
  end_goes h = (omega arith, omega arith, omega arith, omega arith, omega arith)
