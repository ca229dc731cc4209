-- The walk from word to word.
use mathlib.Core.Path.{◌≡◌, refl, sym, ap, ap₂, ◌∙◌}
use mathlib.Core.Bool.{Bool, true, false, cond}
use mathlib.Core.List.{List, [], ◌∷◌}
use Prim.Native.Nat.{ℕ, zero, suc, ◌+◌, ◌-◌, ◌≤◌, ◌<◌}
use native.Mathlib.Omega.{arith}
use lib.ListN.{length, take, drop, length-drop, drop_of_length-le}
use lib.Seq.{take_all, drop-drop}
use lib.Dec.{eqb}
use Rattle.buffer.specs.First.{first_byte}
use Rattle.buffer.specs.Parts.{part}
use Rattle.buffer.proofs.First.{first-byte-most}
use Rattle.front_words.specs.Words.{lengthened, words_of, word_in}
use Rattle.front_words.specs.Walk.{Ends, SpanOf}
use Rattle.front_words.specs.declared.words.WordEnd.{WordEnd}
use Rattle.front_words.specs.declared.words.Span.{Span}

-- the first word of a list that is not empty is what is before the first NUL
words-split : (l : List ℕ) → 0 < length l → words_of l ≡ take (first_byte 0 l) l ∷ words_of (drop (suc (first_byte 0 l)) l)
unfolding words_of first_byte
words-split [] h = absurd (omega arith)
words-split (b ∷ []) h = by (eqb b 0)
  where
    by : (t : Bool) → cond t ([] ∷ []) ((b ∷ []) ∷ []) ≡ take (cond t 0 1) (b ∷ []) ∷ words_of (drop (suc (cond t 0 1)) (b ∷ []))
    by true = refl
    by false = refl
words-split (b ∷ c ∷ l) h = by (eqb b 0) (words-split (c ∷ l) (omega arith))
  where
    n : ℕ
    n = first_byte 0 (c ∷ l)

    by : (t : Bool) → words_of (c ∷ l) ≡ take n (c ∷ l) ∷ words_of (drop (suc n) (c ∷ l))
        → cond t ([] ∷ words_of (c ∷ l)) (lengthened b (words_of (c ∷ l)))
        ≡ take (cond t 0 (suc n)) (b ∷ c ∷ l) ∷ words_of (drop (suc (cond t 0 (suc n))) (b ∷ c ∷ l))
    by true e = refl
    by false e = ap (lengthened b) e

module _ (block : List ℕ) (at n : ℕ) (h : at < length block)
    (e : n ≡ first_byte 0 (take (length block - at) (drop at block))) where
  found : n ≡ first_byte 0 (drop at block)
  found = e ∙ ap (first_byte 0) (take_all (length block - at) (drop at block) (simp length-drop (omega arith)))

  pub end-few : at + n ≤ length block
  end-few = omega (arith, found, first-byte-most 0 (drop at block), length-drop at block)

  -- the words from a place on
  first_word : words_of (drop at block) ≡ part at (at + n - at) block ∷ words_of (drop (at + n + 1) block)
  unfolding part
  first_word =
      let z : n ≡ at + n - at = omega arith in
      let y : at + suc n ≡ at + n + 1 = omega arith in
      words-split (drop at block) (simp length-drop (omega arith))
      ∙ ap (λ (m : ℕ). take m (drop at block) ∷ words_of (drop (suc m) (drop at block))) (sym found)
      ∙ ap₂ (λ (m : ℕ) (l : List ℕ). take m (drop at block) ∷ words_of l) z
      (drop-drop (suc n) at block ∙ ap (λ (m : ℕ). drop m block) y)

  pub ends-before : at + n < length block → Ends block at (record { end = at + n; next = at + n + 1 })
  ends-before m = record {
    order = omega arith;
    inside = omega arith;
    further = omega arith;
    within = omega arith;
    splits = first_word;
  }

  pub ends_last : length block ≤ at + n → Ends block at (record { end = at + n; next = at + n })
  ends_last m =
      let w : drop (at + n + 1) block ≡ drop (at + n) block =
      drop_of_length-le block {i = at + n + 1} (omega arith) ∙ sym (drop_of_length-le block {i = at + n} m) in
      record {
        order = omega arith;
        inside = end-few;
        further = omega (arith, end-few);
        within = end-few;
        splits = first_word ∙ ap (λ (l : List ℕ). part at (at + n - at) block ∷ words_of l) w;
      }

-- ---- word k

-- no word where the block ends
pub word_none : (block : List ℕ) (at k : ℕ) → length block ≤ at → word_in (words_of (drop at block)) k ≡ []
unfolding words_of word_in
word_none block at k h = ap (λ (l : List ℕ). word_in (words_of l) k) (drop_of_length-le block {i = at} h)

part_none : (block : List ℕ) (at : ℕ) → part at (at - at) block ≡ []
unfolding part
part_none block at = ap (λ (n : ℕ). take n (drop at block)) (let z : at - at ≡ 0 = omega arith in z)

pub span_none : (block : List ℕ) (at k from j : ℕ) → length block ≤ at → at ≤ length block
    → word_in (words_of (drop from block)) j ≡ word_in (words_of (drop at block)) k → SpanOf block from j (record { start = at; end = at })
span_none block at k from j h inside e = record {
  order = omega arith;
  inside = inside;
  word = part_none block at ∙ sym (e ∙ word_none block at k h);
}

pub word_first : (block : List ℕ) (at : ℕ) (w : WordEnd) → Ends block at w → SpanOf block at 0 (record { start = at; end = w.end })
unfolding word_in
word_first block at w e = record {
  order = e.order;
  inside = e.inside;
  word = sym (ap (λ (ws : List (List ℕ)). word_in ws 0) e.splits);
}

-- one word on
pub word_next : (block : List ℕ) (at k : ℕ) (w : WordEnd) → Ends block at w → 0 < k
    → word_in (words_of (drop at block)) k ≡ word_in (words_of (drop w.next block)) (k - 1)
unfolding word_in
word_next block at zero w e h = absurd (omega arith)
word_next block at (suc k) w e h =
    let z : k ≡ suc k - 1 = omega arith in
    ap (λ (ws : List (List ℕ)). word_in ws (suc k)) e.splits ∙ ap (word_in (words_of (drop w.next block))) z

pub span_of : (block : List ℕ) (at k : ℕ) {s : Span} → word_in (words_of block) k ≡ word_in (words_of (drop at block)) 0 → SpanOf block at 0 s
    → SpanOf block 0 k s
span_of block at k e o = record { order = o.order; inside = o.inside; word = o.word ∙ sym e }
