-- Words from left to right.
use mathlib.Core.Path.{◌≡◌, refl, sym, ap, ◌∙◌}
use mathlib.Core.Bool.{Bool, true, false}
use mathlib.Core.List.{List, [], ◌∷◌, ◌++◌}
use Prim.Native.Nat.{ℕ, suc, ◌+◌, ◌-◌, ◌≤◌, ◌<◌}
use native.Mathlib.Omega.{arith}
use lib.ListN.{length, take, drop, get_or, drop_of_length-le}
use borrow.Author.Tests.{lt-ltb, le-ltb, eq-eqb, ne_eqb}
use Rattle.buffer.specs.Order.{equal_bytes}
use Rattle.buffer.specs.Parts.{part}
use Rattle.buffer.proofs.Parts.{drop-next}
use Rattle.front_words.specs.Words.{words_of}
use Rattle.front_words.specs.Walk.{Ends}
use Rattle.front_words.specs.declared.words.WordEnd.{WordEnd}
use Rattle.front_options.specs.Kinds.{option_words, number_in, kind_of}
use Rattle.front_options.specs.Reading.{step_of, read_from}
use Rattle.front_options.specs.Budgets.{with_digit, further, digits_from, budget_of}
use Rattle.front_options.specs.declared.options.Kind.TheVariants.{Known, Operand, Unknown}
use Rattle.front_options.specs.declared.options.Options.{Options}
use Rattle.std.proofs.Math.Option.{Option, some, none}

-- no words where the block ends
words-none : (block : List ℕ) (at : ℕ) → length block ≤ at → words_of (drop at block) ≡ []
unfolding words_of
words-none block at h = ap words_of (drop_of_length-le block {i = at} h)

-- ---- the number of a word

module _ (block word : List ℕ) (at : ℕ) where
  pub number-here : (w : WordEnd) → Ends block at w → {t : Bool} → t ≡ equal_bytes (take (w.end - at) (drop at block)) word → t ≡ true
      → number_in (words_of (drop at block)) word ≡ 0
  unfolding number_in part
  number-here w e f h = ap (λ (ws : List (List ℕ)). number_in ws word) e.splits ∙ rw (sym f ∙ h)

  pub number-on : (w : WordEnd) → Ends block at w → {t : Bool} → t ≡ equal_bytes (take (w.end - at) (drop at block)) word → t ≡ false
      → number_in (words_of (drop at block)) word ≡ suc (number_in (words_of (drop w.next block)) word)
  unfolding number_in part
  number-on w e f h = ap (λ (ws : List (List ℕ)). number_in ws word) e.splits ∙ rw (sym f ∙ h)

  pub number-end : length block ≤ at → number_in (words_of (drop at block)) word ≡ 0
  unfolding number_in
  number-end h = ap (λ (ws : List (List ℕ)). number_in ws word) (words-none block at h)

-- ---- options, word by word

pub read-on : (block : List ℕ) (at k : ℕ) (w : WordEnd) (o : Options) {r all : Options} → Ends block at w → all ≡ read_from o k (words_of (drop at block))
    → r ≡ step_of o (k + 1) (take (w.end - at) (drop at block)) → all ≡ read_from r (k + 1) (words_of (drop w.next block))
unfolding read_from part
read-on block at k w o e a s =
    a
    ∙ ap (read_from o k) e.splits
    ∙ ap (λ (x : Options). read_from x (k + 1) (words_of (drop w.next block))) (sym s)

pub read-end : (block : List ℕ) (at k : ℕ) (o : Options) {all : Options} → length block ≤ at → all ≡ read_from o k (words_of (drop at block))
    → o ≡ all
unfolding read_from
read-end block at k o h a = sym (a ∙ ap (read_from o k) (words-none block at h))

-- ---- the digits of a budget

pub budget-none : (l : List ℕ) → length l ≡ 0 → none ≡ budget_of l
unfolding budget_of
budget-none [] h = refl
budget-none (b ∷ l) h = absurd (omega arith)

pub budget-some : (l : List ℕ) → (length l ≡ 0 → ⊥) → budget_of l ≡ digits_from l 0
unfolding budget_of
budget-some [] h = absurd (h refl)
budget-some (b ∷ l) h = refl

module _ (l : List ℕ) (i : ℕ) (h : i < length l) (v : ℕ) {all : Option ℕ} (e : all ≡ digits_from (drop i l) v) where
  on : all ≡ further (with_digit v (get_or l i 0)) (digits_from (drop (i + 1) l))
  unfolding digits_from
  on = e ∙ ap (λ (x : List ℕ). digits_from x v) (drop-next l i h)

  pub digit-bad : none ≡ with_digit v (get_or l i 0) → none ≡ all
  digit-bad f = sym (on ∙ ap (λ (x : Option ℕ). further x (digits_from (drop (i + 1) l))) (sym f))

  pub digit-on : {n : ℕ} → some n ≡ with_digit v (get_or l i 0) → all ≡ digits_from (drop (i + 1) l) n
  digit-on f = on ∙ ap (λ (x : Option ℕ). further x (digits_from (drop (i + 1) l))) (sym f)

pub digit-end : (l : List ℕ) (i v : ℕ) {all : Option ℕ} → length l ≤ i → all ≡ digits_from (drop i l) v → some v ≡ all
unfolding digits_from
digit-end l i v h e = sym (e ∙ ap (λ (x : List ℕ). digits_from x v) (drop_of_length-le l {i = i} h))

-- ---- the kind of a word

-- words, each with a NUL after it
abbrev block : List (List ℕ) → List ℕ
block [] = []
block (w ∷ ws) = w ++ (0 ∷ block ws)

options-are : words_of (block option_words) ≡ option_words
unfolding words_of
options-are = refl

module _ (w : List ℕ) {n : ℕ} (e : n ≡ number_in (words_of (block option_words)) w) where
  number_is : n ≡ number_in option_words w
  number_is = e ∙ ap (λ (ws : List (List ℕ)). number_in ws w) options-are

  pub kind-option : n < 10 → Known n ≡ kind_of w
  unfolding kind_of
  kind-option h = ap (λ (x : ℕ). Known x) number_is ∙ rw (lt-ltb (number_in option_words w) 10 (omega (arith, number_is)))

  pub kind-short : 10 ≤ n → length w < 2 → Operand ≡ kind_of w
  unfolding kind_of
  kind-short h m = rw (le-ltb (number_in option_words w) 10 (omega (arith, number_is)), lt-ltb (length w) 2 m)

  pub kind-unknown : 10 ≤ n → 2 ≤ length w → get_or w 0 0 ≡ 45 → Unknown ≡ kind_of w
  unfolding kind_of
  kind-unknown h m d =
      rw (le-ltb (number_in option_words w) 10 (omega (arith, number_is)), le-ltb (length w) 2 m, eq-eqb (get_or w 0 0) 45 d)

  pub kind-plain : 10 ≤ n → 2 ≤ length w → (get_or w 0 0 ≡ 45 → ⊥) → Operand ≡ kind_of w
  unfolding kind_of
  kind-plain h m d =
      rw (le-ltb (number_in option_words w) 10 (omega (arith, number_is)), le-ltb (length w) 2 m, ne_eqb (get_or w 0 0) 45 d)
