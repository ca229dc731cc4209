-- Operators between two operands.
use mathlib.Core.Path.{◌≡◌, refl, sym, ap, subst, ◌∙◌}
use mathlib.Core.Bool.{Bool, true, false}
use mathlib.Core.List.{List, [], ◌∷◌, ◌++◌}
use mathlib.Core.Option.{Option}
use Prim.Native.Nat.{ℕ, ◌+◌, ◌≤◌, ◌<◌}
use native.Mathlib.Omega.{arith}
use lib.Seq.{sets}
use Rattle.lists.proofs.Tests.{clash, and-false}
use Rattle.image_format.specs.Codes.{Arithmetic, Comparison, Action, action, flow, arithmetic, compare, join, negation, constant, jump, jump-if-false, add, subtract, multiply, divide, remainder, less as less_than, at-most as at_most, equal as equal_to, different as different_from, greater as greater_than, at-least as at_least}
use Rattle.image_format.specs.Image.{number}
use Rattle.program_tokens.specs.Kinds.{Kind, text_end, plus, minus, star, slash, percent, greater, less, or_or, and_and, equal, at-most, at-least, different, same, among, rank}
use Rattle.program_tokens.proofs.Ranks.{same-is}
use Rattle.program_tree.specs.Tree.{Expression, variable, arithmetic as arithmetic-of, join as join-of, compare as compare-of, both, either}
use Rattle.program_tree.specs.Functions.{function_in}
use Rattle.program_grammar.specs.Sets.{starts_joined}
use Rattle.program_reader.specs.Operators.{Operator, operator_in, tier_of, tree_in, tree_of}
use Rattle.program_code.specs.Emitted.{nothing, the_constant, the_instruction, Emitted, emit, act, action_code, flow_code, opcode}
use Rattle.program_code.specs.Expressions.{size, numeral, double_not, compile}
use Rattle.program_lexer.specs.Coded.{kind_of}
use Rattle.program_words.specs.Words.{word, not_words, both_words, either_words}
use Rattle.program_parser.specs.Tables.{action_of}
use Rattle.program_parser.specs.Meaning.{Denotes, none_left, one_more, Wrote}
use Rattle.program_parser.specs.Reading.{form_of}
use Rattle.program_parser.proofs.Tokens.{choose}
use Rattle.program_code.proofs.Flows.{size-length}
use Rattle.program_parser.proofs.Spelling.{word-means, wrote_after, wrote-before}
use Rattle.program_operations.proofs.Primaries.{fits}

-- ---- operators of one instruction

-- a tree whose code is that of two operands and one instruction
pub record Plain (edition : ℕ) (c : Action) (a b e : Expression) : Type 0 where
  pub sized : size e ≡ size a + size b + 1
  pub code : (n d : ℕ) → compile e n d ≡ compile a n d ++ (compile b (n + size a) (d + 1) ++ act c (d + 2))
  pub formed : form_of edition e ≡ 0
  pub other : (v : List ℕ) → e ≡ variable v → ⊥

module _ (edition : ℕ) (a b : Expression) where
  plain-arithmetic : (o : Arithmetic) → Plain edition (arithmetic o) a b (arithmetic-of o a b)
  unfolding size compile form_of
  plain-arithmetic o = record { sized = refl; code = λ n d. refl; formed = refl; other = no_name }
    where
      no_name : (v : List ℕ) → arithmetic-of o a b ≡ variable v → ⊥
      no_name v y = let z : ◌≡◌ {A = ℕ} 0 1 = cc in omega arith

  plain-compare : (o : Comparison) → Plain edition (compare o) a b (compare-of o a b)
  unfolding size compile form_of
  plain-compare o = record { sized = refl; code = λ n d. refl; formed = refl; other = no_name }
    where
      no_name : (v : List ℕ) → compare-of o a b ≡ variable v → ⊥
      no_name v y = let z : ◌≡◌ {A = ℕ} 0 1 = cc in omega arith

  plain-join : Plain edition join a b (join-of a b)
  unfolding size compile form_of
  plain-join = record { sized = refl; code = λ n d. refl; formed = refl; other = no_name }
    where
      no_name : (v : List ℕ) → join-of a b ≡ variable v → ⊥
      no_name v y = let z : ◌≡◌ {A = ℕ} 0 1 = cc in omega arith

  module _ (k : Kind) where
    abbrev Suits : Option Operator → Type 0
    Suits o = Plain edition (action_of k) a b (tree_in o a b)

    sign : (c : Kind) (x : Action) (e : Expression) → action_of c ≡ x → Plain edition x a b e → same k c ≡ true
        → Plain edition (action_of k) a b e
    sign c x e q p f = subst (λ (y : Action). Plain edition y a b e) (sym (ap action_of (same-is k c f) ∙ q)) p

    pub plain-tree : same k or_or ≡ false → same k and_and ≡ false → Plain edition (action_of k) a b (tree_of k a b)
    unfolding tree_of operator_in action_of rank
    plain-tree o p =
        choose Suits (same k or_or) _ _ (λ e. absurd (clash (sym e ∙ o))) (λ e.
        choose Suits (same k and_and) _ _ (λ e. absurd (clash (sym e ∙ p))) (λ e.
        choose Suits (same k less) _ _ (sign less _ _ refl (plain-compare less_than)) (λ f1.
        choose Suits (same k at-most) _ _ (sign at-most _ _ refl (plain-compare at_most)) (λ f2.
        choose Suits (same k equal) _ _ (sign equal _ _ refl (plain-compare equal_to)) (λ f3.
        choose Suits (same k different) _ _ (sign different _ _ refl (plain-compare different_from)) (λ f4.
        choose Suits (same k greater) _ _ (sign greater _ _ refl (plain-compare greater_than)) (λ f5.
        choose Suits (same k at-least) _ _ (sign at-least _ _ refl (plain-compare at_least)) (λ f6.
        choose Suits (same k plus) _ _ (sign plus _ _ refl (plain-arithmetic add)) (λ f7.
        choose Suits (same k minus) _ _ (sign minus _ _ refl (plain-arithmetic subtract)) (λ f8.
        choose Suits (same k star) _ _ (sign star _ _ refl (plain-arithmetic multiply)) (λ f9.
        choose Suits (same k slash) _ _ (sign slash _ _ refl (plain-arithmetic divide)) (λ f10.
        choose Suits (same k percent) _ _ (sign percent _ _ refl (plain-arithmetic remainder)) (λ f11.
        simp (f1, f2, f3, f4, f5, f6, f7, f8, f9, f10, f11) plain-join)))))))))))))

-- ---- `&&` and `||`

pub both-tree : (k : Kind) (a b : Expression) → k ≡ and_and → tree_of k a b ≡ both a b
unfolding tree_of operator_in rank
both-tree k a b e = rw e

pub either-tree : (k : Kind) (a b : Expression) → k ≡ or_or → tree_of k a b ≡ either a b
unfolding tree_of operator_in rank
either-tree k a b e = rw e

pub both-other : (edition : ℕ) (a b : Expression) (v : List ℕ) → both a b ≡ variable v → ⊥
both-other edition a b v y = let z : ◌≡◌ {A = ℕ} 0 1 = cc in omega arith

pub either-other : (edition : ℕ) (a b : Expression) (v : List ℕ) → either a b ≡ variable v → ⊥
either-other edition a b v y = let z : ◌≡◌ {A = ℕ} 0 1 = cc in omega arith

module _ (edition : ℕ) (s : List ℕ) (a b : Expression) (n d : ℕ) (xs ys zs ws : List ℕ) (deep : d ≤ 60000)
    (left : Wrote edition s xs n (compile a n d) ys) where
  pub both-wrote : Wrote edition s ys (n + size a + 1) (compile b (n + size a + 1) d) zs
      → n + size a + 1 + size b < 1000000
      → ws ≡ sets (sets zs (n + size a + 1 + size b) (both_words (n + size a + 1 + size b) d)) (n + size a)
      (word 28 (d + 1) (n + size a + 1 + size b + 3) ∷ [])
      → Wrote edition s xs n (compile (both a b) n d) ws
  unfolding compile opcode action_code flow_code Denotes
  both-wrote right small w =
      let m : ℕ = n + size a + 1 + size b in
      let after : List Emitted = double_not (d + 1) ++ (emit (flow jump) (d + 1) (the_instruction (m + 4)) ++ numeral 0
      d) in
      let jumps : List Emitted = emit (flow jump-if-false) (d + 1) (the_instruction (m + 3)) in
      let ts : List ℕ = sets zs m (both_words m d) in
      let tail : Wrote edition s zs m after ts =
      record {
        words = both_words m d;
        stored = refl;
        spelled =
            one_more (word-means edition s (action negation) (d + 1) 0 nothing
            (fits 14 (d + 1) 0 (omega arith) (omega (arith, deep)) (omega arith)) refl)
            (one_more (word-means edition s (action negation) (d + 1) 0 nothing
            (fits 14 (d + 1) 0 (omega arith) (omega (arith, deep)) (omega arith)) refl)
            (one_more (word-means edition s (flow jump) (d + 1) (m + 4) (the_instruction (m + 4))
            (fits 27 (d + 1) (m + 4) (omega arith) (omega (arith, deep)) (omega (arith, small))) refl)
            (one_more (word-means edition s (action constant) d 8192 (the_constant (number 0))
            (fits 1 d 8192 (omega arith) (omega (arith, deep)) (omega arith)) refl)
            none_left)));
      } in
      let head : Wrote edition s ts (n + size a) jumps ws =
      record {
        words = word 28 (d + 1) (m + 3) ∷ [];
        stored = w;
        spelled =
            one_more (word-means edition s (flow jump-if-false) (d + 1) (m + 3) (the_instruction (m + 3))
            (fits 28 (d + 1) (m + 3) (omega arith) (omega (arith, deep)) (omega (arith, small))) refl)
            none_left;
      } in
      wrote_after edition s xs ys ws n (n + size a) (compile a n d) (jumps ++ (compile b (n + size a + 1) d ++ after))
      (omega (arith, size-length a n d)) left
      (wrote-before edition s ys ts ws (n + size a) (n + size a + 1) jumps (compile b (n + size a + 1) d ++ after) refl
      (wrote_after edition s ys zs ts (n + size a + 1) m (compile b (n + size a + 1) d) after
      (omega (arith, size-length b (n + size a + 1) d)) right tail)
      head)

  pub either-wrote : Wrote edition s ys (n + size a + 3) (compile b (n + size a + 3) d) zs
      → n + size a + 3 + size b < 1000000
      → ws ≡ sets (sets zs (n + size a + 3 + size b) (not_words d)) (n + size a)
      (either_words (n + size a) d (n + size a + 3 + size b + 2))
      → Wrote edition s xs n (compile (either a b) n d) ws
  unfolding compile opcode action_code flow_code Denotes
  either-wrote right small w =
      let j : ℕ = n + size a in
      let m : ℕ = n + size a + 3 + size b in
      let before : List Emitted =
      emit (flow jump-if-false) (d + 1) (the_instruction (j + 3)) ++
      (numeral 1 d ++ emit (flow jump) (d + 1) (the_instruction (m + 2))) in
      let ts : List ℕ = sets zs m (not_words d) in
      let tail : Wrote edition s zs m (double_not (d + 1)) ts =
      record {
        words = not_words d;
        stored = refl;
        spelled =
            one_more (word-means edition s (action negation) (d + 1) 0 nothing
            (fits 14 (d + 1) 0 (omega arith) (omega (arith, deep)) (omega arith)) refl)
            (one_more (word-means edition s (action negation) (d + 1) 0 nothing
            (fits 14 (d + 1) 0 (omega arith) (omega (arith, deep)) (omega arith)) refl)
            none_left);
      } in
      let head : Wrote edition s ts j before ws =
      record {
        words = either_words j d (m + 2);
        stored = w;
        spelled =
            one_more (word-means edition s (flow jump-if-false) (d + 1) (j + 3) (the_instruction (j + 3))
            (fits 28 (d + 1) (j + 3) (omega arith) (omega (arith, deep)) (omega (arith, small))) refl)
            (one_more (word-means edition s (action constant) d 8193 (the_constant (number 1))
            (fits 1 d 8193 (omega arith) (omega (arith, deep)) (omega arith)) refl)
            (one_more (word-means edition s (flow jump) (d + 1) (m + 2) (the_instruction (m + 2))
            (fits 27 (d + 1) (m + 2) (omega arith) (omega (arith, deep)) (omega (arith, small))) refl)
            none_left));
      } in
      wrote_after edition s xs ys ws n j (compile a n d) (before ++ (compile b (n + size a + 3) d ++ double_not (d + 1)))
      (omega (arith, size-length a n d)) left
      (wrote-before edition s ys ts ws j (n + size a + 3) before (compile b (n + size a + 3) d ++ double_not (d + 1))
      refl
      (wrote_after edition s ys zs ts (n + size a + 3) m (compile b (n + size a + 3) d) (double_not (d + 1))
      (omega (arith, size-length b (n + size a + 3) d)) right tail)
      head)

-- ---- the tiers of operators

module _ (edition : ℕ) (printed : Bool) where
  -- the text's end is no operator
  end-tier : tier_of edition printed text_end ≡ 0
  unfolding tier_of operator_in starts_joined among function_in rank
  end-tier = simp and-false

  pub tier-begun : (k : Kind) (n : ℕ) → tier_of edition printed k ≡ n → (n ≡ 0 → ⊥) → same k text_end ≡ false
  tier-begun k n e z = go (same k text_end) refl
    where
      go : (b : Bool) → same k text_end ≡ b → b ≡ false
      go true f = absurd (z (sym e ∙ (ap (tier_of edition printed) (same-is k text_end f) ∙ end-tier)))
      go false f = refl

  -- `&&` and `||` are no concatenations
  pub and-tier : tier_of edition printed (kind_of 61) ≡ 8
  unfolding tier_of operator_in kind_of rank
  and-tier = simp and-false

  pub or-tier : tier_of edition printed (kind_of 60) ≡ 9
  unfolding tier_of operator_in kind_of rank
  or-tier = simp and-false
