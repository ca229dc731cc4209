-- A walk to the text's end is found in as many steps as the text has bytes: the names in a text are those of its tree.
use mathlib.Core.Path.{◌≡◌, refl, sym, ap, subst, ◌∙◌}
use mathlib.Core.Bool.{Bool, true, false, cond}
use mathlib.Core.List.{List, [], ◌∷◌, ◌++◌}
use mathlib.Core.Logic.{◌⊎◌, inl, inr}
use mathlib.Core.Option.{Option, some, none}
use Prim.Native.Nat.{ℕ, zero, suc, ◌+◌, ◌≤◌, ◌<◌}
use native.Mathlib.Omega.{arith}
use lib.ListN.{length, drop, take}
use Rattle.lists.proofs.Tests.{clash, or-false}
use Rattle.ere_meaning.specs.Tree.{Class, Ere}
use Rattle.ere_grammar.specs.Read.{read_ere}
use Rattle.program_tokens.specs.Kinds.{Kind, text_end, ERE, user_name, variable, fixed_variable, slash, div_assign, same, among, rank}
use Rattle.program_tokens.specs.Words.{word_kind}
use Rattle.program_tokens.specs.Tokens.{Token, is, is_one_of, token_at, token_after, ere_length, ere_read, ere_token, as_operand, spelling}
use Rattle.program_tokens.proofs.Ranks.{same-is}
use Rattle.program_grammar.specs.Sets.{names}
use Rattle.program_numbering.specs.Names.{users_among, names_in_program}
use Rattle.program_parser.specs.Reading.{Good}
use Rattle.program_parser.proofs.Tokens.{choose, good-at, good-after, good-operand}
use Rattle.program_operations.proofs.Names.{name-word}
use Rattle.program_names.specs.Walk.{spanned_by, spanned, open_after, ere_follows, next_in, names_from, NamesInOrder}
use Rattle.program_names.proofs.Walks.{own, Walks, here, pass}
use Rattle.program_names.proofs.Programs.{GoodProgram, program-good}

module _ (edition : ℕ) (s : List ℕ) where
  -- ---- the tokens of a walk

  -- a token of the text, at or after a place; or an ERE that is not judged
  abbrev Unjudged : ℕ → Token → Type 0
  Unjudged p t = (is ERE t ≡ true) × ((p ≤ t.start) × ((t.start < t.stop) × (t.stop ≤ length s)))

  abbrev Kept : ℕ → Token → Type 0
  Kept p t = (Good edition s p t) ⊎ (Unjudged p t)

  kept-start : (p : ℕ) (t : Token) → Kept p t → p ≤ t.start
  kept-start p t (inl g) = g.after
  kept-start p t (inr g) = g.1.0

  kept-shape : (p : ℕ) (t : Token) → Kept p t → is text_end t ≡ false → (t.start < t.stop) × (t.stop ≤ length s)
  kept-shape p t (inl g) e = (g.longer e, g.within)
  kept-shape p t (inr g) e = g.1.1

  kept-worded : (p : ℕ) (t : Token) → Kept p t → is_one_of names t ≡ true → word_kind edition (spelling s t) ≡ t.kind
  unfolding among rank
  kept-worded p t (inl g) e = name-word edition s t g.placed e
  kept-worded p t (inr g) e =
      absurd (clash (sym e ∙ subst (λ (k : Kind). among names k ≡ false) (sym (same-is t.kind ERE g.0)) refl))

  spanned-by : (p : ℕ) (t : Token) (l : List ℕ) (o : Option ℕ) → Good edition s p t
      → (ere_token edition t.start l o).stop ≤ length s → Kept p (spanned_by t o)
  unfolding spanned_by ere_token ere_read rank
  spanned-by p t l none g h = inl g
  spanned-by p t l (some n) g h =
      inr (refl, (g.after, (omega arith, go (read_ere edition (take n l)) h)))
    where
      go : (r : Option (Ere Class)) → (ere_read t.start (2 + n) r).stop ≤ length s → t.start + (2 + n) ≤ length s
      go none h = h
      go (some e) h = h

  spanned-kept : (p : ℕ) (t : Token) → Good edition s p t → Kept p (spanned s t)
  unfolding spanned as_operand
  spanned-kept p t g =
      let l : List ℕ = drop (suc t.start) s in
      let again = good-operand edition s p t g in
      choose (Kept p) (is_one_of (slash ∷ div_assign ∷ []) t) (spanned_by t (ere_length false l)) t
      (λ q. spanned-by p t l (ere_length false l) g
      (subst (λ (b : Bool). (cond b (ere_token edition t.start l (ere_length false l)) t).stop ≤ length s)
      q again.within))
      (λ q. inl g)

  after-good : (p : ℕ) (t : Token) → Kept p t → Good edition s t.stop (token_after edition s t)
  unfolding token_after rank
  after-good p t (inl g) = good-after edition s p t g
  after-good p t (inr g) =
      let other : is user_name t ≡ false =
      subst (λ (k : Kind). same k user_name ≡ false) (sym (same-is t.kind ERE g.0)) refl in
      rw other (good-at edition s t.stop g.1.1.1)

  next-kept : (p : ℕ) (t : Token) (m : ℕ) → Kept p t → Kept t.stop (next_in edition s t m)
  unfolding next_in
  next-kept p t m k =
      let g = after-good p t k in
      choose (Kept t.stop) (ere_follows t.kind m) (spanned s (token_after edition s t)) (token_after edition s t)
      (λ q. spanned-kept t.stop (token_after edition s t) g) (λ q. inl g)

  -- ---- the names

  -- a token's own name, if it is a user's
  own-users : (t : Token) (l : List (List ℕ)) → (is_one_of names t ≡ true → word_kind edition (spelling s t) ≡ t.kind)
      → cond (is user_name t) (spelling s t ∷ users_among edition l) (users_among edition l)
      ≡ users_among edition (own edition s t ++ l)
  unfolding users_among among
  own-users t l h = go (is_one_of names t) refl
    where
      v : List ℕ
      v = spelling s t

      m : List (List ℕ)
      m = users_among edition l

      go : (b : Bool) → is_one_of names t ≡ b
          → cond (is user_name t) (v ∷ m) m ≡ users_among edition (cond b (v ∷ []) [] ++ l)
      go true e = ap (λ (k : Kind). cond (same k user_name) (v ∷ m) m) (sym (h e))
      go false e = rw (or-false (is user_name t) (among (variable ∷ fixed_variable ∷ []) t.kind) e).0

  -- a walk to the text's end, with enough steps
  walk-names : (t u : Token) (m n : ℕ) (l : List (List ℕ)) → Walks edition s t m l u n → is text_end u ≡ true → (p : ℕ)
      → Kept p t → (steps : ℕ) → length s < steps + t.start → names_from edition s steps t m ≡ users_among edition l
  unfolding names_from users_among
  walk-names t u m n l (here a b) last p k zero few = refl
  walk-names t u m n l (here a b) last p k (suc steps) few = rw last
  walk-names t u m n l (pass a b c d j e w) last p k zero few =
      let shape = kept-shape p a k e in
      absurd (omega (arith, shape.0, shape.1))
  walk-names t u m n l (pass a b c d j e w) last p k (suc steps) few =
      let shape = kept-shape p a k e in
      let next = next-kept p a c k in
      let later = kept-start a.stop (next_in edition s a c) next in
      let rest : names_from edition s steps (next_in edition s a c) (open_after a.kind c) ≡ users_among edition j =
      walk-names (next_in edition s a c) b (open_after a.kind c) d j w last a.stop next steps
      (omega (arith, shape.0, later)) in
      rw e (ap (λ (r : List (List ℕ)). cond (is user_name a) (spelling s a ∷ r) r) rest
      ∙ own-users a j (kept-worded p a k))

-- the walk passes the names of the tree, in the text's order
pub names-in-order : (edition : ℕ) (s : List ℕ) → NamesInOrder edition s
names-in-order edition s p t e =
    let a : Token = token_at edition s 0 in
    let g = subst (GoodProgram edition s (spanned s a)) e (program-good edition s) in
    walk-names edition s (spanned s a) t 0 0 (names_in_program p) g.walk g.last 0
    (spanned-kept edition s 0 a (good-at edition s 0 (omega arith))) (suc (length s)) (omega arith)
