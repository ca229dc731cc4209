-- The walk over a text's tokens, a token a turn.
use mathlib.Core.Path.{◌≡◌, refl, sym, ap, subst, ◌∙◌}
use mathlib.Core.Bool.{Bool, true, false, cond, beq, ◌||◌}
use mathlib.Core.List.{List, [], ◌∷◌}
use Prim.Native.Nat.{ℕ, ◌+◌, ◌-◌, ◌≤◌, ◌<◌}
use native.Mathlib.Omega.{arith}
use lib.ListN.{length}
use lib.Dec.{eqb, leb}
use Rattle.lists.specs.Elements.{all_below}
use Rattle.lists.proofs.Elements.{below_at}
use Rattle.lists.proofs.Tests.{clash, beq_same, or_left, or_right}
use Rattle.edition.specs.Limits.{filter_text}
use Rattle.program_tokens.specs.Kinds.{Kind, NUMBER, STRING, user_name, IF, WHILE, open_paren, close_paren, same, among, rank}
use Rattle.program_tokens.specs.Tokens.{Token, is, token_at, token_after}
use Rattle.program_lexer.specs.Coded.{coded, decoded, kind_of, kind_count}
use Rattle.program_lexer.specs.declared.tokens.Token.{Token as Coded}
use Rattle.program_parser.specs.Reading.{Good}
use Rattle.program_parser.proofs.Tokens.{choose, good-from, good-at, good-after}
use Rattle.program_parser.proofs.Codes.{kind-below, decoded-back}
use Rattle.program_parser.proofs.Places.{value-own}
use Rattle.program_names.specs.Walk.{spanned, open_after, operand_ends, ere_follows, next_in}
use Rattle.program_entries.specs.Named.{operand_bound}
use Rattle.program_entries.specs.Variables.{Walked}
use Rattle.program_entries.proofs.Spans.{span-cases, span-start, span-inside}

-- ---- kinds by their numbers

module _ (n : ℕ) (known : n < kind_count) where
  -- a test of numbers and a test of kinds that agree for every number of a kind
  agree : (f : ℕ → Bool) (g : Kind → Bool) → all_below (λ m. beq (f m) (g (kind_of m))) kind_count ≡ true
      → f n ≡ g (kind_of n)
  agree f g h = beq_same (f n) (g (kind_of n)) (below_at (λ m. beq (f m) (g (kind_of m))) kind_count h n known)

  pub condition-kind : (eqb n 13 || eqb n 15) ≡ among (IF ∷ WHILE ∷ []) (kind_of n)
  unfolding all_below among kind_of rank
  condition-kind = agree (λ m. eqb m 13 || eqb m 15) (among (IF ∷ WHILE ∷ [])) refl

  pub open-kind : eqb n 38 ≡ same (kind_of n) open_paren
  unfolding all_below kind_of rank
  open-kind = agree (λ m. eqb m 38) (λ k. same k open_paren) refl

  pub close-kind : eqb n 39 ≡ same (kind_of n) close_paren
  unfolding all_below kind_of rank
  close-kind = agree (λ m. eqb m 39) (λ k. same k close_paren) refl

  pub operand-kind : (eqb n 4 || (eqb n 5 || (eqb n 6 || (eqb n 7 || (eqb n 8 || eqb n 9)))))
      ≡ among operand_ends (kind_of n)
  unfolding all_below among kind_of rank
  operand-kind =
      agree (λ m. eqb m 4 || (eqb m 5 || (eqb m 6 || (eqb m 7 || (eqb m 8 || eqb m 9))))) (among operand_ends) refl

  -- as the code has it
  abbrev pub Opens : ℕ → ℕ
  Opens parens =
      cond (eqb n 13 || eqb n 15) 1
      (cond (eqb n 38) (cond (eqb parens 0) 0 (parens + 1))
      (cond (eqb n 39) (cond (leb parens 2) 0 (parens - 1)) parens))

  pub opens : (parens : ℕ) → open_after (kind_of n) parens ≡ Opens parens
  unfolding open_after
  opens parens = rw (← condition-kind, ← open-kind, ← close-kind)

  abbrev pub Follows : ℕ → Bool
  Follows parens =
      cond (eqb n 4 || (eqb n 5 || (eqb n 6 || (eqb n 7 || (eqb n 8 || eqb n 9))))) false
      (cond (eqb n 39) (eqb parens 2) true)

  pub follows : (parens : ℕ) → ere_follows (kind_of n) parens ≡ Follows parens
  unfolding ere_follows
  follows parens = rw (← operand-kind, ← close-kind)

  -- no more than one parenthesis a token
  opens-least : (parens : ℕ) → Opens parens ≤ parens + 1
  opens-least parens =
      choose (λ (m : ℕ). m ≤ parens + 1) (eqb n 13 || eqb n 15) _ _ (λ e. omega arith) (λ e.
      choose (λ (m : ℕ). m ≤ parens + 1) (eqb n 38) _ _
      (λ f. choose (λ (m : ℕ). m ≤ parens + 1) (eqb parens 0) _ _ (λ g. omega arith) (λ g. omega arith)) (λ f.
      choose (λ (m : ℕ). m ≤ parens + 1) (eqb n 39) _ _
      (λ g. choose (λ (m : ℕ). m ≤ parens + 1) (leb parens 2) _ _ (λ h. omega arith) (λ h. omega arith))
      (λ g. omega arith)))

  pub opens-few : (parens r : ℕ) → r ≡ open_after (kind_of n) parens → r ≤ parens + 1
  opens-few parens r e = omega (arith, e, opens parens, opens-least parens)

-- ---- the tokens that the walk comes to

module _ (edition : ℕ) (s : List ℕ) where
  -- a token of the text, or an ERE that isn't judged
  walked-good : (p : ℕ) (t : Token) → Good edition s p t → Walked edition s t
  unfolding among
  walked-good p t g =
      record {
        ordered = g.ordered;
        within = g.within;
        longer = g.longer;
        own = λ e.
            value-own edition s t g.placed
            (or_right (same t.kind NUMBER) _ (or_right (same t.kind STRING) _ (or_left (is user_name t) _ e)));
      }

  walked-span : (p : ℕ) (t : Token) → Good edition s p t → Walked edition s (spanned s t)
  unfolding rank
  walked-span p t g =
      span-cases s (Walked edition s) t (walked-good p t g)
      (λ n e h.
      record {
        ordered = omega arith;
        within = span-inside edition s p t n g e h;
        longer = λ f. omega arith;
        own = λ f. absurd (clash (sym f));
      })

  after-plain : (t : Token) → is user_name t ≡ false → token_after edition s t ≡ token_at edition s t.stop
  unfolding token_after
  after-plain t e = rw e

  after-good : (t : Token) → Walked edition s t → Good edition s t.stop (token_after edition s t)
  after-good t w = go (is user_name t) refl
    where
      go : (b : Bool) → is user_name t ≡ b → Good edition s t.stop (token_after edition s t)
      go true e =
          let g = good-from edition s 0 t.start (omega arith) (omega (arith, w.ordered, w.within)) in
          good-after edition s 0 t (subst (Good edition s 0) (sym (w.own e)) g)
      go false e = subst (Good edition s t.stop) (sym (after-plain t e)) (good-at edition s t.stop w.within)

  pub next-walked : (t : Token) (parens : ℕ) → Walked edition s t → Walked edition s (next_in edition s t parens)
  unfolding next_in
  next-walked t parens w =
      let u : Token = token_after edition s t in
      choose (Walked edition s) (ere_follows t.kind parens) (spanned s u) u
      (λ e. walked-span t.stop u (after-good t w)) (λ e. walked-good t.stop u (after-good t w))

  pub next-further : (t : Token) (parens : ℕ) → Walked edition s t → t.stop ≤ (next_in edition s t parens).start
  unfolding next_in
  next-further t parens w =
      let u : Token = token_after edition s t in
      let further = (after-good t w).after in
      choose (λ (v : Token). t.stop ≤ v.start) (ere_follows t.kind parens) (spanned s u) u
      (λ e. omega (arith, further, span-start s u)) (λ e. further)

  -- as the code has it
  module _ (t u : Coded) (parens : ℕ) (e : u ≡ coded (token_after edition s (decoded t))) where
    back : decoded u ≡ token_after edition s (decoded t)
    back = decoded-back u (token_after edition s (decoded t)) e

    pub next-ready : Walked edition s (decoded t) → length s ≤ filter_text
        → (u.kind < kind_count) × (u.start < operand_bound)
    next-ready w small =
        let v : Token = token_after edition s (decoded t) in
        let g = after-good (decoded t) w in
        let kind : u.kind ≡ rank v.kind = ap (λ (x : Coded). x.kind) e in
        let start : u.start ≡ v.start = ap (λ (x : Coded). x.start) e in
        (omega (arith, kind, kind-below v.kind), omega (arith, start, g.ordered, g.within))

    pub next-ere : ere_follows (kind_of t.kind) parens ≡ true → (r : Coded) → r ≡ coded (spanned s (decoded u))
        → r ≡ coded (next_in edition s (decoded t) parens)
    unfolding next_in
    next-ere f r h = h ∙ (ap (λ (x : Token). coded (spanned s x)) back ∙ rw f)

    pub next-plain : ere_follows (kind_of t.kind) parens ≡ false → u ≡ coded (next_in edition s (decoded t) parens)
    unfolding next_in
    next-plain f = e ∙ rw f

  pub first-walked : Walked edition s (spanned s (token_at edition s 0))
  first-walked = walked-span 0 (token_at edition s 0) (good-at edition s 0 (omega arith))
