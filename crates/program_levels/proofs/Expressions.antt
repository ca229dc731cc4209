-- The reader of expressions, beside the count of levels.
use mathlib.Core.Path.{◌≡◌, refl, sym, ap, subst, ◌∙◌}
use mathlib.Core.Bool.{Bool, true, false, cond, ◌&&◌}
use mathlib.Core.List.{List, [], ◌∷◌}
use mathlib.Core.Option.{Option, some, none}
use Prim.Native.Nat.{ℕ, zero, suc, ◌+◌, ◌<◌}
use native.Mathlib.Omega.{arith}
use lib.Dec.{eqb, leb}
use borrow.Author.Tests.{eqb-true, ne_eqb}
use Rattle.lists.proofs.Tests.{clash}
use Rattle.edition.specs.Limits.{nesting_depth}
use Rattle.image_format.specs.Image.{number, text}
use Rattle.program_tokens.specs.Kinds.{Kind, text_end, newline, NUMBER, STRING, ERE, open_paren, close_paren, comma, tilde, dollar, assign as assign-kind, no_match as no-match-kind, same, among, rank}
use Rattle.program_tokens.specs.Tokens.{Token, is, is_one_of, token_after, spelling, number_in, string_in, ere_in}
use Rattle.program_tokens.proofs.Ranks.{same-is}
use Rattle.program_tree.specs.Tree.{Expression, constant, ere, variable, parentheses, field, prefix, matches, no_match}
use Rattle.program_tree.specs.Functions.{Shape, an_expression, an_ere, Call, Function, functions, function_in, function_of}
use Rattle.program_grammar.specs.Sets.{names, prefixes}
use Rattle.program_reader.specs.Read.{Read, ok, no, map, refuse, operand_after, past_newlines}
use Rattle.program_reader.specs.Operators.{fields, prefixed, concatenations, matched, conjunctions, expressions, tier_of, tree_of, prefix_of}
use Rattle.program_reader.specs.Expressions.{assign_to, turns, closed, argument, arguments, call, calling, primary, field_form, prefix_form, right_of, more, match_with, matching, assigned, assignment, step_tier, tier, inside, expression_at}
use Rattle.program_exact.proofs.Facts.{each, by-test, words, function-word}
use Rattle.program_exact.proofs.Operands.{known}
use Rattle.program_exact.proofs.Tiers.{no_end}
use Rattle.program_levels.proofs.Count.{Around, paren, Count, operand, calling as calling-count, after, Move, moves, operand_move, after_move, move}
use Rattle.program_levels.proofs.Derivations.{token-move, function-move, prefix-move, paren-move, binary-move, join-move, match-move, assign-move, close-paren-move, comma-move, after_is, operand-is}
use Rattle.program_levels.proofs.Beside.{tier-plain}
use Rattle.program_levels.proofs.Steps.{Steps, stay, join, pass, quietly, Reads, refused, too-deep, earlier, reads-map, reads_then, Like, likely, like-opens, passed, lines}

abbrev Room : ℕ → Type 0
Room zero = ⊥
Room (suc n) = Unit

-- the first argument of a function is an expression
abbrev Leads : List Shape → Type 0
Leads [] = ⊥
Leads (an_expression ∷ l) = Unit
Leads (an_ere ∷ l) = ⊥

abbrev LeadsIn : Option Function → Type 0
LeadsIn none = Unit
LeadsIn (some f) = Leads f.shapes

abbrev AllLead : List Function → Type 0
AllLead [] = Unit
AllLead (f ∷ l) = (Leads f.shapes) × (AllLead l)

leads-in : (edition : ℕ) (k : Kind) (l : List Function) → AllLead l → LeadsIn (function_in edition k l)
unfolding function_in
leads-in edition k [] h = tt
leads-in edition k (f ∷ l) h = by-test LeadsIn (leb f.since edition && same k f.kind) (some f) (function_in edition k l) (λ e. h.0) (λ e. leads-in edition k l h.1)

leads : (edition : ℕ) (k : Kind) (f : Function) → function_of edition k ≡ some f → Leads f.shapes
leads edition k f e = subst LeadsIn e (leads-in edition k functions (tt, (tt, (tt, (tt, tt)))))

module _ (edition : ℕ) (s : List ℕ) where
  -- after an operand; after a whole expression, which may have opened levels with `=`
  abbrev After : ℕ → Around → Expression → Token → Count → Type 0
  After e c a u y = y ≡ after e c

  abbrev pub Whole : {A : Type 0} → Around → A → Token → Count → Type 0
  Whole c a u y = (f : ℕ) × (y ≡ after f c)

  -- one level further in
  pub record InnerReads (levels d : ℕ) : Type 0 where
    pub whole : (p : Bool) (x : Count) (o : Token) (c : Around) → move edition x o.kind ≡ moves (suc d) (operand (suc d) (suc d) c) → same o.kind text_end ≡ false
        → Reads edition s (Whole c) x o (inside edition s levels p expressions o (operand_after edition s o))
    pub prefix-part : (x : Count) (o : Token) (e : ℕ) (c : Around) → move edition x o.kind ≡ moves (suc d) (operand (suc d) e c) → same o.kind text_end ≡ false
        → Reads edition s (After e c) x o (inside edition s levels false prefixed o (operand_after edition s o))
    pub field-part : (x : Count) (o : Token) (e : ℕ) (c : Around) → move edition x o.kind ≡ moves (suc d) (operand (suc d) e c) → same o.kind text_end ≡ false
        → Reads edition s (After e c) x o (inside edition s levels false fields o (operand_after edition s o))
    pub next-part : (o t : Token) (x : Count) (c : Around) → Room levels → Like edition s x t.kind (operand_move edition (suc d) (suc d) c t.kind)
        → Reads edition s (Whole c) x t (inside edition s levels false expressions o t)

  -- ---- what a `)` has to follow

  closed-reads : (a e : ℕ) (c : Around) (x : Count) (o : Token) (r : Read Expression) → Reads edition s (Whole (paren a e c)) x o r → Reads edition s (After e c) x o (closed edition s r)
  unfolding closed rank
  closed-reads a e c x o (no outcome place) g = g
  closed-reads a e c x o (ok z t) g =
      earlier edition s (After e c) x o g.0 t (cond (is close_paren t) (ok z (token_after edition s t)) (refuse t)) g.1
      (by-test (Reads edition s (After e c) g.0 t) (is close_paren t) (ok z (token_after edition s t)) (refuse t)
      (λ q. (after e c, quietly edition s g.0 t close_paren (after e c) q refl (ap (λ (y : Count). move edition y close_paren) g.2.1 ∙ close-paren-move edition g.2.0 a e c), refl))
      (λ q. refused edition s g.0 t))

  operand_line : (d e : ℕ) (c : Around) → move edition (operand d e c) newline ≡ moves 0 (operand d e c)
  unfolding move operand_move rank
  operand_line d e c = refl

  like-operand : (d e : ℕ) (c : Around) (k : Kind) → Like edition s (operand d e c) k (operand_move edition d e c k)
  like-operand d e c k = likely edition s (operand d e c) k (operand_move edition d e c k) (operand-is edition d e c k)

  -- a kind before an operand that newlines may come before
  pub to-line : (x : Count) (t : Token) (j : Kind) (d e : ℕ) (c : Around) → is j t ≡ true → same j text_end ≡ false → move edition x j ≡ moves 0 (operand d e c)
      → Steps edition s x t (operand d e c) (past_newlines edition s (token_after edition s t))
  to-line x t j d e c q n h =
      join edition s x t (operand d e c) (operand_after edition s t) (operand d e c) (past_newlines edition s (token_after edition s t)) (quietly edition s x t j (operand d e c) q n h)
      (lines edition s (operand d e c) (token_after edition s t) refl (operand_line d e c))

  -- ---- forms of one level

  -- one token that is an operand
  token-reads : (x : Count) (t : Token) (d e : ℕ) (c : Around) (a : Expression) → among (NUMBER ∷ STRING ∷ ERE ∷ names) t.kind ≡ true → Like edition s x t.kind (operand_move edition d e c t.kind)
      → Reads edition s (After e c) x t (ok a (token_after edition s t))
  unfolding among rank
  token-reads x t d e c a q h = (
    after e c,
    passed edition s x t (operand_move edition d e c t.kind) (after e c) h (token-move edition d e c t.kind q)
        (each (λ k. same k text_end ≡ false) (NUMBER ∷ STRING ∷ ERE ∷ names) (refl, (refl, (refl, (refl, (refl, (refl, tt)))))) t.kind q),
    refl,
  )

  -- ---- arguments

  argument-reads : (levels d : ℕ) → InnerReads levels d → Room levels → (e : ℕ) (c : Around) (o : Token) (z : Shape) (l : List Shape) (g : Call (z ∷ l)) (t : Token) (rest : Call l → Token → Read Expression)
      → ((f : Call l) (v : Token) (y : Count) → Whole (paren (suc d) e c) f v y → Reads edition s (Whole (paren (suc d) e c)) y v (rest f v))
      → Reads edition s (Whole (paren (suc d) e c)) (operand (suc d) (suc d) (paren (suc d) e c)) t (argument edition s (inside edition s levels) o z l g t rest)
  unfolding argument among rank
  argument-reads levels d i room e c o an_expression l g t rest k =
      let P : Around = paren (suc d) e c in
      reads_then edition s (Whole P) (Whole P) (operand (suc d) (suc d) P) t (inside edition s levels false expressions o t) (λ a w. rest (g a) w)
      (i.next-part o t (operand (suc d) (suc d) P) P room (like-operand (suc d) (suc d) P t.kind)) (λ a w x h. k (g a) w x h)
  argument-reads levels d i room e c o an_ere l g t rest k =
      let P : Around = paren (suc d) e c in
      by-test (Reads edition s (Whole P) (operand (suc d) (suc d) P) t) (is ERE t) (rest (g (ere_in s t)) (token_after edition s t)) (refuse t)
      (λ q. earlier edition s (Whole P) (operand (suc d) (suc d) P) t (after (suc d) P) (token_after edition s t) (rest (g (ere_in s t)) (token_after edition s t))
      (quietly edition s (operand (suc d) (suc d) P) t ERE (after (suc d) P) q refl (operand-is edition (suc d) (suc d) P ERE ∙ token-move edition (suc d) (suc d) P ERE refl))
      (k (g (ere_in s t)) (token_after edition s t) (after (suc d) P) (suc d, refl)))
      (λ q. refused edition s (operand (suc d) (suc d) P) t)

  arguments-read : (levels d : ℕ) → InnerReads levels d → Room levels → (e : ℕ) (c : Around) (o : Token) (l : List Shape) (g : Call l) (v : Token) (y : Count) → Whole (paren (suc d) e c) g v y
      → Reads edition s (Whole (paren (suc d) e c)) y v (arguments edition s (inside edition s levels) o false l g v)
  unfolding arguments among rank
  arguments-read levels d i room e c o [] g v y h = (y, stay y v, h)
  arguments-read levels d i room e c o (z ∷ l) g v y h =
      let P : Around = paren (suc d) e c in
      let t : Token = past_newlines edition s (token_after edition s v) in
      let rest : Call l → Token → Read Expression = arguments edition s (inside edition s levels) o false l in
      let r : Read Expression = argument edition s (inside edition s levels) o z l g t rest in
      by-test (Reads edition s (Whole P) y v) (is comma v) r (refuse v)
      (λ q. earlier edition s (Whole P) y v (operand (suc d) (suc d) P) t r
      (to-line y v comma (suc d) (suc d) P q refl (ap (λ (x : Count). move edition x comma) h.1 ∙ comma-move edition h.0 (suc d) e c))
      (argument-reads levels d i room e c o z l g t rest (λ f w x k. arguments-read levels d i room e c o l f w x k)))
      (λ q. refused edition s y v)

  -- from the `(` on
  opened-reads : (levels d : ℕ) → InnerReads levels d → d + levels ≡ nesting_depth → (e : ℕ) (c : Around) (l : List Shape) (f : Call l) (u : Token) → Leads l → same u.kind text_end ≡ false
      → Reads edition s (Whole (paren (suc d) e c)) (calling-count d e c) u (arguments edition s (inside edition s levels) u true l f u)
  unfolding arguments argument inside move
  opened-reads levels d i n e c [] f u h z = absurd h
  opened-reads levels d i n e c (an_ere ∷ l) f u h z = absurd h
  opened-reads zero d i n e c (an_expression ∷ l) f u h z = too-deep edition s (calling-count d e c) u (omega (arith, n))
  opened-reads (suc levels) d i n e c (an_expression ∷ l) f u h z =
      reads_then edition s (Whole (paren (suc d) e c)) (Whole (paren (suc d) e c)) (calling-count d e c) u (inside edition s (suc levels) false expressions u (operand_after edition s u)) (λ a w. arguments edition s (inside edition s (suc levels)) u false l (f a) w)
      (i.whole false (calling-count d e c) u (paren (suc d) e c) refl z)
      (λ a w x k. arguments-read (suc levels) d i tt e c u l (f a) w x k)

  call-reads : (levels d : ℕ) → InnerReads levels d → d + levels ≡ nesting_depth → (e : ℕ) (c : Around) (f : Function) (u : Token) → Leads f.shapes
      → Reads edition s (After e c) (calling-count d e c) u (call edition s (inside edition s levels) f u)
  unfolding call rank
  call-reads levels d i n e c f u h =
      by-test (Reads edition s (After e c) (calling-count d e c) u) (is open_paren u) (closed edition s (arguments edition s (inside edition s levels) u true f.shapes f.tree u)) (refuse u)
      (λ q. closed-reads (suc d) e c (calling-count d e c) u (arguments edition s (inside edition s levels) u true f.shapes f.tree u)
      (opened-reads levels d i n e c f.shapes f.tree u h (known edition s (λ k. same k text_end ≡ false) u.kind open_paren q refl)))
      (λ q. refused edition s (calling-count d e c) u)

  -- ---- primaries, `$`, prefixes

  abbrev FormReads : (Token → Read Expression) → ℕ → Type 0
  FormReads f d = (x : Count) (t : Token) (e : ℕ) (c : Around) → Like edition s x t.kind (operand_move edition d e c t.kind) → Reads edition s (After e c) x t (f t)

  primary-reads : (levels d : ℕ) → InnerReads levels d → d + levels ≡ nesting_depth → FormReads (primary edition s (inside edition s levels)) d
  unfolding primary calling among rank
  primary-reads levels d i n x t e c h =
      let R : Read Expression → Type 0 = Reads edition s (After e c) x t in
      let one : (j : Kind) (a : Expression) → is j t ≡ true → among (NUMBER ∷ STRING ∷ ERE ∷ names) j ≡ true → R (ok a (token_after edition s t)) =
      λ j a q m. token-reads x t d e c a (known edition s (λ k. among (NUMBER ∷ STRING ∷ ERE ∷ names) k ≡ true) t.kind j q m) h in
      by-test R (is NUMBER t) _ _ (λ q. one NUMBER (constant (number (number_in s t))) q refl)
      (λ q1. by-test R (is STRING t) _ _ (λ q. one STRING (constant (text (string_in s t))) q refl)
      (λ q2. by-test R (is ERE t) _ _ (λ q. one ERE (ere (ere_in s t)) q refl)
      (λ q3. by-test R (is_one_of names t) _ _
      (λ q. token-reads x t d e c (variable (spelling s t)) (each (λ k. among (NUMBER ∷ STRING ∷ ERE ∷ names) k ≡ true) names (refl, (refl, (refl, tt))) t.kind q) h)
      (λ q4. by-test R (is open_paren t) _ _
      (λ q.
      let r : Read Expression = inside edition s levels false expressions t (operand_after edition s t) in
      reads-map edition s (After e c) (After e c) parentheses x t (closed edition s r) (λ a u y z. z)
      (closed-reads (suc d) e c x t r (i.whole false x t (paren (suc d) e c)
      (like-opens edition s x t.kind (operand_move edition d e c t.kind) d (operand (suc d) (suc d) (paren (suc d) e c)) h (ap (operand_move edition d e c) (same-is t.kind open_paren q) ∙ paren-move edition d e c))
      (known edition s (λ k. same k text_end ≡ false) t.kind open_paren q refl))))
      (λ q5. called (function_of edition t.kind) refl)))))
    where
      called : (o : Option Function) → function_of edition t.kind ≡ o → Reads edition s (After e c) x t (calling edition s (inside edition s levels) t o)
      called none z = refused edition s x t
      called (some f) z =
          earlier edition s (After e c) x t (calling-count d e c) (token_after edition s t) (call edition s (inside edition s levels) f (token_after edition s t))
          (passed edition s x t (operand_move edition d e c t.kind) (calling-count d e c) h (function-move edition d e c t.kind f z)
          (each (λ k. same k text_end ≡ false) words (refl, (refl, (refl, (refl, tt)))) t.kind (function-word edition t.kind f z)))
          (call-reads levels d i n e c f (token_after edition s t) (leads edition t.kind f z))

  field-reads : (levels d : ℕ) → InnerReads levels d → d + levels ≡ nesting_depth → FormReads (field_form edition s (inside edition s levels)) d
  unfolding field_form among rank
  field-reads levels d i n x t e c h =
      by-test (Reads edition s (After e c) x t) (is dollar t) (map field (inside edition s levels false fields t (operand_after edition s t))) (primary edition s (inside edition s levels) t)
      (λ q. reads-map edition s (After e c) (After e c) field x t (inside edition s levels false fields t (operand_after edition s t)) (λ a u y z. z)
      (i.field-part x t e c (like-opens edition s x t.kind (operand_move edition d e c t.kind) d (operand (suc d) e c) h (prefix-move edition d e c t.kind (known edition s (λ k. among (dollar ∷ prefixes) k ≡ true) t.kind dollar q refl)))
      (known edition s (λ k. same k text_end ≡ false) t.kind dollar q refl)))
      (λ q. primary-reads levels d i n x t e c h)

  prefix-reads : (levels d : ℕ) → InnerReads levels d → (below : Token → Read Expression) (x : Count) (t : Token) (e : ℕ) (c : Around) → Like edition s x t.kind (operand_move edition d e c t.kind)
      → Reads edition s (After e c) x t (below t) → Reads edition s (After e c) x t (prefix_form edition s (inside edition s levels) below t)
  unfolding prefix_form among rank
  prefix-reads levels d i below x t e c h b =
      by-test (Reads edition s (After e c) x t) (is_one_of prefixes t) (map (prefix (prefix_of t.kind)) (inside edition s levels false prefixed t (operand_after edition s t))) (below t)
      (λ q. reads-map edition s (After e c) (After e c) (prefix (prefix_of t.kind)) x t (inside edition s levels false prefixed t (operand_after edition s t)) (λ a u y z. z)
      (i.prefix-part x t e c (like-opens edition s x t.kind (operand_move edition d e c t.kind) d (operand (suc d) e c) h
      (prefix-move edition d e c t.kind (each (λ k. among (dollar ∷ prefixes) k ≡ true) prefixes (refl, (refl, (refl, tt))) t.kind q)))
      (each (λ k. same k text_end ≡ false) prefixes (refl, (refl, (refl, tt))) t.kind q)))
      (λ q. b)

  -- ---- operators: from here on the operand is at its expression's level

  abbrev TierReads : (Token → Read Expression) → ℕ → Type 0
  TierReads f e = (x : Count) (t : Token) (c : Around) → Like edition s x t.kind (operand_move edition e e c t.kind) → Reads edition s (After e c) x t (f t)

  binary-step : (e : ℕ) (c : Around) (p : Bool) (k : Kind) (n : ℕ) → tier_of edition p k ≡ suc n → eqb (suc n) 4 ≡ false → move edition (after e c) k ≡ moves 0 (operand e e c)
  binary-step e c p k n h q = after_is edition e c k ∙ binary-move edition e c k (suc n) (tier-plain edition p k n h) q (ne_eqb (suc n) 0 (λ z. omega (arith, z)))

  turn-reads : (p : Bool) (n e : ℕ) (c : Around) (below : Token → Read Expression) → TierReads below e → (u : Token) → tier_of edition p u.kind ≡ suc n
      → Reads edition s (After e c) (after e c) u (below (right_of edition s (suc n) u))
  unfolding right_of
  turn-reads p n e c below b u h =
      let R : Token → Type 0 = λ v. Reads edition s (After e c) (after e c) u (below v) in
      by-test R (eqb (suc n) concatenations) u _
      (λ q. b (after e c) u c (likely edition s (after e c) u.kind (operand_move edition e e c u.kind)
      (after_is edition e c u.kind ∙ join-move edition e c u.kind (tier-plain edition p u.kind n h ∙ eqb-true (suc n) 4 q))))
      (λ q.
      let to : Steps edition s (after e c) u (operand e e c) (operand_after edition s u) = pass edition s (after e c) u 0 (operand e e c) (binary-step e c p u.kind n h q) (omega arith) (no_end edition s p u.kind n h) in
      let v : Token = past_newlines edition s (token_after edition s u) in
      by-test R (leb conjunctions (suc n)) v (operand_after edition s u)
      (λ r. earlier edition s (After e c) (after e c) u (operand e e c) v (below v)
      (join edition s (after e c) u (operand e e c) (operand_after edition s u) (operand e e c) v to (lines edition s (operand e e c) (token_after edition s u) refl (operand_line e e c)))
      (b (operand e e c) v c (like-operand e e c v.kind)))
      (λ r. earlier edition s (After e c) (after e c) u (operand e e c) (operand_after edition s u) (below (operand_after edition s u)) to
      (b (operand e e c) (operand_after edition s u) c (like-operand e e c (operand_after edition s u).kind))))

  more-reads : (p : Bool) (n e : ℕ) (c : Around) (below : Token → Read Expression) → TierReads below e → (i : ℕ) (x : Count) (t : Token) (r : Read Expression) → Reads edition s (After e c) x t r
      → Reads edition s (After e c) x t (more edition s p (suc n) below i r)
  unfolding more
  more-reads p n e c below b zero x t r g = g
  more-reads p n e c below b (suc i) x t (no outcome place) g = g
  more-reads p n e c below b (suc i) x t (ok a u) g =
      let r : Read Expression = map (tree_of u.kind a) (below (right_of edition s (suc n) u)) in
      by-test (Reads edition s (After e c) x t) (eqb (tier_of edition p u.kind) (suc n)) (more edition s p (suc n) below i r) (ok a u)
      (λ q. more-reads p n e c below b i x t r
      (earlier edition s (After e c) x t (after e c) u r (subst (λ (y : Count). Steps edition s x t y u) g.2 g.1)
      (reads-map edition s (After e c) (After e c) (tree_of u.kind a) (after e c) u (below (right_of edition s (suc n) u)) (λ a u y z. z)
      (turn-reads p n e c below b u (eqb-true (tier_of edition p u.kind) (suc n) q)))))
      (λ q. g)

  match-with : (e : ℕ) (c : Around) (a : Expression) (t u : Token) → Reads edition s (After e c) (operand e e c) u (match_with edition s a t u)
  unfolding match_with among rank
  match-with e c a t u =
      by-test (Reads edition s (After e c) (operand e e c) u) (is ERE u) (ok (cond (is tilde t) (matches a (ere_in s u)) (no_match a (ere_in s u))) (token_after edition s u)) (refuse u)
      (λ q. (after e c, quietly edition s (operand e e c) u ERE (after e c) q refl (operand-is edition e e c ERE ∙ token-move edition e e c ERE refl), refl)) (λ q. refused edition s (operand e e c) u)

  matching-reads : (e : ℕ) (c : Around) (x : Count) (t : Token) (r : Read Expression) → Reads edition s (After e c) x t r → Reads edition s (After e c) x t (matching edition s r)
  unfolding matching among rank
  matching-reads e c x t (no outcome place) g = g
  matching-reads e c x t (ok a u) g =
      by-test (Reads edition s (After e c) x t) (is_one_of (tilde ∷ no-match-kind ∷ []) u) (match_with edition s a u (operand_after edition s u)) (ok a u)
      (λ q. earlier edition s (After e c) x t (after e c) u (match_with edition s a u (operand_after edition s u)) (subst (λ (y : Count). Steps edition s x t y u) g.2 g.1)
      (earlier edition s (After e c) (after e c) u (operand e e c) (operand_after edition s u) (match_with edition s a u (operand_after edition s u))
      (pass edition s (after e c) u 0 (operand e e c) (after_is edition e c u.kind ∙ match-move edition e c u.kind q) (omega arith)
      (each (λ k. same k text_end ≡ false) (tilde ∷ no-match-kind ∷ []) (refl, (refl, tt)) u.kind q))
      (match-with e c a u (operand_after edition s u))))
      (λ q. g)

  tier-step : (levels e : ℕ) → InnerReads levels e → (p : Bool) (n : ℕ) → eqb (suc n) expressions ≡ false → TierReads (tier edition s (inside edition s levels) p n) e
      → TierReads (tier edition s (inside edition s levels) p (suc n)) e
  unfolding tier step_tier
  tier-step levels e i p n z b x t c h =
      let R : Read Expression → Type 0 = Reads edition s (After e c) x t in
      let below : Token → Read Expression = tier edition s (inside edition s levels) p n in
      by-test R (eqb (suc n) prefixed) (prefix_form edition s (inside edition s levels) below t) _
      (λ q. prefix-reads levels e i below x t e c h (b x t c h))
      (λ q. by-test R (eqb (suc n) matched) (matching edition s (below t)) _ (λ r. matching-reads e c x t (below t) (b x t c h))
      (λ r. by-test R (eqb (suc n) expressions) (assignment edition s (inside edition s levels) p (below t)) (more edition s p (suc n) below (turns s (suc n)) (below t))
      (λ u. absurd (clash (sym u ∙ z))) (λ u. more-reads p n e c below b (turns s (suc n)) x t (below t) (b x t c h))))

  -- ---- assignments, and whole expressions

  assigned-reads : (levels e : ℕ) → InnerReads levels e → (p : Bool) (c : Around) (a : Expression) (t : Token) (o : Option (Expression → Expression)) → is assign-kind t ≡ true
      → Reads edition s (Whole c) (after e c) t (assigned edition s (inside edition s levels) p a t o)
  unfolding assigned rank
  assigned-reads levels e i p c a t none q = (after e c, stay (after e c) t, (e, refl))
  assigned-reads levels e i p c a t (some f) q =
      reads-map edition s (Whole c) (Whole c) f (after e c) t (inside edition s levels p expressions t (operand_after edition s t)) (λ a u y z. z)
      (i.whole p (after e c) t c (after_is edition e c t.kind ∙ (ap (after_move edition e c) (same-is t.kind assign-kind q) ∙ assign-move edition e c)) (known edition s (λ k. same k text_end ≡ false) t.kind assign-kind q refl))

  assignment-reads : (levels e : ℕ) → InnerReads levels e → (p : Bool) (c : Around) (x : Count) (t : Token) (r : Read Expression) → Reads edition s (After e c) x t r
      → Reads edition s (Whole c) x t (assignment edition s (inside edition s levels) p r)
  unfolding assignment
  assignment-reads levels e i p c x t (no outcome place) g = g
  assignment-reads levels e i p c x t (ok a u) g =
      by-test (Reads edition s (Whole c) x t) (is assign-kind u) (assigned edition s (inside edition s levels) p a u (assign_to edition a)) (ok a u)
      (λ q. earlier edition s (Whole c) x t (after e c) u (assigned edition s (inside edition s levels) p a u (assign_to edition a)) (subst (λ (y : Count). Steps edition s x t y u) g.2 g.1)
      (assigned-reads levels e i p c a u (assign_to edition a) q))
      (λ q. (g.0, g.1, (e, g.2)))

  tier-nine : (levels e : ℕ) → InnerReads levels e → e + levels ≡ nesting_depth → (p : Bool) → TierReads (tier edition s (inside edition s levels) p 9) e
  unfolding tier
  tier-nine levels e i n p =
      let up : (m : ℕ) → eqb (suc m) expressions ≡ false → TierReads (tier edition s (inside edition s levels) p m) e → TierReads (tier edition s (inside edition s levels) p (suc m)) e = tier-step levels e i p in
      up 8 refl (up 7 refl (up 6 refl (up 5 refl (up 4 refl (up 3 refl (up 2 refl (up 1 refl (up 0 refl (λ x t c h. field-reads levels e i n x t e c h)))))))))

  whole-reads : (levels e : ℕ) → InnerReads levels e → e + levels ≡ nesting_depth → (p : Bool) (x : Count) (t : Token) (c : Around) → Like edition s x t.kind (operand_move edition e e c t.kind)
      → Reads edition s (Whole c) x t (tier edition s (inside edition s levels) p expressions t)
  unfolding tier step_tier
  whole-reads levels e i n p x t c h = assignment-reads levels e i p c x t (tier edition s (inside edition s levels) p 9 t) (tier-nine levels e i n p x t c h)

  -- ---- levels

  pub inside-reads : (levels d : ℕ) → d + levels ≡ nesting_depth → InnerReads levels d
  unfolding inside tier step_tier
  inside-reads zero d n =
      record {
        whole = λ p x o c h z. too-deep edition s x o (over x o (operand (suc d) (suc d) c) h);
        prefix-part = λ x o e c h z. too-deep edition s x o (over x o (operand (suc d) e c) h);
        field-part = λ x o e c h z. too-deep edition s x o (over x o (operand (suc d) e c) h);
        next-part = λ o t x c room h. absurd room;
      }
    where
      over : (x : Count) (o : Token) (y : Count) → move edition x o.kind ≡ moves (suc d) y → nesting_depth < (move edition x o.kind).level
      over x o y h = let e : (move edition x o.kind).level ≡ suc d = ap (λ (m : Move). m.level) h in omega (arith, e, n)
  inside-reads (suc levels) d n =
      let m : suc d + levels ≡ nesting_depth = omega (arith, n) in
      let i = inside-reads levels (suc d) m in
      record {
        whole = λ p x o c h z. earlier edition s (Whole c) x o (operand (suc d) (suc d) c) (operand_after edition s o) (tier edition s (inside edition s levels) p expressions (operand_after edition s o))
            (pass edition s x o (suc d) (operand (suc d) (suc d) c) h (omega (arith, m)) z)
            (whole-reads levels (suc d) i m p (operand (suc d) (suc d) c) (operand_after edition s o) c (like-operand (suc d) (suc d) c (operand_after edition s o).kind));
        prefix-part = λ x o e c h z. earlier edition s (After e c) x o (operand (suc d) e c) (operand_after edition s o) (prefix_form edition s (inside edition s levels) (field_form edition s (inside edition s levels)) (operand_after edition s o))
            (pass edition s x o (suc d) (operand (suc d) e c) h (omega (arith, m)) z)
            (prefix-reads levels (suc d) i (field_form edition s (inside edition s levels)) (operand (suc d) e c) (operand_after edition s o) e c (like-operand (suc d) e c (operand_after edition s o).kind)
            (field-reads levels (suc d) i m (operand (suc d) e c) (operand_after edition s o) e c (like-operand (suc d) e c (operand_after edition s o).kind)));
        field-part = λ x o e c h z. earlier edition s (After e c) x o (operand (suc d) e c) (operand_after edition s o) (field_form edition s (inside edition s levels) (operand_after edition s o))
            (pass edition s x o (suc d) (operand (suc d) e c) h (omega (arith, m)) z)
            (field-reads levels (suc d) i m (operand (suc d) e c) (operand_after edition s o) e c (like-operand (suc d) e c (operand_after edition s o).kind));
        next-part = λ o t x c room h. whole-reads levels (suc d) i m false x t c h;
      }

  pub expression-reads : (levels e : ℕ) → e + levels ≡ nesting_depth → (p : Bool) (x : Count) (t : Token) (c : Around) → Like edition s x t.kind (operand_move edition e e c t.kind)
      → Reads edition s (Whole c) x t (expression_at edition s levels p t)
  expression-reads levels e n p x t c h = whole-reads levels e (inside-reads levels e n) n p x t c h
