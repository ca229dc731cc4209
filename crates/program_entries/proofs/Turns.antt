-- A turn of the walk that enters the names: what is held, with the names that are left, is all.
use mathlib.Core.Path.{◌≡◌, refl, sym, ap, subst, ◌∙◌}
use mathlib.Core.Bool.{Bool, true, false, cond}
use mathlib.Core.List.{List, [], ◌∷◌, map}
use Prim.Native.Nat.{ℕ, zero, suc, ◌+◌, ◌-◌, ◌*◌, ◌≤◌, ◌<◌}
use native.Mathlib.Omega.{arith}
use lib.ListN.{length}
use lib.Dec.{eqb}
use borrow.Author.Tests.{eq-eqb, ne_eqb, eqb-true}
use Rattle.edition.specs.Limits.{filter_text}
use Rattle.image_format.specs.Image.{Constant, text}
use Rattle.program_tokens.specs.Kinds.{text_end, user_name, rank}
use Rattle.program_tokens.specs.Tokens.{Token, is, spelling, token_at}
use Rattle.program_lexer.specs.Coded.{coded, decoded, kind_of, kind_count}
use Rattle.program_lexer.specs.declared.tokens.Token.{Token as Coded}
use Rattle.program_lexer.proofs.Coding.{kind-test}
use Rattle.program_parser.proofs.Tokens.{good-at}
use Rattle.program_parser.proofs.Codes.{kind-below, decoded-back}
use Rattle.program_numbering.specs.Names.{with_new}
use Rattle.program_numbering.specs.Numbering.{same_constant}
use Rattle.program_names.specs.Walk.{spanned, open_after, next_in, names_from}
use Rattle.program_tables.specs.Tables.{AllInside}
use Rattle.program_entries.specs.Named.{operand_bound, WordToken}
use Rattle.program_entries.specs.Variables.{special_count, specials, specials_in, Held, Enters, with_name, variables_of, Walked}
use Rattle.program_entries.proofs.Placing.{word_at}
use Rattle.program_entries.proofs.Walking.{opens-few, next-walked, next-further, first-walked}
use Rattle.program_entries.proofs.Holding.{specials-held}

-- ---- the names that are left

module _ (edition : ℕ) (s : List ℕ) (t : Token) (parens : ℕ) where
  names-end : (left : ℕ) → is text_end t ≡ true → names_from edition s left t parens ≡ []
  unfolding names_from
  names-end zero e = refl
  names-end (suc left) e = rw e

  abbrev Rest : ℕ → List (List ℕ)
  Rest left = names_from edition s left (next_in edition s t parens) (open_after t.kind parens)

  names-turn : (left : ℕ) (l : List Constant) → is text_end t ≡ false → 0 < left
      → with_new same_constant l (map text (names_from edition s left t parens))
      ≡ with_new same_constant (with_name s t l) (map text (Rest (left - 1)))
  unfolding names_from with_name with_new
  names-turn zero l e h = absurd (omega arith)
  names-turn (suc left) l e h =
      let less : suc left - 1 ≡ left = omega arith in
      rw (e, less) (go (is user_name t))
    where
      go : (b : Bool)
          → with_new same_constant l (map text (cond b (spelling s t ∷ Rest left) (Rest left)))
          ≡ with_new same_constant (cond b (with_new same_constant l (text (spelling s t) ∷ [])) l) (map text (Rest left))
      go true = refl
      go false = refl

-- ---- a turn

-- the token t is next, with so many parentheses open, and the table holds n
pub record Turn (edition : ℕ) (s table : List ℕ) (t : Coded) (parens n : ℕ) : Type 0 where
  pub walked : Walked edition s (decoded t)
  pub known : t.kind < kind_count
  pub few : parens ≤ t.start
  pub left : ℕ
  pub enough : length s ≤ left + t.start
  pub list : List Constant
  pub held : Held s false table n list
  pub same : with_new same_constant list (map text (names_from edition s left (decoded t) parens)) ≡ variables_of edition s

module _ (edition : ℕ) (s : List ℕ) where
  -- the first token
  module _ (u : Coded) (e : u ≡ coded (token_at edition s 0)) where
    pub first-ready : length s ≤ filter_text → (u.kind < kind_count) × (u.start < operand_bound)
    first-ready small =
        let g = good-at edition s 0 (omega arith) in
        let kind : u.kind ≡ rank (token_at edition s 0).kind = ap (λ (x : Coded). x.kind) e in
        let start : u.start ≡ (token_at edition s 0).start = ap (λ (x : Coded). x.start) e in
        (omega (arith, kind, kind-below (token_at edition s 0).kind), omega (arith, start, g.ordered, g.within))

    pub turn-first : (t : Coded) (before table : List ℕ) → t ≡ coded (spanned s (decoded u)) → 14 ≤ length before
        → table ≡ specials_in before → Turn edition s table t 0 special_count
    unfolding variables_of
    turn-first t before table f room g =
        let v : Token = spanned s (token_at edition s 0) in
        let back : decoded t ≡ v =
        decoded-back t v (f ∙ ap (λ (x : Token). coded (spanned s x)) (decoded-back u (token_at edition s 0) e)) in
        let kind : t.kind ≡ rank (spanned s (decoded u)).kind = ap (λ (x : Coded). x.kind) f in
        record {
          walked = subst (Walked edition s) (sym back) (first-walked edition s);
          known = omega (arith, kind, kind-below (spanned s (decoded u)).kind);
          few = omega arith;
          left = suc (length s);
          enough = omega arith;
          list = specials;
          held = subst (λ (x : List ℕ). Held s false x special_count specials) (sym g) (specials-held s before room);
          same = rw back;
        }

  module _ (table : List ℕ) (t : Coded) (parens n : ℕ) (p : Turn edition s table t parens n) where
    end_test : is text_end (decoded t) ≡ eqb t.kind 0
    unfolding rank
    end_test = kind-test t.kind 0 (omega arith) (λ q. omega (arith, q))

    pub turn_inside : 2 * n ≤ length table → AllInside s table n
    turn_inside h = (p.held.few h).1

    pub turn-word : 1 ≤ edition → is user_name (decoded t) ≡ true → WordToken s (decoded t)
    unfolding rank
    turn-word first e =
        let seven : rank (kind_of t.kind) ≡ 7 = eqb-true (rank (kind_of t.kind)) 7 e in
        let begun : is text_end (decoded t) ≡ false =
        ne_eqb (rank (kind_of t.kind)) 0 (λ z. omega (arith, z, seven)) in
        subst (WordToken s) (sym (p.walked.own e))
        (word_at edition s t.start first (omega (arith, p.walked.longer begun, p.walked.within)))

    pub turn-few : length s ≤ filter_text → parens ≤ filter_text
    turn-few small = omega (arith, p.few, p.walked.ordered, p.walked.within)

    pub turn-done : t.kind ≡ 0 → Held s false table n (variables_of edition s)
    unfolding with_new
    turn-done e =
        let none = names-end edition s (decoded t) parens p.left (end_test ∙ eq-eqb t.kind 0 e) in
        let all : p.list ≡ variables_of edition s =
        ap (λ (l : List (List ℕ)). with_new same_constant p.list (map text l)) (sym none) ∙ p.same in
        subst (Held s false table n) all p.held

    module _ (going : t.kind ≡ 0 → ⊥) (after : List ℕ) (m : ℕ) (enters : Enters s (decoded t) table n after m)
        (u : Coded) (next : u ≡ coded (next_in edition s (decoded t) parens)) (q : ℕ)
        (opens : q ≡ open_after (kind_of t.kind) parens) where
      begun : is text_end (decoded t) ≡ false
      begun = end_test ∙ ne_eqb t.kind 0 going

      longer : t.start < t.stop
      longer = p.walked.longer begun

      starts : u.start ≡ (next_in edition s (decoded t) parens).start
      starts = ap (λ (x : Coded). x.start) next

      further : t.stop ≤ u.start
      further = omega (arith, starts, next-further edition s (decoded t) parens p.walked)

      pub turn-less : length s - u.start < length s - t.start
      turn-less = omega (arith, longer, further, p.walked.within)

      pub turn_more : Turn edition s after u q m
      turn_more =
          let v : Token = next_in edition s (decoded t) parens in
          let back : decoded u ≡ v = decoded-back u v next in
          let kind : u.kind ≡ rank v.kind = ap (λ (x : Coded). x.kind) next in
          record {
            walked = subst (Walked edition s) (sym back) (next-walked edition s (decoded t) parens p.walked);
            known = omega (arith, kind, kind-below v.kind);
            few = omega (arith, opens-few t.kind p.known parens q opens, p.few, longer, further);
            left = p.left - 1;
            enough = omega (arith, p.enough, longer, further, p.walked.within);
            list = with_name s (decoded t) p.list;
            held = enters p.list p.held;
            same =
                rw (back, opens)
                (sym (names-turn edition s (decoded t) parens p.left p.list begun
                (omega (arith, p.enough, longer, p.walked.within))) ∙ p.same);
          }
