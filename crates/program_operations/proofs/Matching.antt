-- `~` and `!~` after what was read.
use mathlib.Core.Path.{◌≡◌, refl, sym, ap, subst, ◌∙◌}
use mathlib.Core.Bool.{Bool, true, false, not, ◌&&◌, ◌||◌}
use mathlib.Core.List.{List, [], ◌∷◌, ◌++◌, append_assoc}
use Prim.Native.Nat.{ℕ, ◌+◌, ◌*◌, ◌≤◌, ◌<◌}
use native.Mathlib.Omega.{arith}
use lib.ListN.{length, length-append}
use lib.Seq.{sets}
use lib.Dec.{eqb}
use borrow.Author.Tests.{eq-eqb, ne_eqb}
use Rattle.lists.proofs.Tests.{clash}
use Rattle.image_format.specs.Codes.{action, negation, matches as matches-action}
use Rattle.program_tokens.specs.Kinds.{Kind, ERE, tilde, text_end, among, rank}
use Rattle.program_tokens.specs.Tokens.{Token, is, token_after, ere_in}
use Rattle.program_tree.specs.Tree.{Expression, variable, matches, no_match}
use Rattle.program_reader.specs.Read.{ok, operand_after}
use Rattle.program_reader.specs.Expressions.{match_with, matching}
use Rattle.program_code.specs.Emitted.{nothing, the_ere, Emitted, emit, act, action_code, opcode}
use Rattle.program_code.specs.Expressions.{size, compile}
use Rattle.program_code.proofs.Flows.{size-length}
use Rattle.program_lexer.specs.Coded.{coded, decoded}
use Rattle.program_lexer.specs.declared.tokens.Token.{Token as Coded}
use Rattle.program_words.specs.Words.{word}
use Rattle.program_parser.specs.declared.read.Read.{Read}
use Rattle.program_parser.specs.Meaning.{Denotes, Wrote}
use Rattle.program_parser.specs.Reading.{answered, refusal, refused_by, form_of, Good, Ready, ReadExpression, Reading}
use Rattle.program_parser.proofs.Tokens.{good-after}
use Rattle.program_parser.proofs.Codes.{decoded-back}
use Rattle.program_parser.proofs.Spelling.{wrote_after}
use Rattle.program_parser.proofs.Places.{ere-placed}
use Rattle.program_operations.specs.Parts.{Continues}
use Rattle.program_operations.proofs.Readings.{good-earlier, after-operand, refused-token}
use Rattle.program_operations.proofs.Written.{wrote_one}
use Rattle.program_operations.proofs.Primaries.{fits}

matches-no-name : (e : Expression) (r v : List ℕ) → matches e r ≡ variable v → ⊥
matches-no-name e r v y = let z : ◌≡◌ {A = ℕ} 0 1 = cc in omega arith

no-match-no-name : (e : Expression) (r v : List ℕ) → no_match e r ≡ variable v → ⊥
no-match-no-name e r v y = let z : ◌≡◌ {A = ℕ} 0 1 = cc in omega arith

-- an answer's token, and that of the definitions
pub token-of : (edition : ℕ) (s : List ℕ) (t : Token) (n d : ℕ) (ws : List ℕ) (e : Expression) (u : Token) (r : Read)
    (xs : List ℕ)
    → ReadExpression edition s t n d ws e u r xs → r.token ≡ coded u
token-of edition s t n d ws e u r xs h = ap (λ (y : Read). y.token) h.answer

module _ (edition : ℕ) (s : List ℕ) (d : ℕ) (r : Read) (xs : List ℕ) (ready : Ready edition s r.token r.count)
  where
    pub match_none : (not (eqb r.token.kind 57) && not (eqb r.token.kind 62)) ≡ true
        → Continues edition s d (matching edition s) r xs r xs
    unfolding Continues Reading matching among rank
    match_none a t n ws e u h =
        let k : r.token.kind ≡ rank u.kind = ap (λ (y : Read). y.token.kind) h.answer in
        let no_sign : (eqb (rank u.kind) 57 || (eqb (rank u.kind) 62 || false)) ≡ false =
        subst (λ (m : ℕ). (eqb m 57 || (eqb m 62 || false)) ≡ false) k
        (go (eqb r.token.kind 57) (eqb r.token.kind 62) a) in
        rw no_sign h
      where
        go : (x y : Bool) → (not x && not y) ≡ true → (x || (y || false)) ≡ false
        go true y e = absurd (clash (sym e))
        go false true e = absurd (clash (sym e))
        go false false e = refl

    module _ (a : (not (eqb r.token.kind 57) && not (eqb r.token.kind 62)) ≡ false) (v : Coded)
        (fe : v ≡ coded (operand_after edition s (decoded r.token))) where
      module _ (t : Token) (n : ℕ) (ws : List ℕ) (e : Expression) (u : Token)
          (h : ReadExpression edition s t n d ws e u r xs) where
        kind : r.token.kind ≡ rank u.kind
        kind = ap (λ (y : Read). y.token.kind) h.answer

        operand : v ≡ coded (operand_after edition s u)
        operand = fe ∙ ap (λ (y : Token). coded (operand_after edition s y))
            (decoded-back r.token u (token-of edition s t n d ws e u r xs h))

        with-sign : matching edition s (ok e u) ≡ match_with edition s e u (operand_after edition s u)
        unfolding matching among rank
        with-sign =
            let sign : (eqb (rank u.kind) 57 || (eqb (rank u.kind) 62 || false)) ≡ true =
            subst (λ (m : ℕ). (eqb m 57 || (eqb m 62 || false)) ≡ true) kind
            (go (eqb r.token.kind 57) (eqb r.token.kind 62) a) in
            rw sign
          where
            go : (x y : Bool) → (not x && not y) ≡ false → (x || (y || false)) ≡ true
            go true y f = refl
            go false true f = refl
            go false false f = absurd (clash f)

        after : Good edition s u.stop (operand_after edition s u)
        after = after-operand edition s u (good-earlier edition s 0 t.stop u (omega arith) h.good)

        found : (k : Kind) → is k (operand_after edition s u) ≡ eqb v.kind (rank k)
        found k = ap (λ (m : ℕ). eqb m (rank k)) (sym (ap (λ (y : Coded). y.kind) operand))

      pub match-refused : (q : Read) (ys : List ℕ) → (v.kind ≡ 6 → ⊥) → q ≡ refusal (refused_by (decoded v)) v.start
          → Continues edition s d (matching edition s) r xs q ys
      unfolding Continues match_with rank
      match-refused q ys z f t n ws e u h =
          let o = operand_after edition s u in
          let back : decoded v ≡ o = decoded-back v o (operand t n ws e u h) in
          let start : v.start ≡ o.start = ap (λ (y : Coded). y.start) (operand t n ws e u h) in
          refused-token edition s t n d ws (matching edition s (ok e u)) q ys o
          (with-sign t n ws e u h ∙ rw (found t n ws e u h ERE, ne_eqb v.kind 6 z))
          (f ∙ (ap (λ (y : Token). refusal (refused_by y) v.start) back ∙ ap (refusal (refused_by o)) start))

      module _ (z : v.kind ≡ 6) (deep : d ≤ 60000) (next : Coded)
          (ne : next ≡ coded (token_after edition s (decoded v))) (ys : List ℕ)
          (w : ys ≡ sets xs r.count (word 22 (d + 1) v.start ∷ [])) where
        module _ (t : Token) (n : ℕ) (ws : List ℕ) (e : Expression) (u : Token)
            (h : ReadExpression edition s t n d ws e u r xs) where
          place : ℕ
          place = (operand_after edition s u).start

          start : v.start ≡ (operand_after edition s u).start
          start = ap (λ (y : Coded). y.start) (operand t n ws e u h)

          next-is : next ≡ coded (token_after edition s (operand_after edition s u))
          next-is = ne ∙ ap (λ (y : Token). coded (token_after edition s y))
              (decoded-back v (operand_after edition s u) (operand t n ws e u h))

          count : r.count ≡ n + size e
          count = ap (λ (y : Read). y.count) h.answer

          is-ere : is ERE (operand_after edition s u) ≡ true
          unfolding rank
          is-ere = found t n ws e u h ERE ∙ eq-eqb v.kind 6 z

          begun : (operand_after edition s u).start < (operand_after edition s u).stop
          unfolding rank
          begun = (after t n ws e u h).longer (found t n ws e u h text_end
              ∙ ne_eqb v.kind 0 (λ y. omega (arith, y, z)))

          beyond : Good edition s (operand_after edition s u).stop (token_after edition s (operand_after edition s u))
          beyond = good-after edition s u.stop (operand_after edition s u) (after t n ws e u h)

          wrote : Wrote edition s ws n (compile e n d ++ emit (action matches-action) (d + 1)
              (the_ere (ere_in s (operand_after edition s u)))) ys
          unfolding opcode action_code Denotes
          wrote =
              let o = operand_after edition s u in
              let g = after t n ws e u h in
              wrote_after edition s ws xs ys n (n + size e) (compile e n d)
              (emit (action matches-action) (d + 1) (the_ere (ere_in s o)))
              (omega (arith, size-length e n d)) h.wrote
              (wrote_one edition s xs (n + size e) (action matches-action) (d + 1) o.start (the_ere (ere_in s o)) ys
              (fits 22 (d + 1) o.start (omega arith) (omega (arith, deep))
              (omega (arith, g.ordered, g.within, ready.small)))
              (ere-placed edition s o g.placed is-ere) (rw (← start, ← count) w))

          bounds : size e + 8 * t.start + 8 < 8 * (token_after edition s (operand_after edition s u)).start
          bounds = omega (arith, h.bound, h.good.ordered, (after t n ws e u h).after, begun, beyond.after)

          good : Good edition s t.stop (token_after edition s (operand_after edition s u))
          good =
              good-earlier edition s t.stop (operand_after edition s u).stop
              (token_after edition s (operand_after edition s u))
              (omega (arith, h.good.after, h.good.ordered, (after t n ws e u h).after, begun)) beyond

        pub match-tilde : (q : Read) → r.token.kind ≡ 57 → q ≡ answered next (r.count + 1) 0
            → Continues edition s d (matching edition s) r xs q ys
        unfolding Continues Reading match_with rank size compile form_of
        match-tilde q k f t n ws e u h =
            let o = operand_after edition s u in
            let tilde-is : is tilde u ≡ true = ap (λ (m : ℕ). eqb m 57) (sym (kind t n ws e u h))
            ∙ eq-eqb r.token.kind 57 k in
            let counted : r.count + 1 ≡ n + (size e + 1) = omega (arith, count t n ws e u h) in
            rw (with-sign t n ws e u h, is-ere t n ws e u h, tilde-is)
            record {
              answer = f ∙ (ap (λ (y : Coded). answered y (r.count + 1) 0) (next-is t n ws e u h)
                  ∙ ap (λ (m : ℕ). answered (coded (token_after edition s o)) m 0) counted);
              good = good t n ws e u h;
              bound = omega (arith, bounds t n ws e u h);
              wrote = wrote t n ws e u h;
              named = λ x y. absurd (matches-no-name e (ere_in s o) x y);
            }

        pub match-not : (q : Read) (zs : List ℕ) → (r.token.kind ≡ 57 → ⊥) → zs
            ≡ sets ys (r.count + 1) (word 14 (d + 1) 0 ∷ [])
            → q ≡ answered next (r.count + 1 + 1) 0 → Continues edition s d (matching edition s) r xs q zs
        unfolding Continues Reading match_with rank size compile form_of opcode action_code Denotes
        match-not q zs k w2 f t n ws e u h =
            let o = operand_after edition s u in
            let m-code = emit (action matches-action) (d + 1) (the_ere (ere_in s o)) in
            let tilde-is : is tilde u ≡ false = ap (λ (m : ℕ). eqb m 57) (sym (kind t n ws e u h))
            ∙ ne_eqb r.token.kind 57 k in
            let counted : r.count + 1 + 1 ≡ n + (size e + 2) = omega (arith, count t n ws e u h) in
            let at : n + length (compile e n d ++ m-code) ≡ r.count + 1 =
            omega (arith, count t n ws e u h, length-append (compile e n d) m-code, size-length e n d) in
            rw (with-sign t n ws e u h, is-ere t n ws e u h, tilde-is)
            record {
              answer = f ∙ (ap (λ (y : Coded). answered y (r.count + 1 + 1) 0) (next-is t n ws e u h)
                  ∙ ap (λ (m : ℕ). answered (coded (token_after edition s o)) m 0) counted);
              good = good t n ws e u h;
              bound = omega (arith, bounds t n ws e u h);
              wrote =
                  subst (λ (l : List Emitted). Wrote edition s ws n l zs)
                  (append_assoc (compile e n d) m-code (act negation (d + 1)))
                  (wrote_after edition s ws ys zs n (r.count + 1) (compile e n d ++ m-code) (act negation (d + 1)) at
                  (wrote t n ws e u h)
                  (wrote_one edition s ys (r.count + 1) (action negation) (d + 1) 0 nothing zs
                  (fits 14 (d + 1) 0 (omega arith) (omega (arith, deep)) (omega arith)) refl w2));
              named = λ x y. absurd (no-match-no-name e (ere_in s o) x y);
            }
