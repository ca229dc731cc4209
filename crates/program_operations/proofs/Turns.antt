-- A turn of the loop over a tier's operators.
use mathlib.Core.Path.{◌≡◌, refl, sym, ap, subst, ◌∙◌}
use mathlib.Core.Bool.{Bool, true, false, cond, ◌||◌}
use mathlib.Core.List.{List, [], ◌∷◌}
use Prim.Native.Nat.{ℕ, zero, suc, ◌+◌, ◌-◌, ◌*◌, ◌≤◌, ◌<◌}
use native.Mathlib.Omega.{arith}
use lib.ListN.{length}
use lib.Seq.{sets}
use lib.Dec.{eqb}
use borrow.Author.Tests.{eq-eqb, ne_eqb, eqb-true, eqb-false}
use Rattle.image_format.specs.Codes.{Operation, action}
use Rattle.image_format.proofs.Codes.{code_below, count-few}
use Rattle.program_tokens.specs.Kinds.{Kind, or_or, and_and, same, rank}
use Rattle.program_tokens.proofs.Ranks.{same-is}
use Rattle.program_tokens.specs.Tokens.{Token}
use Rattle.program_tree.specs.Tree.{Expression, both, either}
use Rattle.program_reader.specs.Read.{Read as Result, ok, no, map}
use Rattle.program_reader.specs.Operators.{tier_of, tree_of, concatenations}
use Rattle.program_reader.specs.Expressions.{turns, right_of, more}
use Rattle.program_code.specs.Emitted.{nothing, action_code, opcode}
use Rattle.program_code.specs.Expressions.{size, compile}
use Rattle.program_code.proofs.Flows.{size-length}
use Rattle.program_code.proofs.Opcodes.{opcode-row}
use Rattle.program_lexer.specs.Coded.{coded, decoded, kind_of}
use Rattle.program_lexer.specs.declared.tokens.Token.{Token as Coded}
use Rattle.program_words.specs.Words.{word, not_words, both_words, either_words}
use Rattle.program_parser.specs.declared.read.Read.{Read}
use Rattle.program_parser.specs.Tables.{between, right_depth, action_of, operator_code}
use Rattle.program_parser.specs.Meaning.{Denotes, Wrote}
use Rattle.program_parser.specs.Reading.{success, answered, form_of, Good, Ready, ReadExpression, Reading}
use Rattle.program_parser.proofs.Codes.{kind-back, decoded-back}
use Rattle.program_operations.specs.Parts.{applied, applied_to, Continues}
use Rattle.program_operations.proofs.Readings.{good-earlier, after-right, at_right, ready_at, failed}
use Rattle.program_operations.proofs.Suffixes.{suffix-read, suffixed-ok}
use Rattle.program_operations.proofs.Primaries.{fits}
use Rattle.program_operations.proofs.Matching.{token-of}
use Rattle.program_operations.proofs.Operators.{plain-tree, both-tree, either-tree, both-other, either-other, both-wrote, either-wrote, tier-begun, and-tier, or-tier}
use Rattle.program_operations.proofs.Tiers.{more_no}

both-size : (a b : Expression) → size (both a b) ≡ size a + size b + 5
unfolding size
both-size a b = refl

either-size : (a b : Expression) → size (either a b) ≡ size a + size b + 5
unfolding size
either-size a b = refl

both-answer : (edition n : ℕ) (a b : Expression) (v : Token)
    → answered (coded v) (n + size a + 1 + size b + 4) 0 ≡ success v (n + size (both a b)) (form_of edition (both a b))
unfolding size form_of
both-answer edition n a b v =
    let e : n + size a + 1 + size b + 4 ≡ n + (size a + size b + 5) = omega arith in
    ap (λ (i : ℕ). answered (coded v) i 0) e

either-answer : (edition n : ℕ) (a b : Expression) (v : Token)
    → answered (coded v) (n + size a + 3 + size b + 2) 0 ≡ success v (n + size (either a b))
    (form_of edition (either a b))
unfolding size form_of
either-answer edition n a b v =
    let e : n + size a + 3 + size b + 2 ≡ n + (size a + size b + 5) = omega arith in
    ap (λ (i : ℕ). answered (coded v) i 0) e

pub between-few : (kind : ℕ) → between kind ≤ 3
between-few kind = go (eqb kind 61) (eqb kind 60)
  where
    go : (x y : Bool) → cond x 1 (cond y 3 0) ≤ 3
    go true y = omega arith
    go false true = omega arith
    go false false = omega arith

pub depth-few : (kind d : ℕ) → right_depth kind d ≤ d + 1
depth-few kind d = go (eqb kind 61 || eqb kind 60)
  where
    go : (x : Bool) → cond x d (d + 1) ≤ d + 1
    go true = omega arith
    go false = omega arith

pub code-small : (o : Operation) → opcode o < 256
code-small o = omega (arith, code_below 1 (opcode o) (opcode-row o), count-few 1)

module _ (edition : ℕ) (s : List ℕ) where
  -- ---- an operator with both its operands

  module _ (t : Token) (n d : ℕ) (ws : List ℕ) (a : Expression) (u : Token) (r : Read) (xs : List ℕ)
      (h : ReadExpression edition s t n d ws a u r xs)
      (deep : d ≤ 60000) (first : Coded) (m k : ℕ) (r2 q : Read) (ys zs : List ℕ)
      (from : Good edition s u.start (decoded first)) where
    kind : r.token.kind ≡ rank u.kind
    kind = ap (λ (y : Read). y.token.kind) h.answer

    count : r.count ≡ n + size a
    count = ap (λ (y : Read). y.count) h.answer

    joined-plain : eqb r.token.kind 61 ≡ false → eqb r.token.kind 60 ≡ false → m ≡ r.count + 0 → k ≡ d + 1
        → (R : Result Expression) → Reading edition s (decoded first) m k xs R r2 ys → r2.outcome ≡ 0
        → q ≡ answered r2.token (r2.count + 1) 0
        → zs ≡ sets ys r2.count (word (operator_code (kind_of r.token.kind)) (d + 2) 0 ∷ [])
        → Reading edition s t n d ws (map (tree_of u.kind a) R) q zs
    unfolding opcode Denotes rank
    joined-plain f1 f2 em ed R w z eq ez =
        let c = action_of u.kind in
        let no_or : same u.kind or_or ≡ false = ap (λ (i : ℕ). eqb i 60) (sym kind) ∙ f2 in
        let no_and : same u.kind and_and ≡ false = ap (λ (i : ℕ). eqb i 61) (sym kind) ∙ f1 in
        let back : kind_of r.token.kind ≡ u.kind = ap kind_of kind ∙ kind-back u.kind in
        let at : m ≡ n + size a = omega (arith, em, count) in
        suffix-read edition s t (decoded first) n d (n + size a) (d + 1) ws xs ys zs (compile a n d) (action c)
        (d + 2) 0 nothing 0 (tree_of u.kind a)
        (record {
          sized = λ b. omega (arith, (plain-tree edition a b u.kind no_or no_and).sized);
          code = λ b. (plain-tree edition a b u.kind no_or no_and).code n d;
          formed = λ b. (plain-tree edition a b u.kind no_or no_and).formed;
          other = λ b. (plain-tree edition a b u.kind no_or no_and).other;
        })
        h.wrote (omega (arith, size-length a n d)) (omega (arith, h.good.after, from.after, from.ordered))
        (omega (arith, h.bound, from.after))
        (fits (action_code c) (d + 2) 0 (code-small (action c)) (omega (arith, deep)) (omega arith)) refl R r2 q
        (subst (λ (i : ℕ). Reading edition s (decoded first) i (d + 1) xs R r2 ys) at
        (subst (λ (i : ℕ). Reading edition s (decoded first) m i xs R r2 ys) ed w))
        (suffixed-ok edition s r2 q (action_code c) (d + 2) 0 0 ys zs z eq
        (ez ∙ ap (λ (y : Kind). sets ys r2.count (word (operator_code y) (d + 2) 0 ∷ [])) back))

    -- what follows `&&` and `||` is after it
    module _ (after : u.stop ≤ first.start) (begun : u.start < u.stop) (small : r2.count < 1000000)
        (b : Expression) (v : Token)
        (w : ReadExpression edition s (decoded first) m k xs b v r2 ys) (ed : k ≡ d) where
      count2 : r2.count ≡ m + size b
      count2 = ap (λ (y : Read). y.count) w.answer

      token2 : r2.token ≡ coded v
      token2 = ap (λ (y : Read). y.token) w.answer

      wrote2 : (i : ℕ) → m ≡ i → Wrote edition s xs i (compile b i d) ys
      wrote2 i e =
          subst (λ (j : ℕ). Wrote edition s xs j (compile b j d) ys) e
          (subst (λ (j : ℕ). Wrote edition s xs m (compile b m j) ys) ed w.wrote)

      good2 : Good edition s t.stop v
      good2 =
          good-earlier edition s t.stop first.stop v (omega
          (arith, h.good.after, h.good.ordered, after, from.ordered)) w.good

      joined-both : eqb r.token.kind 61 ≡ true → m ≡ r.count + 1 → q ≡ answered r2.token (r2.count + 4) 0
          → zs ≡ sets (sets ys r2.count (both_words r2.count d)) r.count (word 28 (d + 1) (r2.count + 3) ∷ [])
          → ReadExpression edition s t n d ws (tree_of u.kind a b) v q zs
      unfolding rank
      joined-both f em eq ez =
          let c2 : r2.count ≡ n + size a + 1 + size b = omega (arith, count2, em, count) in
          let w2 = subst (λ (i : ℕ). zs ≡ sets (sets ys (n + size a + 1 + size b)
          (both_words (n + size a + 1 + size b) d)) i (word 28 (d + 1) (n + size a + 1 + size b + 3) ∷ [])) count
          (subst (λ (i : ℕ). zs ≡ sets (sets ys i (both_words i d)) r.count (word 28 (d + 1) (i + 3) ∷ [])) c2 ez) in
          rw (both-tree u.kind a b (same-is u.kind and_and (ap (λ (i : ℕ). eqb i 61) (sym kind) ∙ f)))
          (both_read (eq ∙ (ap (λ (y : Coded). answered y (r2.count + 4) 0) token2
          ∙ ap (λ (i : ℕ). answered (coded v) (i + 4) 0) c2))
          (omega (arith, h.bound, begun, after, w.bound))
          (both-wrote edition s a b n d ws xs ys zs deep h.wrote
          (wrote2 (n + size a + 1) (omega (arith, em, count))) (omega (arith, small, c2)) w2))
        where
          both_read : q ≡ answered (coded v) (n + size a + 1 + size b + 4) 0
              → size a + size b + 5 + 8 * t.start < 8 * v.start
              → Wrote edition s ws n (compile (both a b) n d) zs → ReadExpression edition s t n d ws (both a b) v q zs
          both_read x y o =
              record {
                answer = x ∙ both-answer edition n a b v;
                good = good2;
                bound = subst (λ (i : ℕ). i + 8 * t.start < 8 * v.start) (sym (both-size a b)) y;
                wrote = o;
                named = λ i j. absurd (both-other edition a b i j);
              }

      joined-either : eqb r.token.kind 60 ≡ true → m ≡ r.count + 3 → q ≡ answered r2.token (r2.count + 2) 0
          → zs ≡ sets (sets ys r2.count (not_words d)) r.count (either_words r.count d (r2.count + 2))
          → ReadExpression edition s t n d ws (tree_of u.kind a b) v q zs
      unfolding rank
      joined-either f em eq ez =
          let c2 : r2.count ≡ n + size a + 3 + size b = omega (arith, count2, em, count) in
          let w2 = subst (λ (i : ℕ). zs ≡ sets (sets ys (n + size a + 3 + size b) (not_words d)) i
          (either_words i d (n + size a + 3 + size b + 2))) count
          (subst (λ (i : ℕ). zs ≡ sets (sets ys i (not_words d)) r.count (either_words r.count d (i + 2))) c2 ez) in
          rw (either-tree u.kind a b (same-is u.kind or_or (ap (λ (i : ℕ). eqb i 60) (sym kind) ∙ f)))
          (either-read (eq ∙ (ap (λ (y : Coded). answered y (r2.count + 2) 0) token2
          ∙ ap (λ (i : ℕ). answered (coded v) (i + 2) 0) c2))
          (omega (arith, h.bound, begun, after, w.bound))
          (either-wrote edition s a b n d ws xs ys zs deep h.wrote
          (wrote2 (n + size a + 3) (omega (arith, em, count))) (omega (arith, small, c2)) w2))
        where
          either-read : q ≡ answered (coded v) (n + size a + 3 + size b + 2) 0
              → size a + size b + 5 + 8 * t.start < 8 * v.start
              → Wrote edition s ws n (compile (either a b) n d) zs
              → ReadExpression edition s t n d ws (either a b) v q zs
          either-read x y o =
              record {
                answer = x ∙ either-answer edition n a b v;
                good = good2;
                bound = subst (λ (i : ℕ). i + 8 * t.start < 8 * v.start) (sym (either-size a b)) y;
                wrote = o;
                named = λ i j. absurd (either-other edition a b i j);
              }

    -- all three
    pub joined : ((eqb r.token.kind 61 || eqb r.token.kind 60) ≡ true → u.stop ≤ first.start)
        → u.start < u.stop
        → r2.count < 1000000 → m ≡ r.count + between r.token.kind → k ≡ right_depth r.token.kind d
        → (R : Result Expression)
        → Reading edition s (decoded first) m k xs R r2 ys → r2.outcome ≡ 0 → q ≡ applied r2 r.token.kind
        → zs ≡ applied_to ys r2.count r.token.kind d r.count
        → Reading edition s t n d ws (map (tree_of u.kind a) R) q zs
    unfolding Reading
    joined after begun small em ed (no o p) w z eq ez = absurd (w.1 (sym (ap (λ (y : Read). y.outcome) w.0) ∙ z))
    joined after begun small em ed (ok b v) w z eq ez = go (eqb r.token.kind 61) refl (eqb r.token.kind 60)
        refl after em ed eq ez
      where
        go : (x : Bool) → eqb r.token.kind 61 ≡ x → (y : Bool) → eqb r.token.kind 60 ≡ y
            → ((x || y) ≡ true → u.stop ≤ first.start)
            → m ≡ r.count + cond x 1 (cond y 3 0) → k ≡ cond (x || y) d (d + 1)
            → q ≡ answered r2.token (r2.count + cond x 4 (cond y 2 1)) 0
            → zs ≡ cond x (sets (sets ys r2.count (both_words r2.count d)) r.count
            (word 28 (d + 1) (r2.count + 3) ∷ []))
            (cond y (sets (sets ys r2.count (not_words d)) r.count (either_words r.count d (r2.count + 2)))
            (sets ys r2.count (word (operator_code (kind_of r.token.kind)) (d + 2) 0 ∷ [])))
            → ReadExpression edition s t n d ws (tree_of u.kind a b) v q zs
        go true f y g l em' ed' eq' ez' = joined-both (l refl) begun small b v w ed' f em' eq' ez'
        go false f true g l em' ed' eq' ez' = joined-either (l refl) begun small b v w ed' g em' eq' ez'
        go false f false g l em' ed' eq' ez' = joined-plain f g em' ed' (ok b v) w z eq' ez'

  -- ---- the right operand

  module _ (printed : Bool) (k : ℕ) (nz : k ≡ 0 → ⊥) (r : Read) (ready : Ready edition s r.token r.count)
      (z : tier_of edition printed (kind_of r.token.kind) ≡ k) (first : Coded)
      (fe : first ≡ coded (right_of edition s k (decoded r.token))) where
    pub operator-begun : r.token.start < r.token.stop
    operator-begun = ready.good.longer (tier-begun edition printed (kind_of r.token.kind) k z nz)

    right-back : decoded first ≡ right_of edition s k (decoded r.token)
    right-back = decoded-back first (right_of edition s k (decoded r.token)) fe

    pub right-good : Good edition s r.token.start (decoded first)
    right-good = subst (λ (y : Token). Good edition s r.token.start y) (sym right-back)
        (go (eqb k concatenations) refl)
      where
        go : (b : Bool) → eqb k concatenations ≡ b → Good edition s r.token.start
            (right_of edition s k (decoded r.token))
        go true e =
            rw (at_right edition s k (decoded r.token) e)
            record {
              after = omega arith;
              ordered = ready.good.ordered;
              within = ready.good.within;
              longer = ready.good.longer;
              placed = ready.good.placed;
            }
        go false e =
            good-earlier edition s r.token.start r.token.stop _ ready.good.ordered
            (after-right edition s k (decoded r.token) ready.good e)

    -- after `&&` and `||` it is a later token
    pub right-later : (eqb r.token.kind 61 || eqb r.token.kind 60) ≡ true → r.token.stop ≤ first.start
    right-later e = go (eqb k concatenations) refl
      where
        no_join : (y : Bool) → eqb r.token.kind 61 ≡ y → k ≡ 4 → ⊥
        no_join true f j =
            omega (
              arith,
              j,
              z,
              sym (and-tier edition printed)
                  ∙ ap (λ (i : ℕ). tier_of edition printed (kind_of i)) (sym (eqb-true r.token.kind 61 f)),
            )
        no_join false f j =
            omega (
              arith,
              j,
              z,
              sym (or-tier edition printed)
                  ∙ ap (λ (i : ℕ). tier_of edition printed (kind_of i)) (sym (eqb-true r.token.kind 60 (rw f at e))),
            )

        go : (b : Bool) → eqb k concatenations ≡ b → r.token.stop ≤ first.start
        go true f = absurd (no_join (eqb r.token.kind 61) refl (eqb-true k 4 f))
        go false f =
            let g = after-right edition s k (decoded r.token) ready.good f in
            let a : first.start ≡ (right_of edition s k (decoded r.token)).start = ap (λ (y : Coded). y.start) fe in
            omega (arith, g.after, a)

    pub right-ready : (m : ℕ) → m ≡ r.count + between r.token.kind → Ready edition s first m
    right-ready m em =
        ready_at edition s r.token.start first (right_of edition s k (decoded r.token)) m ready.small fe
        (subst (λ (y : Token). Good edition s r.token.start y) right-back right-good)
        (subst (λ (y : Token). m ≤ 8 * y.start) right-back
        (go (eqb r.token.kind 61) (eqb r.token.kind 60) em right-later))
      where
        go : (x y : Bool) → m ≡ r.count + cond x 1 (cond y 3 0) → ((x || y) ≡ true → r.token.stop ≤ first.start)
            → m ≤ 8 * first.start
        go true y e l = omega (arith, e, l refl, operator-begun, ready.count)
        go false true e l = omega (arith, e, l refl, operator-begun, ready.count)
        go false false e l = omega (arith, e, right-good.after, ready.count)

    -- after it the operator's own instructions fit, and what follows is nearer to the text's end
    module _ (m d : ℕ) (xs : List ℕ) (em : m ≡ r.count + between r.token.kind) (R : Result Expression)
        (r2 : Read) (ys : List ℕ)
        (w : Reading edition s (decoded first) m d xs R r2 ys) (ok2 : r2.outcome ≡ 0) (q : Read)
        (eq : q ≡ applied r2 r.token.kind) where
      pub next-ready : Ready edition s q.token q.count
      unfolding Reading
      next-ready = go R w
        where
          more-count : (x y : Bool) (b : ℕ) (v : Token) → m ≡ r.count + cond x 1 (cond y 3 0)
              → ((x || y) ≡ true → r.token.stop ≤ first.start)
              → b + 8 * first.start < 8 * v.start → q.count ≡ m + b + cond x 4 (cond y 2 1) → q.count ≤ 8 * v.start
          more-count true y b v e l f c = omega (arith, e, l refl, f, c, operator-begun, ready.count)
          more-count false true b v e l f c = omega (arith, e, l refl, f, c, operator-begun, ready.count)
          more-count false false b v e l f c = omega (arith, e, f, c, right-good.after, ready.count)

          go : (X : Result Expression) → Reading edition s (decoded first) m d xs X r2 ys
              → Ready edition s q.token q.count
          go (no o p) g = absurd (g.1 (sym (ap (λ (y : Read). y.outcome) g.0) ∙ ok2))
          go (ok b v) g =
              let c : r2.count ≡ m + size b = ap (λ (y : Read). y.count) g.answer in
              let c2 : q.count ≡ r2.count + cond (eqb r.token.kind 61) 4 (cond (eqb r.token.kind 60) 2 1) =
              ap (λ (y : Read). y.count) eq in
              ready_at edition s first.stop q.token v q.count ready.small
              (ap (λ (y : Read). y.token) eq ∙ ap (λ (y : Read). y.token) g.answer) g.good
              (more-count (eqb r.token.kind 61) (eqb r.token.kind 60) (size b) v em right-later g.bound
              (c2 ∙ ap (λ (i : ℕ). i + cond (eqb r.token.kind 61) 4 (cond (eqb r.token.kind 60) 2 1)) c))

      pub next-further : r.token.start < q.token.start
      unfolding Reading
      next-further = go R w
        where
          go : (X : Result Expression) → Reading edition s (decoded first) m d xs X r2 ys
              → r.token.start < q.token.start
          go (no o p) g = absurd (g.1 (sym (ap (λ (y : Read). y.outcome) g.0) ∙ ok2))
          go (ok b v) g =
              let a : q.token.start ≡ v.start = ap (λ (y : Read). y.token.start) eq
              ∙ ap (λ (y : Read). y.token.start) g.answer in
              omega (arith, a, g.bound, right-good.after)

-- ---- the loop

module _ (edition : ℕ) (s : List ℕ) (printed : Bool) (k : ℕ) (below : Token → Result Expression) where
  -- an expression is read, and what follows it gives the whole, with enough turns left
  pub record Turn (t : Token) (n d : ℕ) (ws : List ℕ) (R : Result Expression) (r : Read) (ys : List ℕ) : Type 0 where
    pub tree : Expression
    pub next : Token
    pub left : ℕ
    pub read : ReadExpression edition s t n d ws tree next r ys
    pub same-result : more edition s printed k below left (ok tree next) ≡ R
    pub single : k ≡ 5 → left ≡ 1
    pub enough : (k ≡ 5 → ⊥) → length s ≤ left + next.start

  more-stop : (n : ℕ) (e : Expression) (u : Token) → (tier_of edition printed u.kind ≡ k → ⊥)
      → more edition s printed k below n (ok e u) ≡ ok e u
  unfolding more
  more-stop zero e u h = refl
  more-stop (suc n) e u h = rw (ne_eqb (tier_of edition printed u.kind) k h)

  more_turn : (n : ℕ) (e : Expression) (u : Token) → 0 < n → tier_of edition printed u.kind ≡ k
      → more edition s printed k below n (ok e u)
      ≡ more edition s printed k below (n - 1) (map (tree_of u.kind e) (below (right_of edition s k u)))
  unfolding more
  more_turn zero e u l h = absurd (omega (arith, l))
  more_turn (suc n) e u l h = let m : suc n - 1 ≡ n = omega arith in
      rw (eq-eqb (tier_of edition printed u.kind) k h, m)

  more-done : (n : ℕ) (R : Result Expression) → n ≡ 0 → more edition s printed k below n R ≡ R
  unfolding more
  more-done n R e = rw e

  module _ (t : Token) (n d : ℕ) (ws : List ℕ) where
    pub turn-first : (e : Expression) (u : Token) (r : Read) (xs : List ℕ) → ReadExpression edition s t n d ws e u r xs
        → Turn t n d ws (more edition s printed k below (turns s k) (ok e u)) r xs
    turn-first e u r xs h =
        record {
          tree = e;
          next = u;
          left = turns s k;
          read = h;
          same-result = refl;
          single = λ f. rw (eq-eqb k 5 f);
          enough = λ f. rw (ne_eqb k 5 f) (omega arith);
        }

    module _ (R : Result Expression) (r : Read) (xs : List ℕ) (h : Turn t n d ws R r xs) where
      kind-next : kind_of r.token.kind ≡ h.next.kind
      kind-next = ap (λ (y : Read). kind_of y.token.kind) h.read.answer ∙ kind-back h.next.kind

      token-next : decoded r.token ≡ h.next
      token-next = decoded-back r.token h.next (token-of edition s t n d ws h.tree h.next r xs h.read)

      pub turn-stop : (tier_of edition printed (kind_of r.token.kind) ≡ k → ⊥) → Reading edition s t n d ws R r xs
      unfolding Reading
      turn-stop z =
          rw (
            ← h.same-result,
            more-stop h.left h.tree h.next
                (λ y. z (ap (tier_of edition printed) kind-next ∙ y)),
          ) h.read

      module _ (nz : k ≡ 0 → ⊥) (ready : Ready edition s r.token r.count)
          (z : tier_of edition printed (kind_of r.token.kind) ≡ k)
          (first : Coded) (fe : first ≡ coded (right_of edition s k (decoded r.token))) (m i : ℕ) (r2 : Read)
          (ys : List ℕ)
          (w : Reading edition s (decoded first) m i xs (below (decoded first)) r2 ys) where
        starts : r.token.start ≡ h.next.start
        starts = ap (λ (y : Token). y.start) token-next

        stops : r.token.stop ≡ h.next.stop
        stops = ap (λ (y : Token). y.stop) token-next

        some_left : 0 < h.left
        some_left = go (eqb k 5) refl
          where
            go : (b : Bool) → eqb k 5 ≡ b → 0 < h.left
            go true e = omega (arith, h.single (eqb-true k 5 e))
            go false e =
                omega (
                  arith,
                  h.enough (eqb-false k 5 e),
                  operator-begun edition s printed k nz r ready z first fe,
                  starts,
                  stops,
                  h.read.good.within,
                )

        turned : R ≡ more edition s printed k below (h.left - 1)
            (map (tree_of h.next.kind h.tree) (below (decoded first)))
        turned =
            sym h.same-result
            ∙ (more_turn h.left h.tree h.next some_left (ap (tier_of edition printed) (sym kind-next) ∙ z)
            ∙ ap (λ (y : Token). more edition s printed k below (h.left - 1)
            (map (tree_of h.next.kind h.tree) (below y)))
            (ap (right_of edition s k) (sym token-next) ∙ sym (decoded-back first
            (right_of edition s k (decoded r.token)) fe)))

        pub turn-failed : (r2.outcome ≡ 0 → ⊥) → Reading edition s t n d ws R r2 ys
        turn-failed f =
            rw turned
            (failed edition s t n d ws
            (λ (y : Result Expression). more edition s printed k below (h.left - 1)
            (map (tree_of h.next.kind h.tree) y))
            (λ o p. more_no edition s printed k below (h.left - 1) o p) (decoded first) m i xs
            (below (decoded first)) r2 ys w f ys)

        module _ (deep : d ≤ 60000) (em : m ≡ r.count + between r.token.kind)
            (ed : i ≡ right_depth r.token.kind d) (ok2 : r2.outcome ≡ 0)
            (small : r2.count < 1000000) (q : Read) (zs : List ℕ) (eq : q ≡ applied r2 r.token.kind)
            (ez : zs ≡ applied_to ys r2.count r.token.kind d r.count) where
          joined-next : Reading edition s t n d ws (map (tree_of h.next.kind h.tree) (below (decoded first))) q zs
          joined-next =
              joined edition s t n d ws h.tree h.next r xs h.read deep first m i r2 q ys zs
              (subst (λ (y : ℕ). Good edition s y (decoded first)) starts
              (right-good edition s printed k nz r ready z first fe))
              (λ e. omega (arith, right-later edition s printed k nz r ready z first fe e, stops))
              (omega (arith, operator-begun edition s printed k nz r ready z first fe, starts, stops)) small em ed
              (below (decoded first)) w ok2 eq ez

          pub turn-single : k ≡ 5 → Reading edition s t n d ws R q zs
          turn-single e =
              rw (
                turned,
                more-done (h.left - 1) (map (tree_of h.next.kind h.tree) (below (decoded first)))
                    (omega (arith, h.single e)),
              ) joined-next

          pub turn-again : (k ≡ 5 → ⊥) → Turn t n d ws R q zs
          unfolding Reading
          turn-again f = go (map (tree_of h.next.kind h.tree) (below (decoded first))) refl joined-next
            where
              answered-ok : q.outcome ≡ 0
              answered-ok = ap (λ (y : Read). y.outcome) eq

              go : (X : Result Expression) → map (tree_of h.next.kind h.tree) (below (decoded first)) ≡ X
                  → Reading edition s t n d ws X q zs → Turn t n d ws R q zs
              go (no o p) e g = absurd (g.1 (sym (ap (λ (y : Read). y.outcome) g.0) ∙ answered-ok))
              go (ok b v) e g =
                  let a : q.token.start ≡ v.start = ap (λ (y : Read). y.token.start) g.answer in
                  record {
                    tree = b;
                    next = v;
                    left = h.left - 1;
                    read = g;
                    same-result = ap (more edition s printed k below (h.left - 1)) (sym e) ∙ sym turned;
                    single = λ y. absurd (f y);
                    enough = λ y. omega (
                      arith,
                      h.enough y,
                      some_left,
                      a,
                      starts,
                      next-further edition s printed k nz
                          r ready z first fe m i xs em (below (decoded first)) r2 ys w ok2 q eq,
                    );
                  }

-- ---- the same, from what was read before the loop: its answer is r₀, and its section xs₀

module _ (edition : ℕ) (s : List ℕ) (printed : Bool) (k : ℕ) (below : Token → Result Expression) (d : ℕ) (r₀ : Read)
    (xs₀ : List ℕ) where
  unfoldable pub Turning : Read → List ℕ → Type 0
  Turning r xs =
      (t : Token) (n : ℕ) (ws : List ℕ) (e : Expression) (u : Token) → ReadExpression edition s t n d ws e u r₀ xs₀
      → Turn edition s printed k below t n d ws (more edition s printed k below (turns s k) (ok e u)) r xs

  abbrev Whole : Read → List ℕ → Type 0
  Whole q ys = Continues edition s d (more edition s printed k below (turns s k)) r₀ xs₀ q ys

  pub turning-stop : (r : Read) (xs : List ℕ) → Turning r xs → (tier_of edition printed (kind_of r.token.kind) ≡ k
      → ⊥) → Whole r xs
  unfolding Turning Continues
  turning-stop r xs h z t n ws e u w = turn-stop edition s printed k below t n d ws _ r xs (h t n ws e u w) z

  module _ (r : Read) (xs : List ℕ) (h : Turning r xs) (nz : k ≡ 0 → ⊥) (ready : Ready edition s r.token r.count)
      (z : tier_of edition printed (kind_of r.token.kind) ≡ k) (first : Coded)
      (fe : first ≡ coded (right_of edition s k (decoded r.token)))
      (m i : ℕ) (r2 : Read) (ys : List ℕ) (w : Reading edition s (decoded first) m i xs (below (decoded first)) r2 ys)
    where
      pub turning-failed : (r2.outcome ≡ 0 → ⊥) → Whole r2 ys
      unfolding Turning Continues
      turning-failed f t n ws e u v =
          turn-failed edition s printed k below t n d ws _ r xs (h t n ws e u v) nz ready z first fe m i r2 ys w f

      module _ (deep : d ≤ 60000) (em : m ≡ r.count + between r.token.kind)
          (ed : i ≡ right_depth r.token.kind d) (ok2 : r2.outcome ≡ 0)
          (small : r2.count < 1000000) (q : Read) (zs : List ℕ) (eq : q ≡ applied r2 r.token.kind)
          (ez : zs ≡ applied_to ys r2.count r.token.kind d r.count) where
        pub turning-single : k ≡ 5 → Whole q zs
        unfolding Turning Continues
        turning-single f t n ws e u v =
            turn-single edition s printed k below t n d ws _ r xs (h t n ws e u v) nz ready z first fe m i r2 ys w deep
            em ed ok2 small q zs eq ez f

        pub turning-again : (k ≡ 5 → ⊥) → Turning q zs
        unfolding Turning
        turning-again f t n ws e u v =
            turn-again edition s printed k below t n d ws _ r xs (h t n ws e u v) nz ready z first fe m i r2 ys w deep
            em ed ok2 small q zs eq ez f

pub turning-first : (edition : ℕ) (s : List ℕ) (printed : Bool) (k : ℕ) (below : Token → Result Expression) (d : ℕ)
    (r : Read) (xs : List ℕ)
    → Turning edition s printed k below d r xs r xs
unfolding Turning
turning-first edition s printed k below d r xs t n ws e u w = turn-first edition s printed k below t n d ws e u r xs w
