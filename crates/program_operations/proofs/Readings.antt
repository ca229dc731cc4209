-- Readings: refusals, what a reader asks of the tokens that it reads from, and what follows a reading.
use mathlib.Core.Path.{◌≡◌, sym, ap, subst, ◌∙◌}
use mathlib.Core.Bool.{Bool, true, false, cond}
use mathlib.Core.List.{List, [], ◌∷◌}
use Prim.Native.Nat.{ℕ, ◌+◌, ◌*◌, ◌≤◌, ◌<◌}
use native.Mathlib.Omega.{arith}
use lib.ListN.{length}
use lib.Dec.{eqb, leb}
use borrow.Author.Tests.{ne_eqb}
use Rattle.edition.specs.Limits.{filter_text}
use Rattle.edition.specs.Outcomes.{bad_token, misplaced_token, bad_ere, size_passed}
use Rattle.program_tokens.specs.Kinds.{newline, bad, bad-ere, close_paren, rank}
use Rattle.program_tokens.specs.Tokens.{Token, is, token_after}
use Rattle.program_tree.specs.Tree.{Expression}
use Rattle.program_reader.specs.Read.{Read as Result, ok, no, refuse, too_deep, operand_after, past_newlines}
use Rattle.program_reader.specs.Operators.{concatenations, conjunctions}
use Rattle.program_reader.specs.Expressions.{right_of}
use Rattle.program_code.specs.Expressions.{size}
use Rattle.program_lexer.specs.Coded.{coded, decoded, kind_count}
use Rattle.program_lexer.specs.declared.tokens.Token.{Token as Coded}
use Rattle.program_parser.specs.declared.read.Read.{Read}
use Rattle.program_parser.specs.Reading.{success, answered, refusal, refused_by, closed_of, Good, Ready, Reading}
use Rattle.program_parser.proofs.Tokens.{choose, good-after, good-operand, good-past}
use Rattle.program_parser.proofs.Codes.{kind-below, kind-back, decoded-back}
use Rattle.program_operations.specs.Parts.{Continues, ContinuesFrom}

-- an answer, by what its parts are
pub answered-as : (q : Read) (y : Coded) (w : Token) (m i form : ℕ) → q ≡ answered y m form → y ≡ coded w → m ≡ i
    → q ≡ success w i form
answered-as q y w m i form e f g =
    e ∙ (ap (λ (x : Coded). answered x m form) f ∙ ap (λ (j : ℕ). answered (coded w) j form) g)

module _ (edition : ℕ) (s : List ℕ) where
  -- ---- tokens

  pub good-earlier : (p q : ℕ) (t : Token) → p ≤ q → Good edition s q t → Good edition s p t
  good-earlier p q t h g =
      record {
        after = omega (arith, g.after);
        ordered = g.ordered;
        within = g.within;
        longer = g.longer;
        placed = g.placed;
      }

  pub after-operand : (t : Token) → Good edition s 0 t → Good edition s t.stop (operand_after edition s t)
  after-operand t g = good-operand edition s t.stop (token_after edition s t) (good-after edition s 0 t g)

  pub after_line : (t : Token) → Good edition s 0 t
      → Good edition s t.stop (past_newlines edition s (token_after edition s t))
  after_line t g =
      good-operand edition s t.stop _
      (good-past edition s t.stop (newline ∷ []) (length s) (token_after edition s t) (good-after edition s 0 t g))

  pub after-right : (k : ℕ) (t : Token) → Good edition s 0 t → (eqb k concatenations ≡ false)
      → Good edition s t.stop (right_of edition s k t)
  unfolding right_of
  after-right k t g e =
      rw e
      (choose (Good edition s t.stop) (leb conjunctions k) (past_newlines edition s (token_after edition s t))
      (operand_after edition s t) (λ h. after_line t g) (λ h. after-operand t g))

  pub at_right : (k : ℕ) (t : Token) → eqb k concatenations ≡ true → right_of edition s k t ≡ t
  unfolding right_of
  at_right k t e = rw e

  -- ---- what a reader asks

  pub token-ready : (t v : Coded) → Good edition s 0 (decoded t) → v ≡ coded (token_after edition s (decoded t))
      → (Good edition s 0 (decoded v)) × (v.kind < kind_count)
  token-ready t v g e =
      let f = good-after edition s 0 (decoded t) g in
      let back : decoded v ≡ token_after edition s (decoded t) = decoded-back v (token_after edition s (decoded t)) e in
      let kind : v.kind ≡ rank (token_after edition s (decoded t)).kind = ap (λ (x : Coded). x.kind) e in (
        subst (λ (x : Token). Good edition s 0 x) (sym back) (good-earlier 0 t.stop
            (token_after edition s (decoded t)) (omega arith) f),
        omega (arith, kind, kind-below (token_after edition s (decoded t)).kind),
      )

  pub ready_at : (p : ℕ) (v : Coded) (w : Token) (m : ℕ) → length s ≤ filter_text → v ≡ coded w → Good edition s p w
      → m ≤ 8 * w.start → Ready edition s v m
  ready_at p v w m small e g h =
      let back : decoded v ≡ w = decoded-back v w e in
      let starts : v.start ≡ w.start = ap (λ (x : Coded). x.start) e in
      let kind : v.kind ≡ rank w.kind = ap (λ (x : Coded). x.kind) e in
      record {
        good = subst (λ (x : Token). Good edition s 0 x) (sym back) (good-earlier 0 p w (omega arith) g);
        known = omega (arith, kind, kind-below w.kind);
        small = small;
        count = omega (arith, starts);
      }

  pub ready-fewer : (t : Coded) (n m : ℕ) → m ≤ n → Ready edition s t n → Ready edition s t m
  ready-fewer t n m l h = record { good = h.good; known = h.known; small = h.small; count = omega (arith, h.count) }

  module _ (t : Coded) (n : ℕ) (h : Ready edition s t n) (v : Coded) where
    pub ready-next : v ≡ coded (token_after edition s (decoded t)) → Ready edition s v n
    ready-next e =
        let g = good-after edition s 0 (decoded t) h.good in
        ready_at t.stop v (token_after edition s (decoded t)) n h.small e g
        (omega (arith, g.after, h.count, h.good.ordered))

    pub ready-operand : v ≡ coded (operand_after edition s (decoded t)) → Ready edition s v n
    ready-operand e =
        let g = after-operand (decoded t) h.good in
        ready_at t.stop v (operand_after edition s (decoded t)) n h.small e g
        (omega (arith, g.after, h.count, h.good.ordered))

  -- ---- refusals

  module _ (t : Token) (n d : ℕ) (xs : List ℕ) (R : Result Expression) (r : Read) (ys : List ℕ) where
    pub refused : (o p : ℕ) → R ≡ no o p → r ≡ refusal o p → (o ≡ 0 → ⊥) → Reading edition s t n d xs R r ys
    unfolding Reading
    refused o p e h z = rw e (h, z)

    pub refused-token : (u : Token) → R ≡ refuse u → r ≡ refusal (refused_by u) u.start
        → Reading edition s t n d xs R r ys
    refused-token u e h = refused (refused_by u) u.start e h (go (is bad u) (is bad-ere u))
      where
        go : (a b : Bool) → ◌≡◌ {A = ℕ} (cond a bad_token (cond b bad_ere misplaced_token)) 0 → ⊥
        go true b z = omega arith
        go false true z = omega arith
        go false false z = omega arith

    pub refused-level : (u : Token) → R ≡ too_deep u → r ≡ refusal size_passed u.start
        → Reading edition s t n d xs R r ys
    refused-level u e h = refused size_passed u.start e h (λ z. omega arith)

  -- ---- what follows a reading

  module _ (t : Token) (n d : ℕ) (xs : List ℕ) where
    -- a reading that failed is a refusal, whatever would have been read after it
    pub failed : (f : Result Expression → Result Expression) → ((o p : ℕ) → f (no o p) ≡ no o p)
        → (v : Token) (m k : ℕ) (ws : List ℕ) (R : Result Expression) (r : Read) (ys : List ℕ)
        → Reading edition s v m k ws R r ys
        → (r.outcome ≡ 0 → ⊥) → (zs : List ℕ) → Reading edition s t n d xs (f R) r zs
    unfolding Reading
    failed f F v m k ws (ok e u) r ys h z zs = absurd (z (ap (λ (x : Read). x.outcome) h.answer))
    failed f F v m k ws (no o p) r ys h z zs = rw (F o p) h

    pub continued : (f : Result Expression → Result Expression) (R : Result Expression) (r q : Read) (ys zs : List ℕ)
        → Reading edition s t n d xs R r ys → r.outcome ≡ 0 → Continues edition s d f r ys q zs
        → Reading edition s t n d xs (f R) q zs
    unfolding Reading Continues
    continued f (ok e u) r q ys zs h z c = c t n xs e u h
    continued f (no o p) r q ys zs h z c = absurd (h.1 (sym (ap (λ (x : Read). x.outcome) h.0) ∙ z))

    pub continued-from : (start : ℕ) (f : Result Expression → Result Expression) (R : Result Expression) (r q : Read)
        (ys zs : List ℕ)
        → t.start ≡ start → Reading edition s t n d xs R r ys → r.outcome ≡ 0
        → ContinuesFrom edition s start d f r ys q zs
        → Reading edition s t n d xs (f R) q zs
    unfolding Reading ContinuesFrom
    continued-from start f (ok e u) r q ys zs a h z c = c t n xs e u a h
    continued-from start f (no o p) r q ys zs a h z c = absurd (h.1 (sym (ap (λ (x : Read). x.outcome) h.0) ∙ z))

  module _ (t : Coded) (n d : ℕ) (xs : List ℕ) (h : Ready edition s t n) where
    -- what was read fits, also where it is a refusal
    pub reading-fits : (R : Result Expression) (r : Read) (ys : List ℕ) → Reading edition s (decoded t) n d xs R r ys
        → (r.count ≤ 65536) × (r.token.kind < kind_count)
    unfolding Reading
    reading-fits (ok e u) r ys g =
        let c : r.count ≡ n + size e = ap (λ (x : Read). x.count) g.answer in
        let k : r.token.kind ≡ rank u.kind = ap (λ (x : Read). x.token.kind) g.answer in (
          omega (arith, c, h.count, h.small, g.bound, g.good.ordered, g.good.within),
          omega (arith, k, kind-below u.kind),
        )
    reading-fits (no o p) r ys g =
        let c : r.count ≡ 0 = ap (λ (x : Read). x.count) g.0 in
        let k : r.token.kind ≡ 0 = ap (λ (x : Read). x.token.kind) g.0 in
        (omega (arith, c), omega (arith, k))

    -- where it is none, more can be read
    pub reading-ready : (R : Result Expression) (r : Read) (ys : List ℕ) → Reading edition s (decoded t) n d xs R r ys
        → r.outcome ≡ 0
        → Ready edition s r.token r.count
    unfolding Reading
    reading-ready (ok e u) r ys g z =
        let c : r.count ≡ n + size e = ap (λ (x : Read). x.count) g.answer in
        ready_at t.stop r.token u r.count h.small (ap (λ (x : Read). x.token) g.answer) g.good
        (omega (arith, c, h.count, g.bound))
    reading-ready (no o p) r ys g z = absurd (g.1 (sym (ap (λ (x : Read). x.outcome) g.0) ∙ z))

  -- ---- what a `)` has to follow

  pub closed_of_lem : (r : Read) (u : Token) (m form : ℕ) → r ≡ success u m form
      → closed_of edition s r ≡ cond (is close_paren u) (success (token_after edition s u) m 0)
      (refusal (refused_by u) u.start)
  closed_of_lem r u m form e = ap (closed_of edition s) e ∙ rw (kind-back u.kind)

  pub closed-refused : (r : Read) (o p : ℕ) → r ≡ refusal o p → (o ≡ 0 → ⊥) → closed_of edition s r ≡ refusal o p
  closed-refused r o p e z = ap (closed_of edition s) e ∙ rw (ne_eqb o 0 z)
