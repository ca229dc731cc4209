-- The reader of expressions, beside the machine: the operators of each tier, and levels.
use mathlib.Core.Path.{◌≡◌, refl, sym, ap, subst, ◌∙◌}
use mathlib.Core.Bool.{Bool, true, false, not, cond, ◌&&◌}
use mathlib.Core.List.{List, [], ◌∷◌}
use mathlib.Core.Option.{Option, some, none}
use mathlib.Core.Logic.{◌⊎◌, inl, inr, ⊎_elim}
use Prim.Native.Nat.{ℕ, zero, suc, ◌+◌, ◌≤◌, ◌<◌}
use native.Mathlib.Omega.{arith}
use lib.ListN.{length}
use lib.Dec.{eqb, leb}
use borrow.Author.Tests.{eqb-true, eqb-false, leb-true}
use Rattle.lists.proofs.Tests.{clash, and-true, and-false as and_none}
use Rattle.program_tokens.specs.Kinds.{Kind, text_end, newline, ERE, tilde, assign as assign-kind, no_match as no-match-kind, same, among, rank}
use Rattle.program_tokens.specs.Tokens.{Token, is, is_one_of, token_after, ere_in}
use Rattle.program_tokens.proofs.Ranks.{same-is}
use Rattle.program_tree.specs.Tree.{Expression, matches, no_match}
use Rattle.program_reader.specs.Read.{Read, ok, no, map, operand_after, past_newlines}
use Rattle.program_reader.specs.Operators.{expressions, Operator, binary, operator_in, tier_of, tree_in, tree_of}
use Rattle.program_reader.specs.Expressions.{Inner, assign_to, right_of, more, match_with, matching, assigned, assignment, prefix_form, step_tier, tier, inside}
use Rattle.program_parser.specs.Reading.{Good as InText}
use Rattle.program_exact.specs.Machine.{Mode, fresh, plain, against, tested, Context, State, operand, operand_line, ere_next, after, settle, is_fresh, is_tested, tier_after, printed, exit, operand_step, operator_step, other_step, after_step, step}
use Rattle.program_exact.proofs.Facts.{each, by-test, NotTested, Loose, settle-twice, settled, keep, keep-loose, loose-not, tier-quiet, after-tier, after-joined, after-compared, after-match, after-assign}
use Rattle.program_exact.proofs.Kept.{tiered}
use Rattle.program_exact.proofs.Walks.{Walk, walk-join, pass, pass-operand, after-in, operand-after-in, onward-after, onward-operand, at-end}
use Rattle.program_exact.proofs.Readings.{ere-operand, ere-line, ere-next-takes, after-ere, Reads, refused, too-deep, earlier, reads-map, lines_after}
use Rattle.program_exact.proofs.Operands.{is_some, assignable, Stops, tier-after-is, tier-range, Whole, Field, Tight, InnerReads, known, field-reads, prefix-reads}

-- ---- tiers as numbers

zero-after : (m : Mode) → tier_after m 0 ≡ 0
zero-after m = ⊎_elim (λ e. e) (λ e. e) (tier-after-is m 0)

against-not : (n : ℕ) → tier_after against n ≡ 5 → ⊥
unfolding tier_after
against-not n =
    by-test (λ x. x ≡ 5 → ⊥) (leb 8 n) n (cond (eqb n 5) 0 n) (λ e h. clash (sym e ∙ ap (leb 8) h))
    (λ e. by-test (λ x. x ≡ 5 → ⊥) (eqb n 5) 0 n (λ e h. absurd (omega arith)) (λ e h. clash (sym (ap (λ x. eqb x 5) h) ∙ e)))

tested-after : (n : ℕ) → (tier_after tested n ≡ 0) ⊎ (6 < tier_after tested n)
unfolding tier_after
tested-after n = by-test (λ x. (x ≡ 0) ⊎ (6 < x)) (leb 8 n) n 0 (λ e. inr (omega (arith, leb-true 8 n e))) (λ e. inl refl)

abbrev IsAgainst : Mode → Type 0
IsAgainst fresh = ⊥
IsAgainst plain = ⊥
IsAgainst against = Unit
IsAgainst tested = ⊥

settle-against : (m : Mode) → settle m ≡ against → m ≡ against
settle-against fresh e = absurd (subst IsAgainst (sym e) tt)
settle-against plain e = absurd (subst IsAgainst (sym e) tt)
settle-against against e = refl
settle-against tested e = absurd (subst IsAgainst (sym e) tt)

not-fresh : (m : Mode) (b : Bool) → (is_fresh (settle m) && b) ≡ false
not-fresh fresh b = refl
not-fresh plain b = refl
not-fresh against b = refl
not-fresh tested b = refl

module _ (edition : ℕ) where
  -- ---- what stops

  stops_end : (n : ℕ) (m : Mode) (c : Context) (k : Kind) → same k text_end ≡ true → Stops edition n m c k
  unfolding among rank
  stops_end n m c k e =
      inl (ap (λ k. tier_after m (tier_of edition (printed c) k)) (same-is k text_end e) ∙ (ap (tier_after m) (tier-quiet edition (printed c) text_end refl) ∙ zero-after m))

  stops-more : (n : ℕ) (m : Mode) (c : Context) (k : Kind) → (tier_of edition (printed c) k ≡ suc n → ⊥) → Stops edition n m c k → Stops edition (suc n) m c k
  stops-more n m c k h (inl e) = inl e
  stops-more n m c k h (inr l) =
      ⊎_elim (λ e. inl e) (λ e. inr (greater-than (tier_after m (tier_of edition (printed c) k)) (λ z. h (sym e ∙ z)) l)) (tier-after-is m (tier_of edition (printed c) k))
    where
      greater-than : (x : ℕ) → (x ≡ suc n → ⊥) → n < x → suc n < x
      greater-than x a b = omega (arith, a)

  never : (j : ℕ) (p : Bool) (k : Kind) → (j ≡ 6) ⊎ (j ≡ 7) → tier_of edition p k ≡ j → ⊥
  never j p k a e =
      ⊎_elim (λ z. ⊎_elim (λ b. omega (arith, z, b, e)) (λ b. omega (arith, z, b, e)) a)
      (λ z. ⊎_elim (λ b. z.2 (e ∙ b)) (λ b. z.3 (e ∙ b)) a) (tier-range p k (tier_of edition p k) (tiered edition p k))

  -- ---- trees of operators can't be assigned

  abbrev FreeTree : Option Operator → Type 0
  FreeTree o = (a b : Expression) → assignable edition (tree_in o a b) ≡ false

  abbrev AllFree : List Operator → Type 0
  AllFree [] = Unit
  AllFree (o ∷ l) = ((a b : Expression) → assignable edition (o.tree a b) ≡ false) × (AllFree l)

  all-free : AllFree binary
  unfolding assign_to
  all-free =
      let two : (a b : Expression) → false ≡ false = λ a b. refl in
      (two, (two, (two, (two, (two, (two, (two, (two, (two, (two, (two, (two, (two, tt)))))))))))))

  free_in : (k : Kind) (l : List Operator) → AllFree l → FreeTree (operator_in k l)
  unfolding operator_in assign_to
  free_in k [] h = λ a b. refl
  free_in k (o ∷ l) h = by-test FreeTree (same k o.kind) (some o) (operator_in k l) (λ e. h.0) (λ e. free_in k l h.1)

  tree_free : (k : Kind) (a b : Expression) → assignable edition (tree_of k a b) ≡ false
  unfolding tree_of
  tree_free k a b = free_in k binary all-free a b

  -- ---- after the whole expression

  after-whole : (m : Mode) (c : Context) (k : Kind) → tier_after m (tier_of edition (printed c) k) ≡ 0 → (among (tilde ∷ no-match-kind ∷ []) k ≡ true → is_tested m ≡ true)
      → (same k assign-kind ≡ true → is_fresh m ≡ false) → after_step edition m c k ≡ exit c k
  unfolding after_step other_step
  after-whole m c k e a b =
      rw e (by-test (λ x. x ≡ exit c k) (among (tilde ∷ no-match-kind ∷ []) k && not (is_tested m)) _ _
      (λ q. let both = and-true (among (tilde ∷ no-match-kind ∷ []) k) (not (is_tested m)) q in absurd (clash (sym both.1 ∙ ap not (a both.0))))
      (λ q. by-test (λ x. x ≡ exit c k) (same k assign-kind && is_fresh m) _ _
      (λ q. let both = and-true (same k assign-kind) (is_fresh m) q in absurd (clash (sym both.1 ∙ b both.0))) (λ q. refl)))

  module _ (s : List ℕ) where
    -- ---- what is said of an expression's tiers

    abbrev Compared : Context → Mode → Expression → Token → State → Type 0
    Compared c m e u y = (k : Mode) × (y ≡ after k c) × (is_fresh k ≡ (is_fresh m && assignable edition e)) × (NotTested k) × (Stops edition 5 k c u.kind)

    abbrev Loosely : ℕ → Context → Mode → Expression → Token → State → Type 0
    Loosely n c m e u y = (k : Mode) × (y ≡ after k c) × (is_fresh k ≡ (is_fresh m && assignable edition e))
        × (among (tilde ∷ no-match-kind ∷ []) u.kind ≡ true → is_tested k ≡ true) × (Stops edition n k c u.kind)

    abbrev FormReads : (Context → Mode → Expression → Token → State → Type 0) → (Mode → Type 0) → Bool → (Token → Read Expression) → Type 0
    FormReads Q M p f = (m : Mode) (c : Context) (x : State) (t : Token) → printed c ≡ p → M m → InText edition s 0 t
        → step edition x t.kind ≡ operand_step edition m c t.kind → Reads edition s (Q c m) x t (suc t.start) (f t)

    -- so many turns are enough
    abbrev pub Enough : {A : Type 0} → ℕ → Read A → Type 0
    Enough n (ok e t) = length s ≤ n + t.start
    Enough n (no outcome place) = Unit

    pub enough-map : {A B : Type 0} (Q : A → Token → State → Type 0) (f : A → B) (n : ℕ) (x : State) (t : Token) (r : Read A) → length s ≤ suc n + t.start
        → Reads edition s Q x t (suc t.start) r → Enough n (map f r)
    enough-map Q f n x t (ok a u) h g = omega (arith, g.onward)
    enough-map Q f n x t (no outcome place) h g = tt

    pub enough-all : {A : Type 0} (r : Read A) → Enough (length s) r
    enough-all (ok a t) = omega arith
    enough-all (no outcome place) = tt

    -- ---- products, sums, concatenations

    -- an operator of a tier and its right operand
    abbrev Turns : ℕ → Bool → (Token → Read Expression) → Type 0
    Turns n p below = (m : Mode) (c : Context) (t : Token) → printed c ≡ p → NotTested m → InText edition s 0 t → tier_of edition (printed c) t.kind ≡ suc n
        → Reads edition s (Tight edition s n c (settle m)) (after m c) t (suc t.start) (below (right_of edition s (suc n) t))

    more-tight : (n : ℕ) (p : Bool) (below : Token → Read Expression) → Turns n p below → (m : Mode) (c : Context) → printed c ≡ p → NotTested m
        → (i : ℕ) (x : State) (t : Token) (b : ℕ) (r : Read Expression) → Enough i r → Reads edition s (Tight edition s n c m) x t b r
        → Reads edition s (Tight edition s (suc n) c m) x t b (more edition s p (suc n) below i r)
    unfolding more
    more-tight n p below turn m c pc nt zero x t b (no outcome place) h g = g
    more-tight n p below turn m c pc nt zero x t b (ok e u) h g =
        let f = g.fact in
        record {
          state = g.state;
          walk = g.walk;
          good = g.good;
          onward = g.onward;
          fact = (f.0, f.1, f.2, f.3, stops_end (suc n) f.0 c u.kind (at-end edition s u g.good (omega (arith, h))));
        }
    more-tight n p below turn m c pc nt (suc i) x t b (no outcome place) h g = g
    more-tight n p below turn m c pc nt (suc i) x t b (ok e u) h g =
        let f = g.fact in
        let k : Mode = f.0 in
        let r : Read Expression = below (right_of edition s (suc n) u) in
        by-test (Reads edition s (Tight edition s (suc n) c m) x t b) (eqb (tier_of edition p u.kind) (suc n)) (more edition s p (suc n) below i (map (tree_of u.kind e) r)) (ok e u)
        (λ q.
        let tier : tier_of edition (printed c) u.kind ≡ suc n = ap (λ b. tier_of edition b u.kind) pc ∙ eqb-true (tier_of edition p u.kind) (suc n) q in
        let next = turn k c u pc (keep m k f.3 nt) g.good tier in
        let w : Walk edition s x t (after k c) u = subst (λ (y : State). Walk edition s x t y u) f.1 g.walk in
        more-tight n p below turn m c pc nt i x t b (map (tree_of u.kind e) r) (enough-map (Tight edition s n c (settle k)) (tree_of u.kind e) i (after k c) u r h next)
        (earlier edition s (Tight edition s n c m) x t (after k c) u b (suc u.start) (map (tree_of u.kind e) r) w (omega (arith, g.onward))
        (reads-map edition s (Tight edition s n c (settle k)) (Tight edition s n c m) (tree_of u.kind e) (after k c) u (suc u.start) r
        (λ a v y z. (z.0, z.1, z.2 ∙ (not-fresh k (assignable edition a) ∙ sym (ap (λ b. is_fresh m && b) (tree_free u.kind e a) ∙ and_none (is_fresh m))), z.3 ∙ (settle-twice k ∙ f.3), z.4)) next)))
        (λ q. record {
          state = g.state;
          walk = g.walk;
          good = g.good;
          onward = g.onward;
          fact = (k, f.1, f.2, f.3, stops-more n k c u.kind (λ z. eqb-false (tier_of edition p u.kind) (suc n) q (sym (ap (λ b. tier_of edition b u.kind) pc) ∙ z)) f.4);
        })

    pub no_end : (p : Bool) (k : Kind) (n : ℕ) → tier_of edition p k ≡ suc n → same k text_end ≡ false
    unfolding among rank
    no_end p k n e = decide (same k text_end) refl
      where
        decide : (b : Bool) → same k text_end ≡ b → same k text_end ≡ false
        decide false q = q
        decide true q = let z : 0 ≡ suc n = sym (tier-quiet edition p text_end refl) ∙ (ap (tier_of edition p) (sym (same-is k text_end q)) ∙ e) in absurd (omega (arith, z))

    -- the step at an operator, by its tier
    product-step : (m : Mode) (c : Context) (k : Kind) → NotTested m → tier_of edition (printed c) k ≡ 2 → step edition (after m c) k ≡ some (operand (settle m) c)
    unfolding step tier_after operator_step
    product-step fresh c k n h = after-tier edition fresh c k 2 h
    product-step plain c k n h = after-tier edition plain c k 2 h
    product-step against c k n h = after-tier edition against c k 2 h
    product-step tested c k n h = absurd n

    sum_step : (m : Mode) (c : Context) (k : Kind) → NotTested m → tier_of edition (printed c) k ≡ 3 → step edition (after m c) k ≡ some (operand (settle m) c)
    unfolding step tier_after operator_step
    sum_step fresh c k n h = after-tier edition fresh c k 3 h
    sum_step plain c k n h = after-tier edition plain c k 3 h
    sum_step against c k n h = after-tier edition against c k 3 h
    sum_step tested c k n h = absurd n

    join_step : (m : Mode) (c : Context) (k : Kind) → NotTested m → tier_of edition (printed c) k ≡ 4 → step edition (after m c) k ≡ operand_step edition (settle m) c k
    unfolding step
    join_step m c k n h = after-joined edition m c k n h

    compare-step : (m : Mode) (c : Context) (k : Kind) → Loose m → tier_of edition (printed c) k ≡ 5 → step edition (after m c) k ≡ some (operand against c)
    unfolding step
    compare-step m c k n h = after-compared edition m c k n h

    -- an operator, and its right operand after it
    right-reads : (Q : Expression → Token → State → Type 0) (x : State) (m : Mode) (c : Context) (t : Token) (r : Read Expression) → InText edition s 0 t → same t.kind text_end ≡ false
        → step edition x t.kind ≡ some (operand m c) → Reads edition s Q (operand m c) (operand_after edition s t) (suc (operand_after edition s t).start) r
        → Reads edition s Q x t (suc t.start) r
    right-reads Q x m c t r g e h k =
        earlier edition s Q x t (operand m c) (operand_after edition s t) (suc t.start) (suc (operand_after edition s t).start) r
        (pass-operand edition s x t (operand m c) (after (settle m) c) h (ere-operand edition m c)) (omega (arith, onward-operand edition s t g e)) k

    at-operand : (m : Mode) (c : Context) (k : Kind) → step edition (operand m c) k ≡ operand_step edition m c k
    unfolding step
    at-operand m c k = refl

    product-turn : (p : Bool) (below : Token → Read Expression) → FormReads (Tight edition s 1) NotTested p below → Turns 1 p below
    unfolding right_of
    product-turn p below b m c t pc nt g h =
        right-reads (Tight edition s 1 c (settle m)) (after m c) (settle m) c t (below (operand_after edition s t)) g (no_end (printed c) t.kind 1 h) (product-step m c t.kind nt h)
        (b (settle m) c (operand (settle m) c) (operand_after edition s t) pc (settled m nt) (operand-after-in edition s t g) (at-operand (settle m) c (operand_after edition s t).kind))

    sum-turn : (p : Bool) (below : Token → Read Expression) → FormReads (Tight edition s 2) NotTested p below → Turns 2 p below
    unfolding right_of
    sum-turn p below b m c t pc nt g h =
        right-reads (Tight edition s 2 c (settle m)) (after m c) (settle m) c t (below (operand_after edition s t)) g (no_end (printed c) t.kind 2 h) (sum_step m c t.kind nt h)
        (b (settle m) c (operand (settle m) c) (operand_after edition s t) pc (settled m nt) (operand-after-in edition s t g) (at-operand (settle m) c (operand_after edition s t).kind))

    join-turn : (p : Bool) (below : Token → Read Expression) → FormReads (Tight edition s 3) NotTested p below → Turns 3 p below
    unfolding right_of
    join-turn p below b m c t pc nt g h = b (settle m) c (after m c) t pc (settled m nt) g (join_step m c t.kind nt h)

    -- ---- comparisons: one at most

    compare-reads : (p : Bool) (below : Token → Read Expression) → FormReads (Tight edition s 4) NotTested p below → (m : Mode) (c : Context) → printed c ≡ p → Loose m
        → (x : State) (t : Token) (b : ℕ) (r : Read Expression) → Reads edition s (Tight edition s 4 c m) x t b r → Reads edition s (Compared c m) x t b (more edition s p 5 below 1 r)
    unfolding more right_of
    compare-reads p below b m c pc lo x t l (no outcome place) g = g
    compare-reads p below b m c pc lo x t l (ok e u) g =
        let f = g.fact in
        let k : Mode = f.0 in
        let v : Token = operand_after edition s u in
        by-test (Reads edition s (Compared c m) x t l) (eqb (tier_of edition p u.kind) 5) (map (tree_of u.kind e) (below v)) (ok e u)
        (λ q.
        let tier : tier_of edition (printed c) u.kind ≡ 5 = ap (λ b. tier_of edition b u.kind) pc ∙ eqb-true (tier_of edition p u.kind) 5 q in
        let w : Walk edition s x t (after k c) u = subst (λ (y : State). Walk edition s x t y u) f.1 g.walk in
        earlier edition s (Compared c m) x t (after k c) u l (suc u.start) (map (tree_of u.kind e) (below v)) w (omega (arith, g.onward))
        (reads-map edition s (Tight edition s 4 c against) (Compared c m) (tree_of u.kind e) (after k c) u (suc u.start) (below v)
        (λ a v y z. (z.0, z.1, z.2 ∙ sym (ap (λ b. is_fresh m && b) (tree_free u.kind e a) ∙ and_none (is_fresh m)), keep against z.0 z.3 tt, right-stops z.0 c v.kind (settle-against z.0 z.3) z.4))
        (right-reads (Tight edition s 4 c against) (after k c) against c u (below v) g.good (no_end (printed c) u.kind 4 tier) (compare-step k c u.kind (keep-loose m k f.3 lo) tier)
        (b against c (operand against c) v pc tt (operand-after-in edition s u g.good) (at-operand against c v.kind)))))
        (λ q. record {
          state = g.state;
          walk = g.walk;
          good = g.good;
          onward = g.onward;
          fact = (k, f.1, f.2, keep m k f.3 (loose-not m lo), stops-more 4 k c u.kind (λ z. eqb-false (tier_of edition p u.kind) 5 q (sym (ap (λ b. tier_of edition b u.kind) pc) ∙ z)) f.4);
        })
      where
        larger : (x : ℕ) → (x ≡ 5 → ⊥) → 4 < x → 5 < x
        larger x a b = omega (arith, a)

        right-stops : (k : Mode) (c : Context) (j : Kind) → k ≡ against → Stops edition 4 k c j → Stops edition 5 k c j
        right-stops k c j e (inl z) = inl z
        right-stops k c j e (inr z) = inr (larger (tier_after k (tier_of edition (printed c) j)) (λ h. against-not (tier_of edition (printed c) j) (ap (λ m. tier_after m (tier_of edition (printed c) j)) (sym e) ∙ h)) z)

    -- ---- matches

    match-step : (m : Mode) (c : Context) (k : Kind) → NotTested m → among (tilde ∷ no-match-kind ∷ []) k ≡ true → step edition (after m c) k ≡ some (ere_next c)
    unfolding step
    match-step m c k n h = after-match edition m c k n h

    six : (k : Mode) (c : Context) (j : Kind) → Stops edition 5 k c j → Stops edition 6 k c j
    six k c j h = stops-more 5 k c j (never 6 (printed c) j (inl refl)) h

    seven : (k : Mode) (c : Context) (j : Kind) → Stops edition 6 k c j → Stops edition 7 k c j
    seven k c j h = stops-more 6 k c j (never 7 (printed c) j (inr refl)) h

    match-with : (m : Mode) (c : Context) (e : Expression) (t u : Token) → InText edition s 0 u
        → Reads edition s (Loosely 6 c m) (ere_next c) u (suc u.start) (match_with edition s e t u)
    unfolding match_with assign_to step rank
    match-with m c e t u g =
        by-test (Reads edition s (Loosely 6 c m) (ere_next c) u (suc u.start)) (is ERE u) (ok (cond (is tilde t) (matches e (ere_in s u)) (no_match e (ere_in s u))) (token_after edition s u)) (no _ _)
        (λ q.
        let n : same u.kind text_end ≡ false = known edition s (λ k. same k text_end ≡ false) u.kind ERE q refl in
        record {
          state = after tested c;
          walk = pass edition s (ere_next c) u (after tested c) tt (rw q) (after-ere edition tested c);
          good = after-in edition s u g;
          onward = omega (arith, onward-after edition s u g n);
          fact = (tested, refl, sym (ap (λ b. is_fresh m && b) (unassigned (is tilde t)) ∙ and_none (is_fresh m)), (λ h. refl), tested-after (tier_of edition (printed c) (token_after edition s u).kind));
        })
        (λ q. refused edition s (ere_next c) u (rw q))
      where
        unassigned : (b : Bool) → assignable edition (cond b (matches e (ere_in s u)) (no_match e (ere_in s u))) ≡ false
        unassigned true = refl
        unassigned false = refl

    matching-reads : (m : Mode) (c : Context) (x : State) (t : Token) (b : ℕ) (r : Read Expression) → Reads edition s (Compared c m) x t b r
        → Reads edition s (Loosely 6 c m) x t b (matching edition s r)
    unfolding matching among rank
    matching-reads m c x t b (no outcome place) g = g
    matching-reads m c x t b (ok e u) g =
        let f = g.fact in
        let k : Mode = f.0 in
        let v : Token = operand_after edition s u in
        by-test (Reads edition s (Loosely 6 c m) x t b) (is_one_of (tilde ∷ no-match-kind ∷ []) u) (match_with edition s e u v) (ok e u)
        (λ q.
        let n : same u.kind text_end ≡ false = each (λ k. same k text_end ≡ false) (tilde ∷ no-match-kind ∷ []) (refl, (refl, tt)) u.kind q in
        let w : Walk edition s x t (after k c) u = subst (λ (y : State). Walk edition s x t y u) f.1 g.walk in
        let on : u.start < v.start = onward-operand edition s u g.good n in
        earlier edition s (Loosely 6 c m) x t (ere_next c) v b (suc v.start) (match_with edition s e u v)
        (walk-join edition s x t (after k c) u (ere_next c) v w (pass-operand edition s (after k c) u (ere_next c) (after tested c) (match-step k c u.kind f.3 q) (ere-next-takes edition c)))
        (omega (arith, on, g.onward)) (match-with m c e u v (operand-after-in edition s u g.good)))
        (λ q. record {
          state = g.state;
          walk = g.walk;
          good = g.good;
          onward = g.onward;
          fact = (k, f.1, f.2, (λ h. absurd (clash (sym h ∙ q))), six k c u.kind f.4);
        })

    -- ---- `&&` and `||`

    -- tier 7 has no operator
    more-none : (p : Bool) (below : Token → Read Expression) (m : Mode) (c : Context) → printed c ≡ p → (i : ℕ) (x : State) (t : Token) (b : ℕ) (r : Read Expression)
        → Reads edition s (Loosely 6 c m) x t b r → Reads edition s (Loosely 7 c m) x t b (more edition s p 7 below i r)
    unfolding more
    more-none p below m c pc zero x t b (no outcome place) g = g
    more-none p below m c pc zero x t b (ok e u) g =
        let f = g.fact in
        record { state = g.state; walk = g.walk; good = g.good; onward = g.onward; fact = (f.0, f.1, f.2, f.3, seven f.0 c u.kind f.4) }
    more-none p below m c pc (suc i) x t b (no outcome place) g = g
    more-none p below m c pc (suc i) x t b (ok e u) g =
        let f = g.fact in
        by-test (Reads edition s (Loosely 7 c m) x t b) (eqb (tier_of edition p u.kind) 7) (more edition s p 7 below i (map (tree_of u.kind e) (below (right_of edition s 7 u)))) (ok e u)
        (λ q. absurd (never 7 p u.kind (inr refl) (eqb-true (tier_of edition p u.kind) 7 q)))
        (λ q. record { state = g.state; walk = g.walk; good = g.good; onward = g.onward; fact = (f.0, f.1, f.2, f.3, seven f.0 c u.kind f.4) })

    abbrev LooseTurns : ℕ → Bool → (Token → Read Expression) → Type 0
    LooseTurns n p below = (m : Mode) (c : Context) (t : Token) → printed c ≡ p → InText edition s 0 t → tier_of edition (printed c) t.kind ≡ suc n
        → Reads edition s (Loosely n c plain) (after m c) t (suc t.start) (below (right_of edition s (suc n) t))

    line_step : (m : Mode) (c : Context) (k : Kind) → same k newline ≡ false → step edition (operand_line m c) k ≡ operand_step edition m c k
    unfolding step
    line_step m c k e = rw e

    newline-stays : (m : Mode) (c : Context) → step edition (operand_line m c) newline ≡ some (operand_line m c)
    unfolding step rank
    newline-stays m c = refl

    -- an operator that newlines may follow, and its right operand
    pub line_reads : (Q : Expression → Token → State → Type 0) (x : State) (m : Mode) (c : Context) (t : Token) (below : Token → Read Expression) → InText edition s 0 t → same t.kind text_end ≡ false
        → step edition x t.kind ≡ some (operand_line m c)
        → ((v : Token) → InText edition s 0 v → step edition (operand_line m c) v.kind ≡ operand_step edition m c v.kind → Reads edition s Q (operand_line m c) v (suc v.start) (below v))
        → Reads edition s Q x t (suc t.start) (below (past_newlines edition s (token_after edition s t)))
    line_reads Q x m c t below g e h k =
        let v : Token = past_newlines edition s (token_after edition s t) in
        let j = lines_after edition s x (operand_line m c) (after (settle m) c) t h (newline-stays m c) (ere-line edition m c) g e in
        earlier edition s Q x t (operand_line m c) v (suc t.start) (suc v.start) (below v) j.0 (omega (arith, j.2)) (k v j.1 (line_step m c v.kind j.3))

    and_step : (m : Mode) (c : Context) (k : Kind) → tier_of edition (printed c) k ≡ 8 → step edition (after m c) k ≡ some (operand_line plain c)
    unfolding step tier_after operator_step
    and_step m c k h = after-tier edition m c k 8 h

    or_step : (m : Mode) (c : Context) (k : Kind) → tier_of edition (printed c) k ≡ 9 → step edition (after m c) k ≡ some (operand_line plain c)
    unfolding step tier_after operator_step
    or_step m c k h = after-tier edition m c k 9 h

    and-turn : (p : Bool) (below : Token → Read Expression) → FormReads (Loosely 7) Loose p below → LooseTurns 7 p below
    unfolding right_of
    and-turn p below b m c t pc g h =
        line_reads (Loosely 7 c plain) (after m c) plain c t below g (no_end (printed c) t.kind 7 h) (and_step m c t.kind h) (λ v k q. b plain c (operand_line plain c) v pc tt k q)

    or_turn : (p : Bool) (below : Token → Read Expression) → FormReads (Loosely 8) Loose p below → LooseTurns 8 p below
    unfolding right_of
    or_turn p below b m c t pc g h =
        line_reads (Loosely 8 c plain) (after m c) plain c t below g (no_end (printed c) t.kind 8 h) (or_step m c t.kind h) (λ v k q. b plain c (operand_line plain c) v pc tt k q)

    more-loose : (n : ℕ) (p : Bool) (below : Token → Read Expression) → LooseTurns n p below → (m : Mode) (c : Context) → printed c ≡ p
        → (i : ℕ) (x : State) (t : Token) (b : ℕ) (r : Read Expression) → Enough i r → Reads edition s (Loosely n c m) x t b r
        → Reads edition s (Loosely (suc n) c m) x t b (more edition s p (suc n) below i r)
    unfolding more
    more-loose n p below turn m c pc zero x t b (no outcome place) h g = g
    more-loose n p below turn m c pc zero x t b (ok e u) h g =
        let f = g.fact in
        record {
          state = g.state;
          walk = g.walk;
          good = g.good;
          onward = g.onward;
          fact = (f.0, f.1, f.2, f.3, stops_end (suc n) f.0 c u.kind (at-end edition s u g.good (omega (arith, h))));
        }
    more-loose n p below turn m c pc (suc i) x t b (no outcome place) h g = g
    more-loose n p below turn m c pc (suc i) x t b (ok e u) h g =
        let f = g.fact in
        let k : Mode = f.0 in
        let r : Read Expression = below (right_of edition s (suc n) u) in
        by-test (Reads edition s (Loosely (suc n) c m) x t b) (eqb (tier_of edition p u.kind) (suc n)) (more edition s p (suc n) below i (map (tree_of u.kind e) r)) (ok e u)
        (λ q.
        let tier : tier_of edition (printed c) u.kind ≡ suc n = ap (λ b. tier_of edition b u.kind) pc ∙ eqb-true (tier_of edition p u.kind) (suc n) q in
        let next = turn k c u pc g.good tier in
        let w : Walk edition s x t (after k c) u = subst (λ (y : State). Walk edition s x t y u) f.1 g.walk in
        more-loose n p below turn m c pc i x t b (map (tree_of u.kind e) r) (enough-map (Loosely n c plain) (tree_of u.kind e) i (after k c) u r h next)
        (earlier edition s (Loosely n c m) x t (after k c) u b (suc u.start) (map (tree_of u.kind e) r) w (omega (arith, g.onward))
        (reads-map edition s (Loosely n c plain) (Loosely n c m) (tree_of u.kind e) (after k c) u (suc u.start) r
        (λ a v y z. (z.0, z.1, z.2 ∙ sym (ap (λ b. is_fresh m && b) (tree_free u.kind e a) ∙ and_none (is_fresh m)), z.3, z.4)) next)))
        (λ q. record {
          state = g.state;
          walk = g.walk;
          good = g.good;
          onward = g.onward;
          fact = (k, f.1, f.2, f.3, stops-more n k c u.kind (λ z. eqb-false (tier_of edition p u.kind) (suc n) q (sym (ap (λ b. tier_of edition b u.kind) pc) ∙ z)) f.4);
        })

    -- ---- assignments, and whole expressions

    whole_of : (k : Mode) (c : Context) (j : Kind) → Stops edition 9 k c j → (among (tilde ∷ no-match-kind ∷ []) j ≡ true → is_tested k ≡ true)
        → (same j assign-kind ≡ true → is_fresh k ≡ false) → step edition (after k c) j ≡ exit c j
    unfolding step
    whole_of k c j (inl e) a b = after-whole k c j e a b
    whole_of k c j (inr l) a b =
        ⊎_elim (λ e. after-whole k c j e a b)
        (λ e. ⊎_elim (λ z. absurd (omega (arith, l, e, z))) (λ z. absurd (omega (arith, l, e, z.1))) (tier-range (printed c) j (tier_of edition (printed c) j) (tiered edition (printed c) j)))
        (tier-after-is k (tier_of edition (printed c) j))

    module _ (inner : Inner) (i : InnerReads edition s inner) where
      assign-step : (k : Mode) (c : Context) (j : Kind) → is_fresh k ≡ true → same j assign-kind ≡ true → step edition (after k c) j ≡ some (operand fresh c)
      unfolding step
      assign-step fresh c j e q = ap (after_step edition fresh c) (same-is j assign-kind q) ∙ after-assign edition c
      assign-step plain c j e q = absurd (clash (sym e))
      assign-step against c j e q = absurd (clash (sym e))
      assign-step tested c j e q = absurd (clash (sym e))

      assigned-reads : (p : Bool) (c : Context) → printed c ≡ p → (x : State) (t : Token) (b : ℕ) (k : Mode) (e : Expression) (u : Token) (o : Option (Expression → Expression))
          → Walk edition s x t (after k c) u → InText edition s 0 u → b ≤ u.start → is_fresh k ≡ is_some o → is assign-kind u ≡ true → (is_some o ≡ false → step edition (after k c) u.kind ≡ exit c u.kind)
          → Reads edition s (Whole edition s c) x t b (assigned edition s inner p e u o)
      unfolding assigned rank
      assigned-reads p c pc x t b k e u none w g h f q z = record { state = after k c; walk = w; good = g; onward = h; fact = z refl }
      assigned-reads p c pc x t b k e u (some a) w g h f q z =
          let y : State = operand fresh c in
          let v : Token = operand_after edition s u in
          let o : step edition (after k c) u.kind ≡ some y = assign-step k c u.kind f q in
          let r : Read Expression = inner p expressions u v in
          let on : u.start < v.start = onward-operand edition s u g (known edition s (λ k. same k text_end ≡ false) u.kind assign-kind q refl) in
          reads-map edition s (Whole edition s c) (Whole edition s c) a x t b r (λ a v y f. f)
          (earlier edition s (Whole edition s c) x t (after k c) u b (suc v.start) r w (omega (arith, on, h))
          (i.whole p c (after k c) u y v pc (record { next = y; opens = o; walk = pass-operand edition s (after k c) u y (after plain c) o (ere-operand edition fresh c); opener = g; good = operand-after-in edition s u g })
          (at-operand fresh c v.kind)))

      assignment-reads : (p : Bool) (c : Context) → printed c ≡ p → (x : State) (t : Token) (b : ℕ) (r : Read Expression) → Reads edition s (Loosely 9 c fresh) x t b r
          → Reads edition s (Whole edition s c) x t b (assignment edition s inner p r)
      unfolding assignment
      assignment-reads p c pc x t b (no outcome place) g = g
      assignment-reads p c pc x t b (ok e u) g =
          let f = g.fact in
          let k : Mode = f.0 in
          let w : Walk edition s x t (after k c) u = subst (λ (y : State). Walk edition s x t y u) f.1 g.walk in
          by-test (Reads edition s (Whole edition s c) x t b) (is assign-kind u) (assigned edition s inner p e u (assign_to edition e)) (ok e u)
          (λ q. assigned-reads p c pc x t b k e u (assign_to edition e) w g.good g.onward f.2 q (λ z. whole_of k c u.kind f.4 f.3 (λ h. f.2 ∙ z)))
          (λ q. record { state = after k c; walk = w; good = g.good; onward = g.onward; fact = whole_of k c u.kind f.4 f.3 (λ h. absurd (clash (sym h ∙ q))) })

      -- ---- each tier

      module _ (p : Bool) where
        tier-one : FormReads (Tight edition s 1) NotTested p (tier edition s inner p 1)
        unfolding tier step_tier
        tier-one m c x t pc nt g h = prefix-reads edition s inner i m c x t nt g h

        tier-two : FormReads (Tight edition s 2) NotTested p (tier edition s inner p 2)
        unfolding tier step_tier
        tier-two m c x t pc nt g h =
            let below : Token → Read Expression = tier edition s inner p 1 in
            more-tight 1 p below (product-turn p below tier-one) m c pc nt (length s) x t (suc t.start) (below t) (enough-all (below t)) (tier-one m c x t pc nt g h)

        tier-three : FormReads (Tight edition s 3) NotTested p (tier edition s inner p 3)
        unfolding tier step_tier
        tier-three m c x t pc nt g h =
            let below : Token → Read Expression = tier edition s inner p 2 in
            more-tight 2 p below (sum-turn p below tier-two) m c pc nt (length s) x t (suc t.start) (below t) (enough-all (below t)) (tier-two m c x t pc nt g h)

        tier-four : FormReads (Tight edition s 4) NotTested p (tier edition s inner p 4)
        unfolding tier step_tier
        tier-four m c x t pc nt g h =
            let below : Token → Read Expression = tier edition s inner p 3 in
            more-tight 3 p below (join-turn p below tier-three) m c pc nt (length s) x t (suc t.start) (below t) (enough-all (below t)) (tier-three m c x t pc nt g h)

        tier-five : FormReads Compared Loose p (tier edition s inner p 5)
        unfolding tier step_tier
        tier-five m c x t pc lo g h =
            let below : Token → Read Expression = tier edition s inner p 4 in
            compare-reads p below tier-four m c pc lo x t (suc t.start) (below t) (tier-four m c x t pc (loose-not m lo) g h)

        tier-six : FormReads (Loosely 6) Loose p (tier edition s inner p 6)
        unfolding tier step_tier
        tier-six m c x t pc lo g h = matching-reads m c x t (suc t.start) (tier edition s inner p 5 t) (tier-five m c x t pc lo g h)

        tier-seven : FormReads (Loosely 7) Loose p (tier edition s inner p 7)
        unfolding tier step_tier
        tier-seven m c x t pc lo g h =
            more-none p (tier edition s inner p 6) m c pc (length s) x t (suc t.start) (tier edition s inner p 6 t) (tier-six m c x t pc lo g h)

        tier-eight : FormReads (Loosely 8) Loose p (tier edition s inner p 8)
        unfolding tier step_tier
        tier-eight m c x t pc lo g h =
            let below : Token → Read Expression = tier edition s inner p 7 in
            more-loose 7 p below (and-turn p below tier-seven) m c pc (length s) x t (suc t.start) (below t) (enough-all (below t)) (tier-seven m c x t pc lo g h)

        tier-nine : FormReads (Loosely 9) Loose p (tier edition s inner p 9)
        unfolding tier step_tier
        tier-nine m c x t pc lo g h =
            let below : Token → Read Expression = tier edition s inner p 8 in
            more-loose 8 p below (or_turn p below tier-eight) m c pc (length s) x t (suc t.start) (below t) (enough-all (below t)) (tier-eight m c x t pc lo g h)

        -- a whole expression
        pub whole-reads : (c : Context) (x : State) (t : Token) → printed c ≡ p → InText edition s 0 t → step edition x t.kind ≡ operand_step edition fresh c t.kind
            → Reads edition s (Whole edition s c) x t (suc t.start) (tier edition s inner p expressions t)
        unfolding tier step_tier
        whole-reads c x t pc g h = assignment-reads p c pc x t (suc t.start) (tier edition s inner p 9 t) (tier-nine fresh c x t pc tt g h)

    -- ---- levels

    pub inside-reads : (levels : ℕ) → InnerReads edition s (inside edition s levels)
    unfolding inside tier step_tier prefix_form
    inside-reads zero =
        record {
          whole = λ p c x o y t pc w h. too-deep edition s x w.next o w.opens;
          prefix-part = λ m c x o y t n w h. too-deep edition s x w.next o w.opens;
          field-part = λ m c x o y t w h. too-deep edition s x w.next o w.opens;
        }
    inside-reads (suc levels) =
        let inner : Inner = inside edition s levels in
        let i = inside-reads levels in
        record {
          whole = λ p c x o y t pc w h. earlier edition s (Whole edition s c) x o y t (suc t.start) (suc t.start) (tier edition s inner p expressions t) w.walk (omega arith)
              (whole-reads inner i p c y t pc w.good h);
          prefix-part = λ m c x o y t n w h. earlier edition s (Tight edition s 1 c m) x o y t (suc t.start) (suc t.start) (tier edition s inner false 1 t) w.walk (omega arith)
              (prefix-reads edition s inner i m c y t n w.good h);
          field-part = λ m c x o y t w h. earlier edition s (Field edition s c m m) x o y t (suc t.start) (suc t.start) (tier edition s inner false 0 t) w.walk (omega arith)
              (field-reads edition s inner i m m c y t w.good h);
        }

    pub expression-reads : (levels : ℕ) (p : Bool) (c : Context) (x : State) (t : Token) → printed c ≡ p → InText edition s 0 t → step edition x t.kind ≡ operand_step edition fresh c t.kind
        → Reads edition s (Whole edition s c) x t (suc t.start) (tier edition s (inside edition s levels) p expressions t)
    expression-reads levels p c x t pc g h = whole-reads (inside edition s levels) (inside-reads levels) p c x t pc g h
