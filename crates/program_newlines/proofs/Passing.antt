-- Passing newlines and semicolons, a token a turn.
use mathlib.Core.Path.{◌≡◌, refl, sym, ap, subst, ◌∙◌}
use mathlib.Core.Bool.{Bool, true, false, ◌&&◌, ◌||◌}
use mathlib.Core.List.{List}
use Prim.Native.Nat.{ℕ, zero, suc, ◌-◌, ◌≤◌, ◌<◌}
use native.Mathlib.Omega.{arith}
use lib.Dec.{eqb}
use lib.ListN.{length}
use borrow.Author.Tests.{ne_eqb}
use Rattle.lists.proofs.Tests.{clash}
use Rattle.program_tokens.specs.Kinds.{Kind, text_end, among, same, rank}
use Rattle.program_tokens.specs.Tokens.{Token, is_one_of, token_after, as_operand}
use Rattle.program_reader.specs.Read.{past_in, past, past_newlines}
use Rattle.program_lexer.specs.Coded.{coded, decoded, kind_of, kind_count}
use Rattle.program_lexer.specs.declared.tokens.Token.{Token as Coded}
use Rattle.program_lexer.proofs.Coding.{rank-of}
use Rattle.program_parser.specs.Reading.{Good}
use Rattle.program_newlines.specs.Passing.{passing, Passes}
use Rattle.program_parser.proofs.Tokens.{good-after, good-past}
use Rattle.program_parser.proofs.Codes.{kind-below, decoded-back}
use Rattle.program_parser.proofs.Sets.{ender-kind, newline-kind}

pub passing-kind : (semicolons : Bool) (n : ℕ) → n < kind_count → (eqb n 1 || (semicolons && eqb n 43))
    ≡ among (passing semicolons) (kind_of n)
passing-kind true n h = ender-kind n h
passing-kind false n h = newline-kind n h

-- the text's end is never passed
begun : (semicolons : Bool) (k : Kind) → among (passing semicolons) k ≡ true → same k text_end ≡ false
unfolding among rank
begun true k e = ne_eqb (rank k) 0 (λ z. clash (sym e ∙ rw z))
begun false k e = ne_eqb (rank k) 0 (λ z. clash (sym e ∙ rw z))

module _ (edition : ℕ) (s : List ℕ) where
  pub pass-start : (ks : List Kind) (t : Coded) → Good edition s 0 (decoded t) → t.kind < kind_count
      → Passes edition s ks t t
  pass-start ks t g h = record { good = g; known = h; left = length s; enough = omega arith; same = refl }

  pub still : (ks : List Kind) (n : ℕ) (t : Token) → is_one_of ks t ≡ false → past_in edition s ks n t ≡ t
  unfolding past_in
  still ks zero t e = refl
  still ks (suc n) t e = rw e

  turned : (ks : List Kind) (n : ℕ) (t : Token) → is_one_of ks t ≡ true → 0 < n → past_in edition s ks n t
      ≡ past_in edition s ks (n - 1) (token_after edition s t)
  unfolding past_in
  turned ks zero t e h = absurd (omega arith)
  turned ks (suc n) t e h =
      let m : n ≡ suc n - 1 = omega arith in
      rw e (ap (λ (k : ℕ). past_in edition s ks k (token_after edition s t)) m)

  module _ (semicolons : Bool) (t u : Coded) (p : Passes edition s (passing semicolons) t u) where
    pub pass-done : among (passing semicolons) (kind_of u.kind) ≡ false → u
        ≡ coded (past edition s (passing semicolons) (decoded t))
    pass-done e =
        let back : u ≡ coded (decoded u) = ap (λ (k : ℕ). record { start = u.start; kind = k; stop = u.stop })
        (sym (rank-of u.kind p.known)) in
        back ∙ ap coded (sym (still (passing semicolons) p.left (decoded u) e) ∙ p.same)

    module _ (v : Coded) (e : among (passing semicolons) (kind_of u.kind) ≡ true)
        (f : v ≡ coded (token_after edition s (decoded u))) where
      w : Token
      w = token_after edition s (decoded u)

      longer : u.start < u.stop
      longer = p.good.longer (begun semicolons (kind_of u.kind) e)

      after : Good edition s u.stop w
      unfolding w
      after = good-after edition s 0 (decoded u) p.good

      starts : v.start ≡ w.start
      unfolding w
      starts = ap (λ (x : Coded). x.start) f

      pub pass-nearer : length s - v.start < length s - u.start
      pass-nearer = omega (arith, longer, after.after, starts, p.good.within)

      pub pass-more : Passes edition s (passing semicolons) t v
      unfolding w
      pass-more =
          let back : decoded v ≡ token_after edition s (decoded u) = decoded-back v (token_after edition s (decoded u))
          f in
          let kind : v.kind ≡ rank (token_after edition s (decoded u)).kind = ap (λ (x : Coded). x.kind) f in
          record {
            good = subst (λ (x : Token). Good edition s 0 x) (sym back)
                (record {
                  after = omega arith;
                  ordered = after.ordered;
                  within = after.within;
                  longer =
                      after.longer;
                  placed = after.placed;
                });
            known = omega (arith, kind, kind-below (token_after edition s (decoded u)).kind);
            left = p.left - 1;
            enough = omega (arith, longer, after.after, starts, p.enough, p.good.within);
            same =
                ap (past_in edition s (passing semicolons) (p.left - 1)) back
                ∙ (sym (turned (passing semicolons) p.left (decoded u) e
                (omega (arith, longer, p.enough, p.good.within))) ∙ p.same);
          }

  -- ---- "newlines may follow"

  module _ (t u : Coded) (e : u ≡ coded (past edition s (passing false) (decoded t))) where
    pub newlines-ready : Good edition s 0 (decoded t) → (u.kind < kind_count) × (u.start ≤ length s)
    newlines-ready g =
        let x : Token = past edition s (passing false) (decoded t) in
        let f = good-past edition s 0 (passing false) (length s) (decoded t) g in
        let k : u.kind ≡ rank x.kind = ap (λ (y : Coded). y.kind) e in
        let a : u.start ≡ x.start = ap (λ (y : Coded). y.start) e in
        (omega (arith, k, kind-below x.kind), omega (arith, a, f.ordered, f.within))

    pub newlines-again : (r : Coded) → r ≡ coded (as_operand edition s (decoded u)) → r
        ≡ coded (past_newlines edition s (decoded t))
    newlines-again r h = h ∙ ap (λ (x : Token). coded (as_operand edition s x))
        (decoded-back u (past edition s (passing false) (decoded t)) e)
