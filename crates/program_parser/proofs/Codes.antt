-- The tokens of the code and those of the definitions are the same.
use mathlib.Core.Path.{◌≡◌, refl, sym, ap, ◌∙◌}
use mathlib.Core.Bool.{Bool, true, false}
use mathlib.Core.List.{List, [], ◌∷◌}
use mathlib.Core.Option.{some}
use Prim.Native.Nat.{ℕ, zero, suc, ◌≤◌, ◌<◌}
use native.Mathlib.Omega.{arith}
use lib.Dec.{leb}
use lib.ListN.{length, get_or}
use borrow.Author.Tests.{leb-true, leb-false, eq-eqb, ne_eqb}
use Rattle.lists.specs.Elements.{nth}
use Rattle.lists.proofs.Options.{some_one, none-some}
use Rattle.lists.proofs.Elements.{nth-none}
use Rattle.edition.specs.Outcomes.{bad_token, misplaced_token, bad_ere}
use Rattle.program_tokens.specs.Kinds.{Kind, kinds, bad, rank}
use Rattle.program_tokens.specs.Tokens.{Token, token_after, as_operand}
use Rattle.program_tokens.proofs.Ranks.{rank-names}
use Rattle.program_lexer.specs.Coded.{coded, decoded, kind_of, kind_count}
use Rattle.program_lexer.specs.declared.tokens.Token.{Token as Coded}
use Rattle.program_lexer.proofs.Coding.{rank-of}
use Rattle.program_reader.specs.Read.{operand_after}
use Rattle.program_parser.specs.declared.read.Read.{Read}
use Rattle.program_parser.specs.Reading.{answered, refusal, refused_by, closed_of, Good}
use Rattle.program_parser.proofs.Tokens.{good-after}

pub kind-below : (k : Kind) → rank k < kind_count
kind-below k = go (leb kind_count (rank k)) refl
  where
    go : (b : Bool) → leb kind_count (rank k) ≡ b → rank k < kind_count
    go true e = absurd (none-some (sym (nth-none kinds (rank k) (leb-true kind_count (rank k) e)) ∙ rank-names k))
    go false e = leb-false kind_count (rank k) e

nth-value : {A : Type 0} (l : List A) (n : ℕ) (a d : A) → nth l n ≡ some a → get_or l n d ≡ a
unfolding nth
nth-value [] n a d e = absurd (none-some e)
nth-value (b ∷ l) zero a d e = some_one refl e
nth-value (b ∷ l) (suc n) a d e = nth-value l n a d e

pub kind-back : (k : Kind) → kind_of (rank k) ≡ k
unfolding kind_of
kind-back k = nth-value kinds (rank k) k bad (rank-names k)

pub decoded-coded : (t : Token) → decoded (coded t) ≡ t
decoded-coded t = ap (λ (k : Kind). record { start = t.start; kind = k; stop = t.stop }) (kind-back t.kind)

pub decoded-back : (t : Coded) (u : Token) → t ≡ coded u → decoded t ≡ u
decoded-back t u e = ap decoded e ∙ decoded-coded u

-- ---- "at one token 3, 5, 4"

module _ (t : Coded) (h : t.kind < kind_count) where
  pub refused-bad : t.kind ≡ 2 → bad_token ≡ refused_by (decoded t)
  unfolding rank
  refused-bad e = rw (rank-of t.kind h, eq-eqb t.kind 2 e)

  pub refused-ere : (t.kind ≡ 2 → ⊥) → t.kind ≡ 3 → bad_ere ≡ refused_by (decoded t)
  unfolding rank
  refused-ere n e = rw (rank-of t.kind h, ne_eqb t.kind 2 n, eq-eqb t.kind 3 e)

  pub refused-place : (t.kind ≡ 2 → ⊥) → (t.kind ≡ 3 → ⊥) → misplaced_token ≡ refused_by (decoded t)
  unfolding rank
  refused-place n m = rw (rank-of t.kind h, ne_eqb t.kind 2 n, ne_eqb t.kind 3 m)

-- ---- the token after a token, where the grammar allows an operand

module _ (edition : ℕ) (s : List ℕ) (t u : Coded) (e : u ≡ coded (token_after edition s (decoded t))) where
  pub operand-ready : Good edition s 0 (decoded t) → (u.kind < kind_count) × (u.start ≤ length s)
  operand-ready g =
      let f = good-after edition s 0 (decoded t) g in
      let k : u.kind ≡ rank (token_after edition s (decoded t)).kind = ap (λ (x : Coded). x.kind) e in
      let a : u.start ≡ (token_after edition s (decoded t)).start = ap (λ (x : Coded). x.start) e in
      (omega (arith, k, kind-below (token_after edition s (decoded t)).kind), omega (arith, a, f.ordered, f.within))

  pub operand-again : (r : Coded) → r ≡ coded (as_operand edition s (decoded u)) → r ≡ coded (operand_after edition s (decoded t))
  operand-again r h = h ∙ ap (λ (x : Token). coded (as_operand edition s x)) (decoded-back u (token_after edition s (decoded t)) e)

-- ---- what a `)` has to follow

module _ (edition : ℕ) (s : List ℕ) (r : Read) where
  pub closed-no : (r.outcome ≡ 0 → ⊥) → r ≡ closed_of edition s r
  closed-no n = rw (ne_eqb r.outcome 0 n)

  module _ (z : r.outcome ≡ 0) (h : r.token.kind < kind_count) where
    pub closed-refused : (q : Read) → (r.token.kind ≡ 39 → ⊥) → q ≡ refusal (refused_by (decoded r.token)) r.token.start
        → q ≡ closed_of edition s r
    unfolding rank
    closed-refused q n e = e ∙ sym (rw (eq-eqb r.outcome 0 z, rank-of r.token.kind h, ne_eqb r.token.kind 39 n))

    pub closed-ok : (q : Read) (u : Coded) → r.token.kind ≡ 39 → u ≡ coded (token_after edition s (decoded r.token))
        → q ≡ answered u r.count 0 → q ≡ closed_of edition s r
    unfolding rank
    closed-ok q u m f e =
        e ∙ (ap (λ (x : Coded). answered x r.count 0) f
        ∙ sym (rw (eq-eqb r.outcome 0 z, rank-of r.token.kind h, eq-eqb r.token.kind 39 m)))
