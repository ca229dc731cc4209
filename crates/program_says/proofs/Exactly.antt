-- A sentence has one tree: the one that each of its derivations says, and that is read.
use mathlib.Core.Path.{◌≡◌, refl, sym, ap, subst, ◌∙◌}
use mathlib.Core.List.{List, [], ◌∷◌, ◌++◌}
use mathlib.Core.Logic.{◌⊎◌, inl, inr, ⊎_elim}
use Prim.Native.Nat.{ℕ, suc, ◌-◌}
use native.Mathlib.Omega.{arith}
use lib.ListN.{length}
use Rattle.edition.specs.Outcomes.{size_passed}
use Rattle.edition.specs.Limits.{nesting_depth}
use Rattle.program_tokens.specs.Kinds.{Kind, text_end}
use Rattle.program_tokens.specs.Tokens.{Token, token_at, token_after}
use Rattle.program_tree.specs.Tree.{Program}
use Rattle.program_grammar.specs.Viable.{Taken, operand, operator, Reached, first as first-token, after}
use Rattle.program_reader.specs.Read.{ok, no}
use Rattle.program_reader.specs.Programs.{read_program}
use Rattle.program_exact.specs.Claims.{Accepted, TooDeep}
use Rattle.program_exact.proofs.Exactly.{reads-exactly}
use Rattle.program_exact.proofs.Sayings.{kinds_of, Trail, Follow, Reread}
use Rattle.program_says.specs.Trees.{tokens_before, said_by}
use Rattle.program_says.specs.Claims.{TreesExactly}
use Rattle.program_says.proofs.Stretches.{Says}
use Rattle.program_says.proofs.AnyLevels.{program_of, same-program}
use Rattle.program_says.proofs.Items.{sentence-says}

kinds-append : (a b : List Token) → kinds_of (a ++ b) ≡ kinds_of a ++ kinds_of b
kinds-append [] b = refl
kinds-append (t ∷ a) b = ap (λ (l : List Kind). t.kind ∷ l) (kinds-append a b)

read-apart : {p : Program} {t : Token} {place : ℕ} → ok p t ≡ no size_passed place → ⊥
read-apart e = let z : ◌≡◌ {A = ℕ} 0 1 = cc in omega (arith, z)

read_same : {p q : Program} {t u : Token} → ok p t ≡ ok q u → p ≡ q
read_same e = cc

module _ (edition : ℕ) (s : List ℕ) where
  -- ---- the tokens of a text

  taken-again : (l : List Kind) (t u : Token) → Taken edition s l t u → Reread edition s t u
  taken-again l t u (operand v) = inr refl
  taken-again l t u (operator v) = inl refl

  trail-then : (t : Token) (ts : List Token) (u v : Token) → Trail edition s t ts u → Follow edition s u v → Trail edition s t (ts ++ (u ∷ [])) v
  trail-then t [] u v w f = (v, sym w, subst (λ (x : Token). Follow edition s x v) (sym w) f, refl)
  trail-then t (a ∷ ts) u v w f = (w.0, w.1, w.2, trail-then w.0 ts u v w.3 f)

  abbrev FromStart : List Kind → List Token → Token → Type 0
  FromStart l ts u = (t : Token) × (Reread edition s (token_at edition s 0) t) × (Trail edition s t ts u) × (kinds_of ts ≡ l)

  from_start : {l : List Kind} {u : Token} (r : Reached edition s l u) → FromStart l (tokens_before edition s r) u
  unfolding tokens_before
  from_start {u = u} (first-token h) = (u, taken-again [] (token_at edition s 0) u h, refl, refl)
  from_start {u = u} (after {before = l} {t = t} r h) =
      let i = from_start r in (
        i.0,
        i.1,
        trail-then i.0 (tokens_before edition s r) t u i.2 (taken-again (l ++ (t.kind ∷ [])) (token_after edition s t) u h),
        kinds-append (tokens_before edition s r) (t ∷ []) ∙ ap (λ (x : List Kind). x ++ (t.kind ∷ [])) i.3,
      )

  -- ---- the claims

  -- read with any number of levels
  levels-say : (levels : ℕ) (a : Accepted edition s) → (t : Token) × (Says s (suc levels) (program_of edition s levels) (said_by edition s a) t)
  unfolding said_by
  levels-say levels a =
      let i = from_start a.reached in
      let ts : List Token = tokens_before edition s a.reached in
      let z : Token = a.last in
      let kinds : kinds_of (ts ++ (z ∷ [])) ≡ a.before ++ (text_end ∷ []) =
      kinds-append ts (z ∷ []) ∙ (ap (λ (x : List Kind). x ++ (z.kind ∷ [])) i.3 ∙ ap (λ (k : Kind). a.before ++ (k ∷ [])) a.at-end) in
      sentence-says edition s levels a.sentence i.0 (ts ++ (z ∷ [])) (token_after edition s z) i.1 kinds (trail-then i.0 ts z (token_after edition s z) i.2 (inl refl))

  all_said : (a : Accepted edition s) → ((t : Token) × (read_program edition s ≡ ok (said_by edition s a) t)) ⊎ (TooDeep edition s)
  all_said a =
      let q = levels-say (nesting_depth - 1) a in
      let back : read_program edition s ≡ program_of edition s (nesting_depth - 1) = sym (same-program edition s) in
      ⊎_elim (λ d. inr (d.0, back ∙ d.1)) (λ e. inl (q.0, back ∙ e)) q.1

  said_of : (a : Accepted edition s) (p : Program) (t : Token) → read_program edition s ≡ ok p t → p ≡ said_by edition s a
  said_of a p t e = ⊎_elim (λ z. read_same (sym e ∙ z.1)) (λ z. absurd (read-apart (sym e ∙ z.1))) (all_said a)

  -- with more levels than the text has bytes
  enough : (a : Accepted edition s) → (t : Token) × (program_of edition s (length s) ≡ ok (said_by edition s a) t)
  enough a =
      let q = levels-say (length s) a in
      (q.0, ⊎_elim (λ d. absurd (omega (arith, d.2))) (λ e. e) q.1)

  -- "the tree is the one that the derivation says; a sentence has one tree"
  pub trees-exactly : TreesExactly edition s
  trees-exactly =
      record {
        all = all_said;
        only = λ p t e. let a = (reads-exactly edition s).only p t e in (a, said_of a p t e);
        one = λ a b. read_same (sym (enough a).1 ∙ (enough b).1);
      }
