-- What is read, with an instruction after it.
use mathlib.Core.Path.{◌≡◌, refl, sym, ap, ◌∙◌}
use mathlib.Core.Bool.{Bool, true, false, cond}
use mathlib.Core.List.{List, [], ◌∷◌, ◌++◌}
use Prim.Native.Nat.{ℕ, ◌+◌, ◌*◌, ◌≤◌, ◌<◌}
use native.Mathlib.Omega.{arith}
use lib.ListN.{length}
use lib.Seq.{sets}
use borrow.Author.Tests.{eq-eqb, ne_eqb}
use Rattle.image_format.specs.Codes.{Operation}
use Rattle.program_tokens.specs.Kinds.{close_paren}
use Rattle.program_tokens.specs.Tokens.{Token, is, token_after}
use Rattle.program_tree.specs.Tree.{Expression, variable, parentheses}
use Rattle.program_reader.specs.Read.{Read as Result, ok, no, map, refuse}
use Rattle.program_reader.specs.Expressions.{closed}
use Rattle.program_code.specs.Emitted.{Operand, Emitted, emit, opcode}
use Rattle.program_code.specs.Expressions.{size, compile}
use Rattle.program_code.proofs.Flows.{size-length}
use Rattle.program_words.specs.Words.{Fits, word}
use Rattle.program_parser.specs.declared.read.Read.{Read}
use Rattle.program_parser.specs.Meaning.{Denotes, Wrote}
use Rattle.program_parser.specs.Reading.{success, answered, refusal, refused_by, closed_of, form_of, Reading}
use Rattle.program_parser.proofs.Tokens.{good-after}
use Rattle.program_parser.proofs.Spelling.{wrote_after}
use Rattle.program_operations.specs.Parts.{suffixed, Suffixed}
use Rattle.program_operations.proofs.Readings.{good-earlier, refused-token, closed_of_lem, closed-refused}
use Rattle.program_operations.proofs.Written.{wrote_one}

-- a tree that is no name
never : (e : Expression) (v : List ℕ) → parentheses e ≡ variable v → ⊥
never e v y = let z : ◌≡◌ {A = ℕ} 0 1 = cc in omega arith

-- a tree f e for each expression e: its code from instruction n on, at the depth d, is a run up to instruction m, that
-- of e, at the depth k, and one instruction more
pub record Ends (edition n d : ℕ) (is : List Emitted) (m k : ℕ) (o : Operation) (j : ℕ) (x : Operand) (form : ℕ)
    (f : Expression → Expression) : Type 0 where
  pub sized : (e : Expression) → n + size (f e) ≡ m + size e + 1
  pub code : (e : Expression) → compile (f e) n d ≡ is ++ (compile e m k ++ emit o j x)
  pub formed : (e : Expression) → form_of edition (f e) ≡ form
  pub other : (e : Expression) (v : List ℕ) → f e ≡ variable v → ⊥

module _ (edition : ℕ) (s : List ℕ) where
  module _ (t first : Token) (n d m k : ℕ) (xs ys zs ws : List ℕ) (is : List Emitted) (o : Operation) (j x : ℕ)
      (operand : Operand) (form : ℕ)
      (f : Expression → Expression) where
    -- the right operand is read from `first` on; what is before it is written
    pub suffix-read : Ends edition n d is m k o j operand form f → Wrote edition s xs n is ys → n + length is ≡ m
        → t.stop ≤ first.stop → m + 8 * t.start < n + 8 * first.start → Fits (opcode o) j x 0
        → Denotes edition s operand x
        → (R : Result Expression) (r q : Read) → Reading edition s first m k ys R r zs
        → Suffixed r (opcode o) j x form zs q ws
        → Reading edition s t n d xs (map f R) q ws
    unfolding Reading
    suffix-read ends a at after bound fits says (ok e u) r q h g =
        let z : r.outcome ≡ 0 = ap (λ (y : Read). y.outcome) h.answer in
        let c : r.count ≡ m + size e = ap (λ (y : Read). y.count) h.answer in
        let stored : ws ≡ sets zs (m + size e) (word (opcode o) j x ∷ []) =
        g.wrote z ∙ ap (λ (i : ℕ). sets zs i (word (opcode o) j x ∷ [])) c in
        let count : m + size e + 1 ≡ n + size (f e) = sym (ends.sized e) in
        record {
          answer =
              g.answer
              ∙ (ap (λ (y : Read). suffixed y form) h.answer
              ∙ (ap (λ (i : ℕ). success u i form) count
              ∙ ap (λ (i : ℕ). success u (n + size (f e)) i) (sym (ends.formed e))));
          good = good-earlier edition s t.stop first.stop u after h.good;
          bound = omega (arith, bound, h.bound, ends.sized e);
          wrote =
              rw (ends.code e)
              (wrote_after edition s xs ys ws n m is (compile e m k ++ emit o j operand) at a
              (wrote_after edition s ys zs ws m (m + size e) (compile e m k) (emit o j operand)
              (omega (arith, size-length e m k)) h.wrote
              (wrote_one edition s zs (m + size e) o j x operand ws fits says stored)));
          named = λ v y. absurd (ends.other e v y);
        }
    suffix-read ends a at after bound fits says (no b p) r q h g =
        (g.answer ∙ (ap (λ (y : Read). suffixed y form) h.0 ∙ rw (ne_eqb b 0 h.1)), h.1)

  -- an answer that is no refusal, with an instruction more
  pub suffixed-ok : (r q : Read) (op j x form : ℕ) (xs ys : List ℕ) → r.outcome ≡ 0 → q
      ≡ answered r.token (r.count + 1) form
      → ys ≡ sets xs r.count (word op j x ∷ []) → Suffixed r op j x form xs q ys
  suffixed-ok r q op j x form xs ys z a w = record { answer = a ∙ sym (rw (eq-eqb r.outcome 0 z)); wrote = λ y. w }

  pub suffixed-no : (r : Read) (op j x form : ℕ) (xs : List ℕ) → (r.outcome ≡ 0 → ⊥) → Suffixed r op j x form xs r xs
  suffixed-no r op j x form xs z = record { answer = sym (rw (ne_eqb r.outcome 0 z)); wrote = λ y. absurd (z y) }

  -- ---- "parentheses"

  pub paren-read : (t first : Token) (n d : ℕ) (xs ys : List ℕ) → t.stop ≤ first.stop → t.start < first.start
      → (R : Result Expression) (r q : Read) → Reading edition s first n d xs R r ys → q ≡ closed_of edition s r
      → Reading edition s t n d xs (map parentheses (closed edition s R)) q ys
  unfolding Reading closed size compile form_of
  paren-read t first n d xs ys after bound (ok e u) r q h k =
      go (is close_paren u) refl (k ∙ closed_of_lem edition s r u (n + size e) (form_of edition e) h.answer)
    where
      go : (b : Bool) → is close_paren u ≡ b
          → q ≡ cond b (success (token_after edition s u) (n + size e) 0) (refusal (refused_by u) u.start)
          → Reading edition s t n d xs (map parentheses (cond b (ok e (token_after edition s u)) (refuse u))) q ys
      go true c z =
          let g = good-after edition s first.stop u h.good in
          record {
            answer = z;
            good = good-earlier edition s t.stop u.stop (token_after edition s u)
                (omega (arith, after, h.good.after, h.good.ordered)) g;
            bound = omega (arith, bound, h.bound, g.after, h.good.ordered);
            wrote = h.wrote;
            named = λ v y. absurd (never e v y);
          }
      go false c z = refused-token edition s t n d xs (refuse u) q ys u refl z
  paren-read t first n d xs ys after bound (no b p) r q h k = (k ∙ closed-refused edition s r b p h.0 h.1, h.1)
