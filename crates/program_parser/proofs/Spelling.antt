-- Words that stand for instructions: one after another, and stored.
use mathlib.Core.Path.{◌≡◌, refl, ap, ◌∙◌}
use mathlib.Core.List.{List, [], ◌∷◌, ◌++◌}
use Prim.Native.Nat.{ℕ, suc, ◌+◌}
use native.Mathlib.Omega.{arith}
use lib.ListN.{length}
use lib.Seq.{sets}
use Rattle.image_format.specs.Codes.{Operation}
use Rattle.program_code.specs.Emitted.{Operand, Emitted, emit, opcode}
use Rattle.program_words.specs.Words.{Fits, word}
use Rattle.program_emitter.proofs.Packed.{op-packed, depth-packed, first-packed, second-packed}
use Rattle.program_emitter.proofs.Stores.{sets-after, sets-before}
use Rattle.program_parser.specs.Meaning.{Denotes, Means, Spell, none_left, one_more, Wrote}

module _ (edition : ℕ) (s : List ℕ) where
  pub spell-length : {ws : List ℕ} {is : List Emitted} → Spell edition s ws is → length ws ≡ length is
  spell-length none_left = refl
  spell-length (one_more m l) = ap suc (spell-length l)

  pub spell-append : {vs ws : List ℕ} {is js : List Emitted} → Spell edition s vs is → Spell edition s ws js
      → Spell edition s (vs ++ ws) (is ++ js)
  spell-append none_left m = m
  spell-append (one_more h l) m = one_more h (spell-append l m)

  -- the word of an instruction stands for it
  pub word-means : (o : Operation) (d x : ℕ) (operand : Operand) → Fits (opcode o) d x 0 → Denotes edition s operand x
      → Means edition s (word (opcode o) d x) (record { operation = o; depth = d; operand = operand })
  word-means o d x operand f h =
      record {
        op = op-packed (opcode o) d x 0 f;
        depth = depth-packed (opcode o) d x 0 f;
        first = rw (first-packed (opcode o) d x 0 f) h;
        second = second-packed (opcode o) d x 0 f;
      }

  pub word-spells : (o : Operation) (d x : ℕ) (operand : Operand) → Fits (opcode o) d x 0 → Denotes edition s operand x
      → Spell edition s (word (opcode o) d x ∷ []) (emit o d operand)
  word-spells o d x operand f h = one_more (word-means o d x operand f h) none_left

  -- a run that goes on where another ends
  pub wrote_after : (xs ys zs : List ℕ) (n m : ℕ) (is js : List Emitted) → n + length is ≡ m
      → Wrote edition s xs n is ys
      → Wrote edition s ys m js zs → Wrote edition s xs n (is ++ js) zs
  wrote_after xs ys zs n m is js e a b =
      let at : n + length a.words ≡ m = omega (arith, e, spell-length a.spelled) in
      record {
        words = a.words ++ b.words;
        stored =
            b.stored ∙ (ap (λ (l : List ℕ). sets l m b.words) a.stored
            ∙ sets-after a.words b.words xs n m at);
        spelled = spell-append a.spelled b.spelled;
      }

  -- a run that is stored before one that begins where it ends: a jump whose target was not known
  pub wrote-before : (xs ys zs : List ℕ) (j m : ℕ) (is js : List Emitted) → j + length is ≡ m
      → Wrote edition s xs m js ys
      → Wrote edition s ys j is zs → Wrote edition s xs j (is ++ js) zs
  wrote-before xs ys zs j m is js e b a =
      let at : j + length a.words ≡ m = omega (arith, e, spell-length a.spelled) in
      record {
        words = a.words ++ b.words;
        stored =
            a.stored ∙ (ap (λ (l : List ℕ). sets l j a.words) b.stored
            ∙ sets-before a.words b.words xs m j at);
        spelled = spell-append a.spelled b.spelled;
      }
