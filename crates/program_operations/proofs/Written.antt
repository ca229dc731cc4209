-- Runs of words: one instruction, a run in two parts, and a run over the instruction that it replaces.
use mathlib.Core.Path.{◌≡◌, refl, sym, ap, ◌∙◌}
use mathlib.Core.List.{List, [], ◌∷◌, ◌++◌}
use Prim.Native.Nat.{ℕ, suc, ◌+◌, ◌<◌}
use native.Mathlib.Omega.{arith}
use lib.ListN.{length}
use lib.Seq.{sets, set-set}
use Rattle.image_format.specs.Codes.{Operation}
use Rattle.program_tokens.specs.Tokens.{Token}
use Rattle.program_tree.specs.Tree.{Expression, constant, ere, variable, parentheses, length-of, index, substr, match, field, prefix, arithmetic, join, compare, matches, no_match, both, either, assign, assign_field}
use Rattle.program_reader.specs.Read.{Read as Result, ok, no}
use Rattle.program_code.specs.Emitted.{Operand, Emitted, emit, opcode}
use Rattle.program_code.specs.Expressions.{size, compile}
use Rattle.program_code.proofs.Flows.{size-length}
use Rattle.program_words.specs.Words.{Fits, word}
use Rattle.program_emitter.proofs.Stores.{sets-append}
use Rattle.program_parser.specs.declared.read.Read.{Read}
use Rattle.program_parser.specs.Meaning.{Denotes, Spell, none_left, one_more, Wrote}
use Rattle.program_parser.specs.Reading.{Reading}
use Rattle.program_parser.proofs.Spelling.{spell-length, word-spells}

-- every expression has an instruction
pub some_size : (e : Expression) → 0 < size e
unfolding size
some_size (constant c) = omega arith
some_size (ere r) = omega arith
some_size (variable v) = omega arith
some_size (parentheses e) = some_size e
some_size (length-of e) = omega arith
some_size (index a b) = omega arith
some_size (substr a b c) = omega arith
some_size (match e r) = omega arith
some_size (field e) = omega arith
some_size (prefix o e) = omega arith
some_size (arithmetic o a b) = omega arith
some_size (join a b) = omega arith
some_size (compare o a b) = omega arith
some_size (matches e r) = omega arith
some_size (no_match e r) = omega arith
some_size (both a b) = omega arith
some_size (either a b) = omega arith
some_size (assign v e) = omega arith
some_size (assign_field i e) = omega arith

-- a run of stores over one store, where it begins
over : (us vs xs : List ℕ) (m : ℕ) → length us ≡ 1 → 0 < length vs → sets (sets xs m us) m vs ≡ sets xs m vs
over [] vs xs m e h = absurd (omega (arith, e))
over (u ∷ v ∷ us) vs xs m e h = absurd (omega (arith, e))
over (u ∷ []) [] xs m e h = absurd (omega (arith, h))
over (u ∷ []) (v ∷ vs) xs m e h = ap (λ (l : List ℕ). sets l (suc m) vs) (set-set xs m u v)

module _ (edition : ℕ) (s : List ℕ) where
  pub wrote_nothing : (xs : List ℕ) (n : ℕ) → Wrote edition s xs n [] xs
  wrote_nothing xs n = record { words = []; stored = refl; spelled = none_left }

  pub wrote_one : (xs : List ℕ) (n : ℕ) (o : Operation) (d x : ℕ) (operand : Operand) (ys : List ℕ)
      → Fits (opcode o) d x 0
      → Denotes edition s operand x → ys ≡ sets xs n (word (opcode o) d x ∷ [])
      → Wrote edition s xs n (emit o d operand) ys
  wrote_one xs n o d x operand ys f h e =
      record { words = word (opcode o) d x ∷ []; stored = e; spelled = word-spells edition s o d x operand f h }

  -- ---- a run in two parts

  record Parted (is js : List Emitted) (ws : List ℕ) : Type 0 where
    pub front : List ℕ
    pub rest : List ℕ
    pub whole : ws ≡ front ++ rest
    pub first : Spell edition s front is
    pub second : Spell edition s rest js

  parted : (is js : List Emitted) {ws : List ℕ} → Spell edition s ws (is ++ js) → Parted is js ws
  parted [] js {ws} h = record { front = []; rest = ws; whole = refl; first = none_left; second = h }
  parted (i ∷ is) js (one_more {w = w} m l) =
      let p = parted is js l in
      record {
        front = w ∷ p.front;
        rest = p.rest;
        whole = ap (λ (v : List ℕ). w ∷ v) p.whole;
        first = one_more m p.first;
        second = p.second;
      }

  pub record Halves (xs : List ℕ) (n : ℕ) (is : List Emitted) (m : ℕ) (js : List Emitted) (ys : List ℕ) : Type 0 where
    pub between : List ℕ
    pub before : Wrote edition s xs n is between
    pub after : Wrote edition s between m js ys

  pub halved : (xs ys : List ℕ) (n m : ℕ) (is js : List Emitted) → n + length is ≡ m
      → Wrote edition s xs n (is ++ js) ys
      → Halves xs n is m js ys
  halved xs ys n m is js e h =
      let p = parted is js h.spelled in
      let at : n + length p.front ≡ m = omega (arith, e, spell-length edition s p.first) in
      record {
        between = sets xs n p.front;
        before = record { words = p.front; stored = refl; spelled = p.first };
        after =
            record {
              words = p.rest;
              stored =
                  h.stored
                  ∙ (ap (sets xs n) p.whole
                  ∙ (sets-append p.front p.rest xs n ∙ ap (λ (k : ℕ). sets (sets xs n p.front) k p.rest)
                  at));
              spelled = p.second;
            };
      }

  -- ---- a run over the instruction that it replaces

  wrote-over : (xs ys zs : List ℕ) (m : ℕ) (i : Emitted) (js : List Emitted) → 0 < length js
      → Wrote edition s xs m (i ∷ []) ys
      → Wrote edition s ys m js zs → Wrote edition s xs m js zs
  wrote-over xs ys zs m i js h a b =
      record {
        words = b.words;
        stored =
            b.stored
            ∙ (ap (λ (l : List ℕ). sets l m b.words) a.stored
            ∙ over a.words b.words xs m (spell-length edition s a.spelled)
            (omega (arith, h, spell-length edition s b.spelled)));
        spelled = b.spelled;
      }

  pub reading-over : (t : Token) (m d : ℕ) (xs ys zs : List ℕ) (i : Emitted) (R : Result Expression) (r : Read)
      → Wrote edition s xs m (i ∷ []) ys → Reading edition s t m d ys R r zs → Reading edition s t m d xs R r zs
  unfolding Reading
  reading-over t m d xs ys zs i (ok e u) r a h =
      record {
        answer = h.answer;
        good = h.good;
        bound = h.bound;
        wrote = wrote-over xs ys zs m i (compile e m d) (omega (arith, some_size e, size-length e m d)) a h.wrote;
        named = h.named;
      }
  reading-over t m d xs ys zs i (no o p) r a h = h

  -- where something is read, there is an instruction
  pub reading-some : (t : Token) (n d : ℕ) (xs ys : List ℕ) (R : Result Expression) (r : Read)
      → Reading edition s t n d xs R r ys
      → r.outcome ≡ 0 → 0 < r.count
  unfolding Reading
  reading-some t n d xs ys (ok e u) r h z =
      let c : r.count ≡ n + size e = ap (λ (x : Read). x.count) h.answer in
      omega (arith, c, some_size e)
  reading-some t n d xs ys (no o p) r h z = absurd (h.1 (sym (ap (λ (x : Read). x.outcome) h.0) ∙ z))
