-- The stores of statements: jumps are stored once their target is known.
use mathlib.Core.Path.{◌≡◌, refl}
use mathlib.Core.List.{List, [], ◌∷◌, ◌++◌}
use Prim.Native.Nat.{ℕ, ◌+◌, ◌<◌}
use native.Mathlib.Omega.{arith}
use lib.Seq.{sets}
use Rattle.image_format.specs.Codes.{
  Operation,
  drop,
  field,
  constant,
  print as print-action,
  section_end,
  jump,
  jump-if-false,
  next as next-flow,
  exit as exit-flow,
  flow,
  action,
}
use Rattle.image_format.specs.Image.{number}
use Rattle.program_tree.specs.Tree.{Expression, Statement, expression, if, if-else, while, next, exit}
use Rattle.program_code.specs.Emitted.{
  Operand,
  nothing,
  the_constant,
  the_instruction,
  the_count,
  Emitted,
  emit,
  act,
  opcode,
  action_code,
  flow_code,
}
use Rattle.program_code.specs.Expressions.{size, compile}
use Rattle.program_code.specs.Sections.{compile_print, size_of, compile_statement}
use Rattle.program_code.proofs.Flows.{size-length}
use Rattle.program_code.proofs.Sections.{statement-length}
use Rattle.program_words.specs.Words.{Fits, word, print_words}
use Rattle.program_parser.specs.Meaning.{Denotes, none_left, one_more, Wrote}
use Rattle.program_parser.proofs.Spelling.{word-means, word-spells, wrote_after, wrote-before}

module _ (edition : ℕ) (s : List ℕ) where
  -- ---- one instruction

  one-wrote : (o : Operation) (d x : ℕ) (operand : Operand) (xs ys : List ℕ) (n : ℕ) → Fits (opcode o) d x 0
      → Denotes edition s operand x
      → ys ≡ sets xs n (word (opcode o) d x ∷ []) → Wrote edition s xs n (emit o d operand) ys
  one-wrote o d x operand xs ys n f h e =
      record { words = word (opcode o) d x ∷ []; stored = e; spelled = word-spells edition s o d x operand f h }

  module _ (xs ys : List ℕ) (n : ℕ) where
    pub jump-wrote : (x : ℕ) → x < 1048576 → ys ≡ sets xs n (word 27 0 x ∷ [])
        → Wrote edition s xs n (emit (flow jump) 0 (the_instruction x)) ys
    unfolding opcode flow_code Denotes
    jump-wrote x h e =
        one-wrote (flow jump) 0 x (the_instruction x) xs ys n
        (record { op_fits = omega arith; depth_fits = omega arith; first_fits = h; second_fits = omega arith }) refl e

    pub branch-wrote : (x : ℕ) → x < 1048576 → ys ≡ sets xs n (word 28 1 x ∷ [])
        → Wrote edition s xs n (emit (flow jump-if-false) 1 (the_instruction x)) ys
    unfolding opcode flow_code Denotes
    branch-wrote x h e =
        one-wrote (flow jump-if-false) 1 x (the_instruction x) xs ys n
        (record { op_fits = omega arith; depth_fits = omega arith; first_fits = h; second_fits = omega arith }) refl e

    pub count-wrote : (d : ℕ) → d < 65536 → ys ≡ sets xs n (word 29 d d ∷ [])
        → Wrote edition s xs n (emit (action print-action) d (the_count d)) ys
    unfolding opcode action_code Denotes
    count-wrote d h e =
        one-wrote (action print-action) d d (the_count d) xs ys n
        (record { op_fits = omega arith; depth_fits = h; first_fits = omega arith; second_fits = omega arith }) refl e

    -- an instruction that names nothing
    pub plain-wrote : (o : Operation) (d : ℕ) → opcode o < 256 → d < 65536 → ys ≡ sets xs n (word (opcode o) d 0 ∷ [])
        → Wrote edition s xs n (emit o d nothing) ys
    unfolding Denotes
    plain-wrote o d f h e =
        one-wrote o d 0 nothing xs ys n
        (record { op_fits = f; depth_fits = h; first_fits = omega arith; second_fits = omega arith }) refl e

    pub drop-wrote : ys ≡ sets xs n (word 6 1 0 ∷ []) → Wrote edition s xs n (act drop 1) ys
    unfolding opcode action_code
    drop-wrote e = plain-wrote (action drop) 1 (omega arith) (omega arith) e

    pub next-wrote : ys ≡ sets xs n (word 30 0 0 ∷ []) → Wrote edition s xs n (compile_statement next n) ys
    unfolding opcode flow_code compile_statement
    next-wrote e = plain-wrote (flow next-flow) 0 (omega arith) (omega arith) e

    pub exit-wrote : ys ≡ sets xs n (word 31 0 0 ∷ []) → Wrote edition s xs n (compile_statement exit n) ys
    unfolding opcode flow_code compile_statement
    exit-wrote e = plain-wrote (flow exit-flow) 0 (omega arith) (omega arith) e

    pub end-wrote : ys ≡ sets xs n (word 0 0 0 ∷ []) → Wrote edition s xs n (emit (flow section_end) 0 nothing) ys
    unfolding opcode flow_code
    end-wrote e = plain-wrote (flow section_end) 0 (omega arith) (omega arith) e

    -- "Bare `print` prints `$0`."
    pub bare-wrote : ys ≡ sets xs n print_words → Wrote edition s xs n (compile_print [] n) ys
    unfolding opcode action_code compile_print Denotes
    bare-wrote e =
        record {
          words = print_words;
          stored = e;
          spelled =
              one_more (word-means edition s (action constant) 0 8192 (the_constant (number 0))
              (record {
                op_fits = omega arith;
                depth_fits = omega arith;
                first_fits = omega arith;
                second_fits = omega
                    arith;
              }) refl)
              (one_more (word-means edition s (action field) 1 0 nothing
              (record {
                op_fits = omega arith;
                depth_fits = omega arith;
                first_fits = omega arith;
                second_fits = omega
                    arith;
              }) refl)
              (one_more (word-means edition s (action print-action) 1 1 (the_count 1)
              (record {
                op_fits = omega arith;
                depth_fits = omega arith;
                first_fits = omega arith;
                second_fits = omega
                    arith;
              }) refl)
              none_left));
        }

  -- nothing is written
  pub none-wrote : (xs : List ℕ) (n : ℕ) → Wrote edition s xs n [] xs
  none-wrote xs n = record { words = []; stored = refl; spelled = none_left }

  -- ---- the jumps of statements; each section was the one before it

  module _ (n : ℕ) (c : Expression) (ws xs : List ℕ) (condition : Wrote edition s ws n (compile c n 0) xs) where
    -- what follows the condition
    after-condition : (is : List Emitted) (zs : List ℕ) → Wrote edition s xs (n + size c) is zs
        → Wrote edition s ws n (compile c n 0 ++ is) zs
    after-condition is zs w =
        wrote_after edition s ws xs zs n (n + size c) (compile c n 0) is (omega (arith, size-length c n 0)) condition w

    pub drop_code : (ys : List ℕ) → Wrote edition s xs (n + size c) (act drop 1) ys
        → Wrote edition s ws n (compile_statement (expression c) n) ys
    unfolding compile_statement
    drop_code ys w = after-condition (act drop 1) ys w

    module _ (a : Statement) (ys : List ℕ)
        (then-part : Wrote edition s xs (n + size c + 1) (compile_statement a (n + size c + 1)) ys) where
      pub if-code : (zs : List ℕ)
          → Wrote edition s ys (n + size c) (emit (flow jump-if-false) 1 (the_instruction (n + size c + 1 + size_of a)))
          zs
          → Wrote edition s ws n (compile_statement (if c a) n) zs
      unfolding compile_statement
      if-code zs b =
          after-condition _ zs
          (wrote-before edition s xs ys zs (n + size c) (n + size c + 1)
          (emit (flow jump-if-false) 1 (the_instruction (n + size c + 1 + size_of a)))
          (compile_statement a (n + size c + 1)) refl then-part b)

      -- the then-part, and what follows it
      after_then : (is : List Emitted) (zs : List ℕ) → Wrote edition s ys (n + size c + 1 + size_of a) is zs
          → Wrote edition s xs (n + size c + 1) (compile_statement a (n + size c + 1) ++ is) zs
      after_then is zs w =
          wrote_after edition s xs ys zs (n + size c + 1) (n + size c + 1 + size_of a)
          (compile_statement a (n + size c + 1)) is
          (omega (arith, statement-length a (n + size c + 1))) then-part w

      pub while-code : (zs us : List ℕ)
          → Wrote edition s ys (n + size c + 1 + size_of a) (emit (flow jump) 0 (the_instruction n)) zs
          → Wrote edition s zs (n + size c)
          (emit (flow jump-if-false) 1 (the_instruction (n + size c + 1 + size_of a + 1))) us
          → Wrote edition s ws n (compile_statement (while c a) n) us
      unfolding compile_statement
      while-code zs us j b =
          after-condition _ us
          (wrote-before edition s xs zs us (n + size c) (n + size c + 1)
          (emit (flow jump-if-false) 1 (the_instruction (n + size c + 1 + size_of a + 1)))
          (compile_statement a (n + size c + 1) ++ emit (flow jump) 0 (the_instruction n)) refl (after_then _ zs j) b)

      pub if-else-code : (b : Statement) (zs us vs : List ℕ)
          → Wrote edition s ys (n + size c + 1 + size_of a + 1) (compile_statement b (n + size c + 1 + size_of a + 1)) zs
          → Wrote edition s zs (n + size c + 1 + size_of a)
          (emit (flow jump) 0 (the_instruction (n + size c + 1 + size_of a + 1 + size_of b))) us
          → Wrote edition s us (n + size c)
          (emit (flow jump-if-false) 1 (the_instruction (n + size c + 1 + size_of a + 1))) vs
          → Wrote edition s ws n (compile_statement (if-else c a b) n) vs
      unfolding compile_statement
      if-else-code b zs us vs w j k =
          let i : ℕ = n + size c + 1 + size_of a in
          let past : List Emitted = emit (flow jump) 0 (the_instruction (i + 1 + size_of b)) in
          after-condition _ vs
          (wrote-before edition s xs us vs (n + size c) (n + size c + 1)
          (emit (flow jump-if-false) 1 (the_instruction (i + 1)))
          (compile_statement a (n + size c + 1) ++ (past ++ compile_statement b (i + 1))) refl
          (after_then _ us (wrote-before edition s ys zs us i (i + 1) past (compile_statement b (i + 1)) refl w j)) k)
