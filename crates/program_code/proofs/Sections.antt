-- The depths written in the code of a section agree, and each instruction leads inside the section.
use mathlib.Core.Path.{◌≡◌, refl}
use mathlib.Core.List.{List, [], ◌∷◌, ◌++◌}
use mathlib.Core.Option.{Option, some}
use Prim.Native.Nat.{ℕ, suc, ◌+◌}
use native.Mathlib.Omega.{arith}
use lib.ListN.{length, length-append}
use Rattle.image_format.specs.Codes.{field, drop, print as print-action, section_end, jump, jump-if-false, flow, action}
use Rattle.image_format.specs.Image.{number}
use Rattle.semantics.specs.Moves.{Section}
use Rattle.program_tree.specs.Tree.{Expression, Statement, expression, print, if, if-else, while, block, next, exit, empty, sequence, Program}
use Rattle.program_code.specs.Emitted.{nothing, the_instruction, the_count, Emitted, emit, act}
use Rattle.program_code.specs.Expressions.{size, compile}
use Rattle.program_code.specs.Sections.{size_all, compile_all, size_print, compile_print, size_of, compile_statement, parts_of, section_code}
use Rattle.program_code.proofs.Flows.{Stands, Flows, move, stands_at, flows-at, stands-left, stands-right, flows-join, size-length, first, after, flows, constant-flows, unary-flows}

pub all-length : (es : List Expression) (n d : ℕ) → length (compile_all es n d) ≡ size_all es
unfolding compile_all size_all
all-length [] n d = refl
all-length (e ∷ l) n d = omega (arith, length-append (compile e n d) (compile_all l (n + size e) (d + 1)), size-length e n d, all-length l (n + size e) (d + 1))

print-length : (es : List Expression) (n : ℕ) → length (compile_print es n) ≡ size_print es
unfolding compile_print size_print
print-length [] n = refl
print-length (e ∷ l) n =
    omega (arith, length-append (compile_all (e ∷ l) n 0) (emit (action print-action) (length (e ∷ l)) (the_count (length (e ∷ l)))), all-length (e ∷ l) n 0)

pub statement-length : (a : Statement) (n : ℕ) → length (compile_statement a n) ≡ size_of a
unfolding compile_statement size_of
statement-length (expression e) n = omega (arith, length-append (compile e n 0) (act drop 1), size-length e n 0)
statement-length (print es) n = print-length es n
statement-length (if c a) n =
    go (compile c n 0) (emit (flow jump-if-false) 1 (the_instruction (n + size c + 1 + size_of a))) (compile_statement a (n + size c + 1)) (size-length c n 0) refl (statement-length a (n + size c + 1))
  where
    go : (x u y : List Emitted) → length x ≡ size c → length u ≡ 1 → length y ≡ size_of a → length (x ++ (u ++ y)) ≡ size c + 1 + size_of a
    go x u y ex eu ey = omega (arith, length-append x (u ++ y), length-append u y)
statement-length (if-else c a b) n =
    go (compile c n 0) (emit (flow jump-if-false) 1 (the_instruction (n + size c + 1 + size_of a + 1))) (compile_statement a (n + size c + 1))
    (emit (flow jump) 0 (the_instruction (n + size c + 1 + size_of a + 1 + size_of b))) (compile_statement b (n + size c + 1 + size_of a + 1))
    (size-length c n 0) refl (statement-length a (n + size c + 1)) refl (statement-length b (n + size c + 1 + size_of a + 1))
  where
    go : (x u y v w : List Emitted) → length x ≡ size c → length u ≡ 1 → length y ≡ size_of a → length v ≡ 1 → length w ≡ size_of b
        → length (x ++ (u ++ (y ++ (v ++ w)))) ≡ size c + 1 + size_of a + 1 + size_of b
    go x u y v w ex eu ey ev ew = omega (arith, length-append x (u ++ (y ++ (v ++ w))), length-append u (y ++ (v ++ w)), length-append y (v ++ w), length-append v w)
statement-length (while c a) n =
    go (compile c n 0) (emit (flow jump-if-false) 1 (the_instruction (n + size c + 1 + size_of a + 1))) (compile_statement a (n + size c + 1)) (emit (flow jump) 0 (the_instruction n))
    (size-length c n 0) refl (statement-length a (n + size c + 1)) refl
  where
    go : (x u y v : List Emitted) → length x ≡ size c → length u ≡ 1 → length y ≡ size_of a → length v ≡ 1 → length (x ++ (u ++ (y ++ v))) ≡ size c + 1 + size_of a + 1
    go x u y v ex eu ey ev = omega (arith, length-append x (u ++ (y ++ v)), length-append u (y ++ v), length-append y v)
statement-length (block b) n = statement-length b n
statement-length next n = refl
statement-length exit n = refl
statement-length empty n = refl
statement-length (sequence a b) n =
    omega (arith, length-append (compile_statement a n) (compile_statement b (n + size_of a)), statement-length a n, statement-length b (n + size_of a))

module _ (D : ℕ → Option ℕ) where
  -- code of a known length, and code after it
  stands_after : (x y : List Emitted) (n k : ℕ) → length x ≡ k → Stands D n (x ++ y) → Stands D (n + k) y
  stands_after x y n k e h = stands_at D (n + length x) (n + k) y (omega arith) (stands-right D x y n h)

  joined : (x y : List Emitted) (n k : ℕ) → length x ≡ k → Flows D n x → Flows D (n + k) y → Flows D n (x ++ y)
  joined x y n k e f g = flows-join D x y n f (flows-at D (n + k) (n + length x) y (omega arith) g)

  -- ---- lists

  first-all : (es : List Expression) (n d : ℕ) → Stands D n (compile_all es n d) → D (n + size_all es) ≡ some (d + length es) → D n ≡ some d
  unfolding compile_all size_all
  first-all [] n d h z = move D _ _ _ _ z (omega arith) (omega arith)
  first-all (e ∷ l) n d h z = first D e n d (stands-left D (compile e n d) (compile_all l (n + size e) (d + 1)) n h)

  flows-all : (es : List Expression) (n d : ℕ) → Stands D n (compile_all es n d) → D (n + size_all es) ≡ some (d + length es) → Flows D n (compile_all es n d)
  unfolding compile_all size_all
  flows-all [] n d h z = tt
  flows-all (e ∷ l) n d h z =
      let z2 : D (n + size e + size_all l) ≡ some (d + 1 + length l) = move D _ _ _ _ z (omega arith) (omega arith) in
      after D e n d (compile_all l (n + size e) (d + 1)) (flows D e n d) h (λ s.
      (first-all l (n + size e) (d + 1) s z2, flows-all l (n + size e) (d + 1) s z2))

  first-print : (es : List Expression) (n : ℕ) → Stands D n (compile_print es n) → D n ≡ some 0
  unfolding compile_print size_all compile_all
  first-print [] n h = h.0
  first-print (e ∷ l) n h =
      first D e n 0 (stands-left D (compile e n 0) (compile_all l (n + size e) 1) n (stands-left D (compile_all (e ∷ l) n 0) _ n h))

  flows-print : (es : List Expression) (n : ℕ) → Stands D n (compile_print es n) → D (n + size_print es) ≡ some 0 → Flows D n (compile_print es n)
  unfolding compile_print size_print
  flows-print [] n h z = (
    constant-flows D (number 0) 0 n h.1.0,
    (
      unary-flows D field nothing 0 refl (suc n) h.1.1.0,
      ((omega arith, (move D _ _ _ _ z (omega arith) (omega arith), tt)), tt),
    ),
  )
  flows-print (e ∷ l) n h z =
      let r : List Emitted = emit (action print-action) (length (e ∷ l)) (the_count (length (e ∷ l))) in
      let k : ℕ = size_all (e ∷ l) in
      let s : Stands D (n + k) r = stands_after (compile_all (e ∷ l) n 0) r n k (all-length (e ∷ l) n 0) h in
      joined (compile_all (e ∷ l) n 0) r n k (all-length (e ∷ l) n 0)
      (flows-all (e ∷ l) n 0 (stands-left D (compile_all (e ∷ l) n 0) r n h) (move D _ _ _ _ s.0 refl (omega arith)))
      ((omega arith, (move D _ _ _ _ z (omega arith) (omega arith), tt)), tt)

  -- ---- statements

  -- a statement begins at depth 0, if it ends there
  starts : (a : Statement) (n : ℕ) → Stands D n (compile_statement a n) → D (n + size_of a) ≡ some 0 → D n ≡ some 0
  unfolding compile_statement size_of
  starts (expression e) n h z = first D e n 0 (stands-left D (compile e n 0) _ n h)
  starts (print es) n h z = first-print es n h
  starts (if c a) n h z = first D c n 0 (stands-left D (compile c n 0) _ n h)
  starts (if-else c a b) n h z = first D c n 0 (stands-left D (compile c n 0) _ n h)
  starts (while c a) n h z = first D c n 0 (stands-left D (compile c n 0) _ n h)
  starts (block b) n h z = starts b n h z
  starts next n h z = h.0
  starts exit n h z = h.0
  starts empty n h z = move D _ _ _ _ z (omega arith) refl
  starts (sequence a b) n h z =
      starts a n (stands-left D (compile_statement a n) (compile_statement b (n + size_of a)) n h)
      (starts b (n + size_of a) (stands_after (compile_statement a n) (compile_statement b (n + size_of a)) n (size_of a) (statement-length a n) h) (move D _ _ _ _ z (omega arith) refl))

  pub flows-statement : (a : Statement) (n : ℕ) → Stands D n (compile_statement a n) → D (n + size_of a) ≡ some 0 → Flows D n (compile_statement a n)
  unfolding compile_statement size_of
  flows-statement (expression e) n h z =
      after D e n 0 (act drop 1) (flows D e n 0) h (λ s. (s.0, ((omega arith, (move D _ _ _ _ z (omega arith) (omega arith), tt)), tt)))
  flows-statement (print es) n h z = flows-print es n h z
  flows-statement (if c a) n h z =
      let j : ℕ = n + size c in
      let x : List Emitted = compile_statement a (j + 1) in
      after D c n 0 (emit (flow jump-if-false) 1 (the_instruction (j + 1 + size_of a)) ++ x) (flows D c n 0) h (λ s.
      let sx : Stands D (j + 1) x = stands_at D (suc j) (j + 1) x (omega arith) s.1 in
      let z2 : D (j + 1 + size_of a) ≡ some 0 = move D _ _ _ _ z (omega arith) refl in (
        s.0,
        (
          (omega arith, (move D _ _ _ _ (starts a (j + 1) sx z2) (omega arith) (omega arith), (move D _ _ _ _ z2 refl (omega arith), tt))),
          flows-at D (j + 1) (suc j) x (omega arith) (flows-statement a (j + 1) sx z2),
        ),
      ))
  flows-statement (if-else c a b) n h z =
      let j : ℕ = n + size c in
      let m : ℕ = j + 1 + size_of a in
      let x : List Emitted = compile_statement a (j + 1) in
      let y : List Emitted = compile_statement b (m + 1) in
      let r : List Emitted = emit (flow jump) 0 (the_instruction (m + 1 + size_of b)) ++ y in
      after D c n 0 (emit (flow jump-if-false) 1 (the_instruction (m + 1)) ++ (x ++ r)) (flows D c n 0) h (λ s.
      let sx : Stands D (j + 1) (x ++ r) = stands_at D (suc j) (j + 1) (x ++ r) (omega arith) s.1 in
      let sr : Stands D m r = stands_after x r (j + 1) (size_of a) (statement-length a (j + 1)) sx in
      let sy : Stands D (m + 1) y = stands_at D (suc m) (m + 1) y (omega arith) sr.1 in
      let z2 : D (m + 1 + size_of b) ≡ some 0 = move D _ _ _ _ z (omega arith) refl in
      let sl : Stands D (j + 1) x = stands-left D x r (j + 1) sx in
      let fr : Flows D m r = ((omega arith, (move D _ _ _ _ z2 refl (omega arith), tt)), flows-at D (m + 1) (suc m) y (omega arith) (flows-statement b (m + 1) sy z2)) in (
        s.0,
        (
          (omega arith, (move D _ _ _ _ (starts a (j + 1) sl sr.0) (omega arith) (omega arith), (move D _ _ _ _ (starts b (m + 1) sy z2) refl (omega arith), tt))),
          flows-at D (j + 1) (suc j) (x ++ r) (omega arith) (joined x r (j + 1) (size_of a) (statement-length a (j + 1)) (flows-statement a (j + 1) sl sr.0) fr),
        ),
      ))
  flows-statement (while c a) n h z =
      let j : ℕ = n + size c in
      let m : ℕ = j + 1 + size_of a in
      let x : List Emitted = compile_statement a (j + 1) in
      let r : List Emitted = emit (flow jump) 0 (the_instruction n) in
      after D c n 0 (emit (flow jump-if-false) 1 (the_instruction (m + 1)) ++ (x ++ r)) (flows D c n 0) h (λ s.
      let sx : Stands D (j + 1) (x ++ r) = stands_at D (suc j) (j + 1) (x ++ r) (omega arith) s.1 in
      let sr : Stands D m r = stands_after x r (j + 1) (size_of a) (statement-length a (j + 1)) sx in
      let sl : Stands D (j + 1) x = stands-left D x r (j + 1) sx in
      let top : D n ≡ some 0 = first D c n 0 (stands-left D (compile c n 0) _ n h) in
      let fr : Flows D m r = ((omega arith, (move D _ _ _ _ top refl (omega arith), tt)), tt) in (
        s.0,
        (
          (omega arith, (move D _ _ _ _ (starts a (j + 1) sl sr.0) (omega arith) (omega arith), (move D _ _ _ _ z (omega arith) (omega arith), tt))),
          flows-at D (j + 1) (suc j) (x ++ r) (omega arith) (joined x r (j + 1) (size_of a) (statement-length a (j + 1)) (flows-statement a (j + 1) sl sr.0) fr),
        ),
      ))
  flows-statement (block b) n h z = flows-statement b n h z
  flows-statement next n h z = ((omega arith, tt), tt)
  flows-statement exit n h z = ((omega arith, tt), tt)
  flows-statement empty n h z = tt
  flows-statement (sequence a b) n h z =
      let x : List Emitted = compile_statement a n in
      let y : List Emitted = compile_statement b (n + size_of a) in
      let sy : Stands D (n + size_of a) y = stands_after x y n (size_of a) (statement-length a n) h in
      let z2 : D (n + size_of a + size_of b) ≡ some 0 = move D _ _ _ _ z (omega arith) refl in
      joined x y n (size_of a) (statement-length a n)
      (flows-statement a n (stands-left D x y n h) (starts b (n + size_of a) sy z2)) (flows-statement b (n + size_of a) sy z2)

  -- a whole section, from instruction 0 on
  pub flows-section : (s : Section) (p : Program) → Stands D 0 (section_code s p) → (D 0 ≡ some 0) × (Flows D 0 (section_code s p))
  unfolding section_code
  flows-section s p h =
      let a : Statement = parts_of s p in
      let r : List Emitted = emit (flow section_end) 0 nothing in
      let sr : Stands D (0 + size_of a) r = stands_after (compile_statement a 0) r 0 (size_of a) (statement-length a 0) h in (
        starts a 0 (stands-left D (compile_statement a 0) r 0 h) sr.0,
        joined (compile_statement a 0) r 0 (size_of a) (statement-length a 0) (flows-statement a 0 (stands-left D (compile_statement a 0) r 0 h) sr.0) ((omega arith, tt), tt),
      )
