-- The depths written in the code of a tree agree: where an instruction leads, the depth is as it leaves it, and it has
-- enough operands.
use mathlib.Core.Path.{◌≡◌, refl, ap, subst}
use mathlib.Core.List.{List, [], ◌∷◌, ◌++◌}
use mathlib.Core.Option.{Option, some}
use Prim.Native.Nat.{ℕ, suc, ◌+◌, ◌-◌, ◌≤◌}
use native.Mathlib.Omega.{arith}
use lib.ListN.{length, length-append}
use Rattle.image_format.specs.Codes.{Code, code, Operation, action, flow, Action, constant, get, set, field, set-field, arithmetic, negation, compare, join, matches, match, length-of, index, substr, section_end, jump, jump-if-false, next, exit}
use Rattle.image_format.specs.Image.{Constant, number}
use Rattle.semantics.proofs.Tables.{row_of}
use Rattle.program_tree.specs.Tree.{length-of as length-call, compare as compare-of, Prefix, negation as not_sign, to_number as plus_sign, negate as minus_sign, Expression, constant as constant_of, ere, variable, parentheses, index as index-call, substr as substr-call, match as match-call, field as field_of, prefix, arithmetic as arithmetic-of, join as join-of, matches as matches-ere, no_match, both, either, assign, assign_field}
use Rattle.program_code.specs.Emitted.{Operand, nothing, the_constant, the_variable, the_ere, the_instruction, the_count, Emitted, emit, act}
use Rattle.program_code.specs.Expressions.{prefix_action, size, numeral, double_not, compile}

-- the numbers that stand for themselves
abbrev pub itself : Operand → List ℕ
itself nothing = []
itself (the_constant c) = []
itself (the_variable v) = []
itself (the_ere r) = []
itself (the_instruction n) = n ∷ []
itself (the_count n) = n ∷ []

abbrev pub taken : Emitted → ℕ
taken i = (row_of i.operation).pops (itself i.operand)

abbrev pub left : Emitted → ℕ
left i = (row_of i.operation).pushes (itself i.operand)

-- where instruction n leads
abbrev pub leads_to : Operation → ℕ → List ℕ → List ℕ
leads_to (action a) n ns = suc n ∷ []
leads_to (flow section_end) n ns = []
leads_to (flow jump) n ns = ns
leads_to (flow jump-if-false) n ns = suc n ∷ ns
leads_to (flow next) n ns = []
leads_to (flow exit) n ns = []

-- D is the depth written at each instruction of the section
module _ (D : ℕ → Option ℕ) where
  abbrev pub Leads : ℕ → List ℕ → Type 0
  Leads d [] = Unit
  Leads d (m ∷ l) = (D m ≡ some d) × (Leads d l)

  abbrev pub FlowsAt : ℕ → Emitted → Type 0
  FlowsAt n i = (taken i ≤ i.depth) × (Leads (i.depth - taken i + left i) (leads_to i.operation n (itself i.operand)))

  -- the code is at instruction n
  abbrev pub Stands : ℕ → List Emitted → Type 0
  Stands n [] = Unit
  Stands n (i ∷ l) = (D n ≡ some i.depth) × (Stands (suc n) l)

  abbrev pub Flows : ℕ → List Emitted → Type 0
  Flows n [] = Unit
  Flows n (i ∷ l) = (FlowsAt n i) × (Flows (suc n) l)

  pub move : (x y a b : ℕ) → D x ≡ some a → x ≡ y → a ≡ b → D y ≡ some b
  move x y a b h p q = subst (λ (v : ℕ). D y ≡ some v) q (subst (λ (v : ℕ). D v ≡ some a) p h)

  pub stands_at : (m n : ℕ) (l : List Emitted) → m ≡ n → Stands m l → Stands n l
  stands_at m n l e h = subst (λ (v : ℕ). Stands v l) e h

  pub flows-at : (m n : ℕ) (l : List Emitted) → m ≡ n → Flows m l → Flows n l
  flows-at m n l e h = subst (λ (v : ℕ). Flows v l) e h

  pub stands-left : (a b : List Emitted) (n : ℕ) → Stands n (a ++ b) → Stands n a
  stands-left [] b n h = tt
  stands-left (i ∷ a) b n h = (h.0, stands-left a b (suc n) h.1)

  pub stands-right : (a b : List Emitted) (n : ℕ) → Stands n (a ++ b) → Stands (n + length a) b
  stands-right [] b n h = stands_at n (n + 0) b (omega arith) h
  stands-right (i ∷ a) b n h = stands_at (suc n + length a) (n + suc (length a)) b (omega arith) (stands-right a b (suc n) h.1)

  pub flows-join : (a b : List Emitted) (n : ℕ) → Flows n a → Flows (n + length a) b → Flows n (a ++ b)
  flows-join [] b n f g = flows-at (n + 0) n b (omega arith) g
  flows-join (i ∷ a) b n f g = (f.0, flows-join a b (suc n) f.1 (flows-at (n + suc (length a)) (suc n + length a) b (omega arith) g))

-- how many instructions an expression's code has
pub size-length : (e : Expression) (n d : ℕ) → length (compile e n d) ≡ size e
unfolding compile size
size-length (constant_of c) n d = refl
size-length (ere r) n d = refl
size-length (variable v) n d = refl
size-length (parentheses e) n d = size-length e n d
size-length (length-call e) n d = omega (arith, length-append (compile e n d) (act length-of (d + 1)), size-length e n d)
size-length (index-call a b) n d =
    omega (arith, length-append (compile a n d) (compile b (n + size a) (d + 1) ++ act index (d + 2)), length-append (compile b (n + size a) (d + 1)) (act index (d + 2)), size-length a n d, size-length b (n + size a) (d + 1))
size-length (substr-call a b c) n d =
    omega (arith, length-append (compile a n d) (compile b (n + size a) (d + 1) ++ (compile c (n + size a + size b) (d + 2) ++ act substr (d + 3))), length-append (compile b (n + size a) (d + 1)) (compile c (n + size a + size b) (d + 2) ++ act substr (d + 3)), length-append (compile c (n + size a + size b) (d + 2)) (act substr (d + 3)), size-length a n d, size-length b (n + size a) (d + 1), size-length c (n + size a + size b) (d + 2))
size-length (match-call e r) n d = omega (arith, length-append (compile e n d) (emit (action match) (d + 1) (the_ere r)), size-length e n d)
size-length (field_of e) n d = omega (arith, length-append (compile e n d) (act field (d + 1)), size-length e n d)
size-length (prefix o e) n d = omega (arith, length-append (compile e n d) (act (prefix_action o) (d + 1)), size-length e n d)
size-length (arithmetic-of o a b) n d =
    omega (arith, length-append (compile a n d) (compile b (n + size a) (d + 1) ++ act (arithmetic o) (d + 2)), length-append (compile b (n + size a) (d + 1)) (act (arithmetic o) (d + 2)), size-length a n d, size-length b (n + size a) (d + 1))
size-length (join-of a b) n d =
    omega (arith, length-append (compile a n d) (compile b (n + size a) (d + 1) ++ act join (d + 2)), length-append (compile b (n + size a) (d + 1)) (act join (d + 2)), size-length a n d, size-length b (n + size a) (d + 1))
size-length (compare-of o a b) n d =
    omega (arith, length-append (compile a n d) (compile b (n + size a) (d + 1) ++ act (compare o) (d + 2)), length-append (compile b (n + size a) (d + 1)) (act (compare o) (d + 2)), size-length a n d, size-length b (n + size a) (d + 1))
size-length (matches-ere e r) n d = omega (arith, length-append (compile e n d) (emit (action matches) (d + 1) (the_ere r)), size-length e n d)
size-length (no_match e r) n d = omega (arith, length-append (compile e n d) (emit (action matches) (d + 1) (the_ere r) ++ act negation (d + 1)), size-length e n d)
size-length (both a b) n d =
    go (compile a n d) (compile b (n + size a + 1) d) (emit (flow jump-if-false) (d + 1) (the_instruction (n + size a + 1 + size b + 3)))
    (double_not (d + 1) ++ (emit (flow jump) (d + 1) (the_instruction (n + size a + 1 + size b + 4)) ++ numeral 0 d)) (size-length a n d) (size-length b (n + size a + 1) d) refl refl
  where
    go : (x y u v : List Emitted) → length x ≡ size a → length y ≡ size b → length u ≡ 1 → length v ≡ 4 → length (x ++ (u ++ (y ++ v))) ≡ size a + size b + 5
    go x y u v ex ey eu ev = omega (arith, length-append x (u ++ (y ++ v)), length-append u (y ++ v), length-append y v)
size-length (either a b) n d =
    go (compile a n d) (compile b (n + size a + 3) d) (emit (flow jump-if-false) (d + 1) (the_instruction (n + size a + 3)))
    (numeral 1 d) (emit (flow jump) (d + 1) (the_instruction (n + size a + 3 + size b + 2))) (double_not (d + 1)) (size-length a n d) (size-length b (n + size a + 3) d) refl refl refl refl
  where
    go : (x y u v w z : List Emitted) → length x ≡ size a → length y ≡ size b → length u ≡ 1 → length v ≡ 1 → length w ≡ 1 → length z ≡ 2 → length (x ++ (u ++ (v ++ (w ++ (y ++ z))))) ≡ size a + size b + 5
    go x y u v w z ex ey eu ev ew ez = omega (arith, length-append x (u ++ (v ++ (w ++ (y ++ z)))), length-append u (v ++ (w ++ (y ++ z))), length-append v (w ++ (y ++ z)), length-append w (y ++ z), length-append y z)
size-length (assign v e) n d = omega (arith, length-append (compile e n d) (emit (action set) (d + 1) (the_variable v)), size-length e n d)
size-length (assign_field a b) n d =
    omega (arith, length-append (compile a n d) (compile b (n + size a) (d + 1) ++ act set-field (d + 2)), length-append (compile b (n + size a) (d + 1)) (act set-field (d + 2)), size-length a n d, size-length b (n + size a) (d + 1))

module _ (D : ℕ → Option ℕ) where
  -- the first instruction is at the depth that the code is made for
  pub first : (e : Expression) (n d : ℕ) → Stands D n (compile e n d) → D n ≡ some d
  unfolding compile
  first (constant_of c) n d h = h.0
  first (ere r) n d h = h.0
  first (variable v) n d h = h.0
  first (parentheses e) n d h = first e n d h
  first (length-call e) n d h = first e n d (stands-left D (compile e n d) _ n h)
  first (index-call a b) n d h = first a n d (stands-left D (compile a n d) _ n h)
  first (substr-call a b c) n d h = first a n d (stands-left D (compile a n d) _ n h)
  first (match-call e r) n d h = first e n d (stands-left D (compile e n d) _ n h)
  first (field_of e) n d h = first e n d (stands-left D (compile e n d) _ n h)
  first (prefix o e) n d h = first e n d (stands-left D (compile e n d) _ n h)
  first (arithmetic-of o a b) n d h = first a n d (stands-left D (compile a n d) _ n h)
  first (join-of a b) n d h = first a n d (stands-left D (compile a n d) _ n h)
  first (compare-of o a b) n d h = first a n d (stands-left D (compile a n d) _ n h)
  first (matches-ere e r) n d h = first e n d (stands-left D (compile e n d) _ n h)
  first (no_match e r) n d h = first e n d (stands-left D (compile e n d) _ n h)
  first (both a b) n d h = first a n d (stands-left D (compile a n d) _ n h)
  first (either a b) n d h = first a n d (stands-left D (compile a n d) _ n h)
  first (assign v e) n d h = first e n d (stands-left D (compile e n d) _ n h)
  first (assign_field a b) n d h = first a n d (stands-left D (compile a n d) _ n h)

  -- what is to be shown of an expression: its code flows, if the instruction after it is at a depth one more
  abbrev Fine : Expression → ℕ → ℕ → Type 0
  Fine e n d = Stands D n (compile e n d) → D (n + size e) ≡ some (d + 1) → Flows D n (compile e n d)

  -- an expression, and code after it that begins at its depth
  pub after : (e : Expression) (n d : ℕ) (r : List Emitted) → Fine e n d → Stands D n (compile e n d ++ r)
      → (Stands D (n + size e) r → (D (n + size e) ≡ some (d + 1)) × (Flows D (n + size e) r)) → Flows D n (compile e n d ++ r)
  after e n d r ih h k =
      let s : Stands D (n + size e) r = stands_at D (n + length (compile e n d)) (n + size e) r (omega (arith, size-length e n d)) (stands-right D (compile e n d) r n h) in
      flows-join D (compile e n d) r n (ih (stands-left D (compile e n d) r n h) (k s).0)
      (flows-at D (n + size e) (n + length (compile e n d)) r (omega (arith, size-length e n d)) (k s).1)

  -- one instruction after an expression, that takes and leaves one
  unary : (e : Expression) (n d : ℕ) (i : Emitted) → i.depth ≡ d + 1 → ((m : ℕ) → D (suc m) ≡ some (d + 1) → FlowsAt D m i) → Fine e n d
      → Stands D n (compile e n d ++ (i ∷ [])) → D (n + (size e + 1)) ≡ some (d + 1) → Flows D n (compile e n d ++ (i ∷ []))
  unary e n d i at f ih h z =
      after e n d (i ∷ []) ih h (λ s. (move D _ _ _ _ s.0 refl at, (f (n + size e) (move D _ _ _ _ z (omega arith) refl), tt)))

  -- one instruction after two expressions
  binary : (a b : Expression) (n d : ℕ) (i : Emitted) → i.depth ≡ d + 2 → ((m : ℕ) → D (suc m) ≡ some (d + 1) → FlowsAt D m i) → Fine a n d → Fine b (n + size a) (d + 1)
      → Stands D n (compile a n d ++ (compile b (n + size a) (d + 1) ++ (i ∷ []))) → D (n + (size a + size b + 1)) ≡ some (d + 1)
      → Flows D n (compile a n d ++ (compile b (n + size a) (d + 1) ++ (i ∷ [])))
  binary a b n d i at f iha ihb h z =
      after a n d _ iha h (λ s. (
        first b (n + size a) (d + 1) (stands-left D (compile b (n + size a) (d + 1)) (i ∷ []) (n + size a) s),
        after b (n + size a) (d + 1) (i ∷ []) ihb s (λ u.
            (move D _ _ _ _ u.0 refl (omega (arith, at)), (f (n + size a + size b) (move D _ _ _ _ z (omega arith) refl), tt))),
      ))

  -- an instruction that takes one and leaves one, or takes two and leaves one
  pub unary-flows : (a : Action) (x : Operand) (d : ℕ) → row_of (action a) ≡ code (action a) 1 1 (row_of (action a)).immediates → (m : ℕ) → D (suc m) ≡ some (d + 1)
      → FlowsAt D m (record { operation = action a; depth = d + 1; operand = x })
  unary-flows a x d e m h =
      let t : (row_of (action a)).pops (itself x) ≡ 1 = ap (λ (c : Code). c.pops (itself x)) e in
      let l : (row_of (action a)).pushes (itself x) ≡ 1 = ap (λ (c : Code). c.pushes (itself x)) e in
      (omega arith, (move D _ _ _ _ h refl (omega arith), tt))

  binary-flows : (a : Action) (d : ℕ) → row_of (action a) ≡ code (action a) 2 1 [] → (m : ℕ) → D (suc m) ≡ some (d + 1)
      → FlowsAt D m (record { operation = action a; depth = d + 2; operand = nothing })
  binary-flows a d e m h =
      let t : (row_of (action a)).pops [] ≡ 2 = ap (λ (c : Code). c.pops []) e in
      let l : (row_of (action a)).pushes [] ≡ 1 = ap (λ (c : Code). c.pushes []) e in
      (omega arith, (move D _ _ _ _ h refl (omega arith), tt))

  prefix-row : (o : Prefix) → row_of (action (prefix_action o)) ≡ code (action (prefix_action o)) 1 1 (row_of (action (prefix_action o))).immediates
  unfolding prefix_action
  prefix-row not_sign = refl
  prefix-row plus_sign = refl
  prefix-row minus_sign = refl

  -- a constant, and the code after it
  pub constant-flows : (c : Constant) (d m : ℕ) → D (suc m) ≡ some (d + 1) → FlowsAt D m (record { operation = action constant; depth = d; operand = the_constant c })
  constant-flows c d m h = (omega arith, (move D _ _ _ _ h refl (omega arith), tt))

  get-flows : (v : List ℕ) (d m : ℕ) → D (suc m) ≡ some (d + 1) → FlowsAt D m (record { operation = action get; depth = d; operand = the_variable v })
  get-flows v d m h = (omega arith, (move D _ _ _ _ h refl (omega arith), tt))

  -- "`a && b`"
  both-flows : (a b : Expression) (n d : ℕ) → Fine a n d → Fine b (n + size a + 1) d
      → Stands D n (compile (both a b) n d) → D (n + size (both a b)) ≡ some (d + 1) → Flows D n (compile (both a b) n d)
  unfolding compile size
  both-flows a b n d iha ihb h z =
      let j : ℕ = n + size a in
      let m : ℕ = n + size a + 1 + size b in
      let tail : List Emitted = double_not (d + 1) ++ (emit (flow jump) (d + 1) (the_instruction (m + 4)) ++ numeral 0 d) in
      let code-b : List Emitted = compile b (j + 1) d in
      after a n d (emit (flow jump-if-false) (d + 1) (the_instruction (m + 3)) ++ (code-b ++ tail)) iha h (λ s.
      let sb : Stands D (j + 1) (code-b ++ tail) = stands_at D (suc j) (j + 1) (code-b ++ tail) (omega arith) s.1 in
      let e : j + 1 + length code-b ≡ m = omega (arith, size-length b (j + 1) d) in
      let st : Stands D m tail = stands_at D (j + 1 + length code-b) m tail e (stands-right D code-b tail (j + 1) sb) in
      let ft : Flows D m tail = (
        unary-flows negation nothing d refl m st.1.0,
        (
          unary-flows negation nothing d refl (suc m) st.1.1.0,
          (
            (omega arith, (move D _ _ _ _ z (omega arith) (omega arith), tt)),
            (constant-flows (number 0) d _ (move D _ _ _ _ z (omega arith) refl), tt),
          ),
        ),
      ) in
      let fb : Flows D (j + 1) (code-b ++ tail) = after b (j + 1) d tail ihb sb (λ u. (st.0, ft)) in (
        s.0,
        (
          (
            omega arith,
            (
              move D _ _ _ _ (first b (j + 1) d (stands-left D code-b tail (j + 1) sb)) (omega arith) (omega arith),
              (move D _ _ _ _ st.1.1.1.0 (omega arith) (omega arith), tt),
            ),
          ),
          flows-at D (j + 1) (suc j) (code-b ++ tail) (omega arith) fb,
        ),
      ))

  -- "`a || b`"
  either-flows : (a b : Expression) (n d : ℕ) → Fine a n d → Fine b (n + size a + 3) d
      → Stands D n (compile (either a b) n d) → D (n + size (either a b)) ≡ some (d + 1) → Flows D n (compile (either a b) n d)
  unfolding compile size
  either-flows a b n d iha ihb h z =
      let j : ℕ = n + size a in
      let m : ℕ = n + size a + 3 + size b in
      let tail : List Emitted = double_not (d + 1) in
      let code-b : List Emitted = compile b (j + 3) d in
      after a n d (emit (flow jump-if-false) (d + 1) (the_instruction (j + 3)) ++ (numeral 1 d ++ (emit (flow jump) (d + 1) (the_instruction (m + 2)) ++ (code-b ++ tail)))) iha h (λ s.
      let sb : Stands D (j + 3) (code-b ++ tail) = stands_at D (suc (suc (suc j))) (j + 3) (code-b ++ tail) (omega arith) s.1.1.1 in
      let e : j + 3 + length code-b ≡ m = omega (arith, size-length b (j + 3) d) in
      let st : Stands D m tail = stands_at D (j + 3 + length code-b) m tail e (stands-right D code-b tail (j + 3) sb) in
      let ft : Flows D m tail =
      (unary-flows negation nothing d refl m st.1.0, (unary-flows negation nothing d refl (suc m) (move D _ _ _ _ z (omega arith) refl), tt)) in
      let fb : Flows D (j + 3) (code-b ++ tail) = after b (j + 3) d tail ihb sb (λ u. (st.0, ft)) in (
        s.0,
        (
          (
            omega arith,
            (
              move D _ _ _ _ s.1.0 refl (omega arith),
              (move D _ _ _ _ (first b (j + 3) d (stands-left D code-b tail (j + 3) sb)) refl (omega arith), tt),
            ),
          ),
          (
            constant-flows (number 1) d (suc j) s.1.1.0,
            (
              (omega arith, (move D _ _ _ _ z (omega arith) (omega arith), tt)),
              flows-at D (j + 3) (suc (suc (suc j))) (code-b ++ tail) (omega arith) fb,
            ),
          ),
        ),
      ))

  -- the code of every expression flows
  pub flows : (e : Expression) (n d : ℕ) → Stands D n (compile e n d) → D (n + size e) ≡ some (d + 1) → Flows D n (compile e n d)
  unfolding compile size
  flows (constant_of c) n d h z = (constant-flows c d n (move D _ _ _ _ z (omega arith) refl), tt)
  flows (ere r) n d h z = (
    constant-flows (number 0) d n h.1.0,
    (
      unary-flows field nothing d refl (suc n) h.1.1.0,
      (unary-flows matches (the_ere r) d refl (suc (suc n)) (move D _ _ _ _ z (omega arith) refl), tt),
    ),
  )
  flows (variable v) n d h z = (get-flows v d n (move D _ _ _ _ z (omega arith) refl), tt)
  flows (parentheses e) n d h z = flows e n d h z
  flows (length-call e) n d h z = unary e n d _ refl (unary-flows length-of nothing d refl) (flows e n d) h z
  flows (index-call a b) n d h z = binary a b n d _ refl (binary-flows index d refl) (flows a n d) (flows b (n + size a) (d + 1)) h z
  flows (substr-call a b c) n d h z =
      let last : List Emitted = act substr (d + 3) in
      let code-c : List Emitted = compile c (n + size a + size b) (d + 2) in
      let code-b : List Emitted = compile b (n + size a) (d + 1) in
      after a n d (code-b ++ (code-c ++ last)) (flows a n d) h (λ s. (
        first b (n + size a) (d + 1) (stands-left D code-b (code-c ++ last) (n + size a) s),
        after b (n + size a) (d + 1) (code-c ++ last) (flows b (n + size a) (d + 1)) s (λ u. (
          move D _ _ _ _ (first c (n + size a + size b) (d + 2) (stands-left D code-c last (n + size a + size b) u)) refl (omega arith),
          after c (n + size a + size b) (d + 2) last (flows c (n + size a + size b) (d + 2)) u (λ w.
              (move D _ _ _ _ w.0 refl (omega arith), ((omega arith, (move D _ _ _ _ z (omega arith) (omega arith), tt)), tt))),
        )),
      ))
  flows (match-call e r) n d h z = unary e n d _ refl (unary-flows match (the_ere r) d refl) (flows e n d) h z
  flows (field_of e) n d h z = unary e n d _ refl (unary-flows field nothing d refl) (flows e n d) h z
  flows (prefix o e) n d h z = unary e n d _ refl (unary-flows (prefix_action o) nothing d (prefix-row o)) (flows e n d) h z
  flows (arithmetic-of o a b) n d h z = binary a b n d _ refl (binary-flows (arithmetic o) d refl) (flows a n d) (flows b (n + size a) (d + 1)) h z
  flows (join-of a b) n d h z = binary a b n d _ refl (binary-flows join d refl) (flows a n d) (flows b (n + size a) (d + 1)) h z
  flows (compare-of o a b) n d h z = binary a b n d _ refl (binary-flows (compare o) d refl) (flows a n d) (flows b (n + size a) (d + 1)) h z
  flows (matches-ere e r) n d h z = unary e n d _ refl (unary-flows matches (the_ere r) d refl) (flows e n d) h z
  flows (no_match e r) n d h z =
      after e n d (emit (action matches) (d + 1) (the_ere r) ++ act negation (d + 1)) (flows e n d) h (λ s. (
        s.0,
        (
          unary-flows matches (the_ere r) d refl (n + size e) s.1.0,
          (unary-flows negation nothing d refl (suc (n + size e)) (move D _ _ _ _ z (omega arith) refl), tt),
        ),
      ))
  flows (both a b) n d h z = both-flows a b n d (flows a n d) (flows b (n + size a + 1) d) h z
  flows (either a b) n d h z = either-flows a b n d (flows a n d) (flows b (n + size a + 3) d) h z
  flows (assign v e) n d h z = unary e n d _ refl (unary-flows set (the_variable v) d refl) (flows e n d) h z
  flows (assign_field a b) n d h z = binary a b n d _ refl (binary-flows set-field d refl) (flows a n d) (flows b (n + size a) (d + 1)) h z
