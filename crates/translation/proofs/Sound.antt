-- The instructions of a fine tree: what each names.
use mathlib.Core.Path.{◌≡◌, refl}
use mathlib.Core.Bool.{Bool, true, false}
use mathlib.Core.List.{List, [], ◌∷◌, ◌++◌}
use mathlib.Core.Option.{Option, some, none}
use Prim.Native.Nat.{ℕ, ◌+◌, ◌≤◌}
use native.Mathlib.Omega.{arith}
use lib.ListN.{length}
use Rattle.image_format.specs.Codes.{Operation, action, flow, Action, constant, get, set, field, set-field, drop, arithmetic, negate, to_number, negation, compare, join, matches, match, length-of, index, substr, print, section_end, jump, jump-if-false, next, exit}
use Rattle.image_format.specs.Image.{Constant, number}
use Rattle.semantics.specs.Moves.{Section, begin as begin-section, main as main-section, end as end-section}
use Rattle.semantics.proofs.Tables.{row_of}
use Rattle.program_tokens.specs.Kinds.{fixed_variable, same}
use Rattle.program_tokens.specs.Words.{word_kind}
use Rattle.program_tree.specs.Tree.{length-of as length-call, compare as compare-of, Prefix, negation as not_sign, to_number as plus_sign, negate as minus_sign, Expression, constant as constant_of, ere, variable, parentheses, index as index-call, substr as substr-call, match as match-call, field as field_of, prefix, arithmetic as arithmetic-of, join as join-of, matches as matches-ere, no_match, both, either, assign, assign_field, Statement, expression, print as print-of, if, if-else, while, block, next as next_of, exit as exit-of, empty, sequence, Item, begin, end, main, Program}
use Rattle.program_code.specs.Emitted.{Operand, nothing, the_constant, the_variable, the_ere, the_instruction, the_count, Emitted, emit, act}
use Rattle.program_code.specs.Expressions.{prefix_action, size, numeral, double_not, compile}
use Rattle.program_code.specs.Sections.{compile_all, compile_print, size_of, compile_statement, guarded, part_of, parts_of}
use Rattle.program_numbering.specs.Names.{names_in, names_in_all, names_in_statement, names_in_pattern, names_in_item, names_in_program}
use Rattle.program_numbering.proofs.Numbers.{Each, each_left, each_right, each-join}
use Rattle.program_reader.proofs.Fine.{Fine, AllFineIn, FineStatement, FineItem, FineProgram}
use Rattle.program_reader.proofs.Tokens.{Spelled, IsName, Said, after-true, operand-true}

-- which rules of its own an operation has: print, set, end, next, exit
abbrev pub action_tag : Action → ℕ
action_tag print = 1
action_tag set = 2
action_tag constant = 0
action_tag get = 0
action_tag field = 0
action_tag set-field = 0
action_tag drop = 0
action_tag negate = 0
action_tag to_number = 0
action_tag negation = 0
action_tag join = 0
action_tag matches = 0
action_tag match = 0
action_tag length-of = 0
action_tag index = 0
action_tag substr = 0
action_tag (arithmetic o) = 0
action_tag (compare o) = 0

abbrev pub tag : Operation → ℕ
tag (action a) = action_tag a
tag (flow section_end) = 3
tag (flow jump) = 0
tag (flow jump-if-false) = 0
tag (flow next) = 4
tag (flow exit) = 5

abbrev pub emitted : Operation → ℕ → Operand → Emitted
emitted o d x = record { operation = o; depth = d; operand = x }

module _ (edition : ℕ) (s : List ℕ) (Q : List ℕ → Type 0) where
  pub data Sound (in_main : Bool) : Emitted → Type 0 where
    plain : (a : Action) (d : ℕ) → (row_of (action a)).immediates ≡ [] → action_tag a ≡ 0 → Sound in_main (emitted (action a) d nothing)
    constant-sound : (c : Constant) (d : ℕ) → Said edition s c → Sound in_main (emitted (action constant) d (the_constant c))
    get-sound : (v : List ℕ) (d : ℕ) → IsName edition s v → Q v → Sound in_main (emitted (action get) d (the_variable v))
    set-sound : (v : List ℕ) (d : ℕ) → IsName edition s v → Q v → same (word_kind edition v) fixed_variable ≡ false → Sound in_main (emitted (action set) d (the_variable v))
    matches-sound : (r : List ℕ) (d : ℕ) → Spelled edition s r → Sound in_main (emitted (action matches) d (the_ere r))
    match-sound : (r : List ℕ) (d : ℕ) → Spelled edition s r → Sound in_main (emitted (action match) d (the_ere r))
    jump-sound : (m d : ℕ) → Sound in_main (emitted (flow jump) d (the_instruction m))
    branch-sound : (m d : ℕ) → Sound in_main (emitted (flow jump-if-false) d (the_instruction m))
    print-sound : (m d : ℕ) → 1 ≤ m → Sound in_main (emitted (action print) d (the_count m))
    next-sound : in_main ≡ true → Sound in_main (emitted (flow next) 0 nothing)
    exit-sound : Sound in_main (emitted (flow exit) 0 nothing)

  abbrev FineE : Expression → Type 0
  FineE e = Fine edition s (Spelled edition s) (IsName edition s) (Said edition s) e

  abbrev FineS : Bool → Statement → Type 0
  FineS in_main a = FineStatement edition s (Spelled edition s) (IsName edition s) (Said edition s) (after-true edition s) (operand-true edition s) in_main a

  module _ (in_main : Bool) where
    abbrev pub AllSound : List Emitted → Type 0
    AllSound l = Each (Sound in_main) l

    plus : (x y : List Emitted) → AllSound x → AllSound y → AllSound (x ++ y)
    plus x y f g = each-join (Sound in_main) x y f g

    one : (i : Emitted) → Sound in_main i → AllSound (i ∷ [])
    one i h = (h, tt)

    un : (e : Expression) (n d : ℕ) (i : Emitted) → AllSound (compile e n d) → Sound in_main i → AllSound (compile e n d ++ (i ∷ []))
    un e n d i f g = plus (compile e n d) (i ∷ []) f (g, tt)

    bin : (a b : Expression) (n d : ℕ) (i : Emitted) → AllSound (compile a n d) → AllSound (compile b (n + size a) (d + 1)) → Sound in_main i
        → AllSound (compile a n d ++ (compile b (n + size a) (d + 1) ++ (i ∷ [])))
    bin a b n d i f g h = plus (compile a n d) _ f (un b (n + size a) (d + 1) i g h)

    prefix-sound : (o : Prefix) (d : ℕ) → Sound in_main (emitted (action (prefix_action o)) d nothing)
    unfolding prefix_action
    prefix-sound not_sign d = plain negation d refl refl
    prefix-sound plus_sign d = plain to_number d refl refl
    prefix-sound minus_sign d = plain negate d refl refl

    -- names of two parts
    lq : (a b : List (List ℕ)) → Each Q (a ++ b) → Each Q a
    lq a b h = each_left Q a b h

    rq : (a b : List (List ℕ)) → Each Q (a ++ b) → Each Q b
    rq a b h = each_right Q a b h

    sound : (e : Expression) (n d : ℕ) → FineE e → Each Q (names_in e) → AllSound (compile e n d)
    unfolding compile names_in
    sound (constant_of c) n d f q = (constant-sound c d f, tt)
    sound (ere r) n d f q = (constant-sound (number 0) d (omega arith), (plain field (d + 1) refl refl, (matches-sound r (d + 1) f, tt)))
    sound (variable v) n d f q = (get-sound v d f q.0, tt)
    sound (parentheses e) n d f q = sound e n d f q
    sound (length-call e) n d f q = un e n d _ (sound e n d f q) (plain length-of (d + 1) refl refl)
    sound (index-call a b) n d f q =
        bin a b n d _ (sound a n d f.0 (lq (names_in a) (names_in b) q)) (sound b (n + size a) (d + 1) f.1 (rq (names_in a) (names_in b) q)) (plain index (d + 2) refl refl)
    sound (substr-call a b c) n d f q =
        let qr : Each Q (names_in b ++ names_in c) = rq (names_in a) (names_in b ++ names_in c) q in
        plus (compile a n d) (compile b (n + size a) (d + 1) ++ (compile c (n + size a + size b) (d + 2) ++ act substr (d + 3))) (sound a n d f.0 (lq (names_in a) (names_in b ++ names_in c) q))
        (plus (compile b (n + size a) (d + 1)) (compile c (n + size a + size b) (d + 2) ++ act substr (d + 3)) (sound b (n + size a) (d + 1) f.1.0 (lq (names_in b) (names_in c) qr))
        (un c (n + size a + size b) (d + 2) _ (sound c (n + size a + size b) (d + 2) f.1.1 (rq (names_in b) (names_in c) qr)) (plain substr (d + 3) refl refl)))
    sound (match-call e r) n d f q = un e n d _ (sound e n d f.0 q) (match-sound r (d + 1) f.1)
    sound (field_of e) n d f q = un e n d _ (sound e n d f q) (plain field (d + 1) refl refl)
    sound (prefix o e) n d f q = un e n d _ (sound e n d f q) (prefix-sound o (d + 1))
    sound (arithmetic-of o a b) n d f q =
        bin a b n d _ (sound a n d f.0 (lq (names_in a) (names_in b) q)) (sound b (n + size a) (d + 1) f.1 (rq (names_in a) (names_in b) q)) (plain (arithmetic o) (d + 2) refl refl)
    sound (join-of a b) n d f q =
        bin a b n d _ (sound a n d f.0 (lq (names_in a) (names_in b) q)) (sound b (n + size a) (d + 1) f.1 (rq (names_in a) (names_in b) q)) (plain join (d + 2) refl refl)
    sound (compare-of o a b) n d f q =
        bin a b n d _ (sound a n d f.0 (lq (names_in a) (names_in b) q)) (sound b (n + size a) (d + 1) f.1 (rq (names_in a) (names_in b) q)) (plain (compare o) (d + 2) refl refl)
    sound (matches-ere e r) n d f q = un e n d _ (sound e n d f.0 q) (matches-sound r (d + 1) f.1)
    sound (no_match e r) n d f q =
        plus (compile e n d) (emit (action matches) (d + 1) (the_ere r) ++ act negation (d + 1)) (sound e n d f.0 q) (matches-sound r (d + 1) f.1, (plain negation (d + 1) refl refl, tt))
    sound (both a b) n d f q =
        let m : ℕ = n + size a + 1 + size b in
        let tail : List Emitted = double_not (d + 1) ++ (emit (flow jump) (d + 1) (the_instruction (m + 4)) ++ numeral 0 d) in
        let code-b : List Emitted = compile b (n + size a + 1) d in
        plus (compile a n d) (emit (flow jump-if-false) (d + 1) (the_instruction (m + 3)) ++ (code-b ++ tail)) (sound a n d f.0 (lq (names_in a) (names_in b) q)) (
          branch-sound (m + 3) (d + 1),
          plus code-b tail (sound b (n + size a + 1) d f.1 (rq (names_in a) (names_in b) q))
              (plain negation (d + 1) refl refl, (plain negation (d + 1) refl refl, (jump-sound (m + 4) (d + 1), (constant-sound (number 0) d (omega arith), tt)))),
        )
    sound (either a b) n d f q =
        let j : ℕ = n + size a + 3 in
        let code-b : List Emitted = compile b j d in
        plus (compile a n d) (emit (flow jump-if-false) (d + 1) (the_instruction j) ++ (numeral 1 d ++ (emit (flow jump) (d + 1) (the_instruction (j + size b + 2)) ++ (code-b ++ double_not (d + 1)))))
        (sound a n d f.0 (lq (names_in a) (names_in b) q)) (
          branch-sound j (d + 1),
          (
            constant-sound (number 1) d (omega arith),
            (
              jump-sound (j + size b + 2) (d + 1),
              plus code-b (double_not (d + 1)) (sound b j d f.1 (rq (names_in a) (names_in b) q)) (plain negation (d + 1) refl refl, (plain negation (d + 1) refl refl, tt)),
            ),
          ),
        )
    sound (assign v e) n d f q = un e n d _ (sound e n d f.1.1 q.1) (set-sound v (d + 1) f.0 q.0 f.1.0)
    sound (assign_field a b) n d f q =
        bin a b n d _ (sound a n d f.0 (lq (names_in a) (names_in b) q)) (sound b (n + size a) (d + 1) f.1 (rq (names_in a) (names_in b) q)) (plain set-field (d + 2) refl refl)

    abbrev FineAll : List Expression → Type 0
    FineAll es = AllFineIn edition s (Spelled edition s) (IsName edition s) (Said edition s) (after-true edition s) (operand-true edition s) es

    sound-all : (es : List Expression) (n d : ℕ) → FineAll es → Each Q (names_in_all es) → AllSound (compile_all es n d)
    unfolding compile_all names_in_all
    sound-all [] n d f q = tt
    sound-all (e ∷ l) n d f q =
        plus (compile e n d) (compile_all l (n + size e) (d + 1)) (sound e n d f.0 (lq (names_in e) (names_in_all l) q)) (sound-all l (n + size e) (d + 1) f.1 (rq (names_in e) (names_in_all l) q))

    sound-print : (es : List Expression) (n : ℕ) → FineAll es → Each Q (names_in_all es) → AllSound (compile_print es n)
    unfolding compile_print
    sound-print [] n f q = (constant-sound (number 0) 0 (omega arith), (plain field 1 refl refl, (print-sound 1 1 (omega arith), tt)))
    sound-print (e ∷ l) n f q = plus (compile_all (e ∷ l) n 0) (emit (action print) (length (e ∷ l)) (the_count (length (e ∷ l)))) (sound-all (e ∷ l) n 0 f q) (print-sound (length (e ∷ l)) (length (e ∷ l)) (omega arith), tt)

    pub sound-statement : (a : Statement) (n : ℕ) → FineS in_main a → Each Q (names_in_statement a) → AllSound (compile_statement a n)
    unfolding compile_statement names_in_statement
    sound-statement (expression e) n f q = un e n 0 _ (sound e n 0 f q) (plain drop 1 refl refl)
    sound-statement (print-of es) n f q = sound-print es n f q
    sound-statement (if c a) n f q =
        let m : ℕ = n + size c + 1 + size_of a in
        plus (compile c n 0) (emit (flow jump-if-false) 1 (the_instruction m) ++ compile_statement a (n + size c + 1)) (sound c n 0 f.0 (lq (names_in c) (names_in_statement a) q))
        (branch-sound m 1, sound-statement a (n + size c + 1) f.1 (rq (names_in c) (names_in_statement a) q))
    sound-statement (if-else c a b) n f q =
        let m : ℕ = n + size c + 1 + size_of a in
        let x : List Emitted = compile_statement a (n + size c + 1) in
        let y : List Emitted = compile_statement b (m + 1) in
        let qr : Each Q (names_in_statement a ++ names_in_statement b) = rq (names_in c) (names_in_statement a ++ names_in_statement b) q in
        plus (compile c n 0) (emit (flow jump-if-false) 1 (the_instruction (m + 1)) ++ (x ++ (emit (flow jump) 0 (the_instruction (m + 1 + size_of b)) ++ y)))
        (sound c n 0 f.0 (lq (names_in c) (names_in_statement a ++ names_in_statement b) q)) (
          branch-sound (m + 1) 1,
          plus x (emit (flow jump) 0 (the_instruction (m + 1 + size_of b)) ++ y) (sound-statement a (n + size c + 1) f.1.0 (lq (names_in_statement a) (names_in_statement b) qr))
              (jump-sound (m + 1 + size_of b) 0, sound-statement b (m + 1) f.1.1 (rq (names_in_statement a) (names_in_statement b) qr)),
        )
    sound-statement (while c a) n f q =
        let m : ℕ = n + size c + 1 + size_of a in
        let x : List Emitted = compile_statement a (n + size c + 1) in
        plus (compile c n 0) (emit (flow jump-if-false) 1 (the_instruction (m + 1)) ++ (x ++ emit (flow jump) 0 (the_instruction n))) (sound c n 0 f.0 (lq (names_in c) (names_in_statement a) q))
        (branch-sound (m + 1) 1, plus x (emit (flow jump) 0 (the_instruction n)) (sound-statement a (n + size c + 1) f.1 (rq (names_in c) (names_in_statement a) q)) (jump-sound n 0, tt))
    sound-statement (block b) n f q = sound-statement b n f q
    sound-statement next_of n f q = (next-sound f, tt)
    sound-statement exit-of n f q = (exit-sound, tt)
    sound-statement empty n f q = tt
    sound-statement (sequence a b) n f q =
        plus (compile_statement a n) (compile_statement b (n + size_of a)) (sound-statement a n f.0 (lq (names_in_statement a) (names_in_statement b) q))
        (sound-statement b (n + size_of a) f.1 (rq (names_in_statement a) (names_in_statement b) q))

  -- ---- what items put into a section

  abbrev pub is_main : Section → Bool
  is_main begin-section = false
  is_main main-section = true
  is_main end-section = false

  abbrev pub FineP : Program → Type 0
  FineP p = FineProgram edition s (Spelled edition s) (IsName edition s) (Said edition s) (after-true edition s) (operand-true edition s) p

  abbrev FineI : Item → Type 0
  FineI i = FineItem edition s (Spelled edition s) (IsName edition s) (Said edition s) (after-true edition s) (operand-true edition s) i

  guarded-fine : (e : Option Expression) (a : Statement) → FineI (main e a) → FineS true (guarded e a)
  unfolding guarded
  guarded-fine none a f = f.1
  guarded-fine (some e) a f = f

  guarded-names : (e : Option Expression) (a : Statement) → Each Q (names_in_pattern e ++ names_in_statement a) → Each Q (names_in_statement (guarded e a))
  unfolding guarded names_in_pattern names_in_statement
  guarded-names none a q = q
  guarded-names (some e) a q = q

  part-fine : (z : Section) (i : Item) → FineI i → FineS (is_main z) (part_of z i)
  unfolding part_of
  part-fine begin-section (begin a) f = f
  part-fine begin-section (end a) f = tt
  part-fine begin-section (main e a) f = tt
  part-fine main-section (begin a) f = tt
  part-fine main-section (end a) f = tt
  part-fine main-section (main e a) f = guarded-fine e a f
  part-fine end-section (begin a) f = tt
  part-fine end-section (end a) f = f
  part-fine end-section (main e a) f = tt

  part-names : (z : Section) (i : Item) → Each Q (names_in_item i) → Each Q (names_in_statement (part_of z i))
  unfolding part_of names_in_item names_in_statement
  part-names begin-section (begin a) q = q
  part-names begin-section (end a) q = tt
  part-names begin-section (main e a) q = tt
  part-names main-section (begin a) q = tt
  part-names main-section (end a) q = tt
  part-names main-section (main e a) q = guarded-names e a q
  part-names end-section (begin a) q = tt
  part-names end-section (end a) q = q
  part-names end-section (main e a) q = tt

  parts-fine : (z : Section) (p : Program) → FineP p → FineS (is_main z) (parts_of z p)
  unfolding parts_of
  parts-fine z [] f = tt
  parts-fine z (i ∷ l) f = (part-fine z i f.0, parts-fine z l f.1)

  parts-names : (z : Section) (p : Program) → Each Q (names_in_program p) → Each Q (names_in_statement (parts_of z p))
  unfolding parts_of names_in_program names_in_statement
  parts-names z [] q = tt
  parts-names z (i ∷ l) q =
      each-join Q (names_in_statement (part_of z i)) (names_in_statement (parts_of z l)) (part-names z i (each_left Q (names_in_item i) (names_in_program l) q))
      (parts-names z l (each_right Q (names_in_item i) (names_in_program l) q))

  -- all instructions of a section but its last
  pub sound-parts : (z : Section) (p : Program) → FineP p → Each Q (names_in_program p) → AllSound (is_main z) (compile_statement (parts_of z p) 0)
  sound-parts z p f q = sound-statement (is_main z) (parts_of z p) 0 (parts-fine z p f) (parts-names z p q)
