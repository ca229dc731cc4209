-- `=` after what was read.
use mathlib.Core.Path.{◌≡◌, refl, sym, ap, subst, ◌∙◌}
use mathlib.Core.Bool.{Bool, true, false, not, cond, ◌||◌}
use mathlib.Core.List.{List, []}
use mathlib.Core.Logic.{⊎_elim}
use mathlib.Core.Option.{some, none}
use Prim.Native.Nat.{ℕ, ◌+◌, ◌-◌, ◌≤◌, ◌<◌}
use native.Mathlib.Omega.{arith}
use lib.Dec.{eqb}
use borrow.Author.Tests.{ne_eqb, eqb-true, eqb-false, not-true, not-false}
use Rattle.lists.proofs.Tests.{or_cases, or-false}
use Rattle.image_format.specs.Codes.{action, get, set as set-action, set-field, field as field-action}
use Rattle.program_tokens.specs.Kinds.{fixed_variable, assign as assign-sign, same, rank}
use Rattle.program_tokens.specs.Words.{word_kind}
use Rattle.program_tokens.specs.Tokens.{Token, is}
use Rattle.program_tree.specs.Tree.{Expression, constant, ere, variable, parentheses, length-of, index, substr, match, field, prefix, arithmetic, join, compare, matches, no_match, both, either, assign, assign_field}
use Rattle.program_reader.specs.Read.{Read as Result, ok, map, operand_after}
use Rattle.program_reader.specs.Operators.{expressions}
use Rattle.program_reader.specs.Expressions.{Inner, assign_to, assigned, assignment}
use Rattle.program_code.specs.Emitted.{nothing, the_variable, Emitted, act, action_code, opcode}
use Rattle.program_code.specs.Expressions.{size, compile}
use Rattle.program_code.proofs.Flows.{size-length}
use Rattle.program_lexer.specs.Coded.{coded, decoded}
use Rattle.program_lexer.specs.declared.tokens.Token.{Token as Coded}
use Rattle.program_parser.specs.declared.read.Read.{Read}
use Rattle.program_parser.specs.Meaning.{Denotes, name_at}
use Rattle.program_parser.specs.Reading.{form_of, Good, ReadExpression, Reading}
use Rattle.program_parser.proofs.Codes.{decoded-back}
use Rattle.program_operations.specs.Parts.{Suffixed, ContinuesFrom}
use Rattle.program_operations.proofs.Readings.{good-earlier, after-operand}
use Rattle.program_operations.proofs.Written.{wrote_nothing, halved, reading-over}
use Rattle.program_operations.proofs.Suffixes.{suffix-read}
use Rattle.program_operations.proofs.Primaries.{fits}
use Rattle.program_operations.proofs.Matching.{token-of}

-- what a tree is, as a left side
data Target (edition : ℕ) (e : Expression) : Type 0 where
  no_target : form_of edition e ≡ 0 → assign_to edition e ≡ none → Target edition e
  a-name : (v : List ℕ) → e ≡ variable v → form_of edition e ≡ 1 → assign_to edition e ≡ some (assign v)
      → Target edition e
  a-field : (i : Expression) → e ≡ field i → form_of edition e ≡ 2 → assign_to edition e ≡ some (assign_field i)
      → Target edition e

target : (edition : ℕ) (e : Expression) → Target edition e
unfolding form_of assign_to
target edition (variable v) = go (same (word_kind edition v) fixed_variable) refl
  where
    go : (b : Bool) → same (word_kind edition v) fixed_variable ≡ b → Target edition (variable v)
    go true f = no_target (rw f) (rw f)
    go false f = a-name v refl (rw f) (rw f)
target edition (field i) = a-field i refl refl refl
target edition (constant c) = no_target refl refl
target edition (ere r) = no_target refl refl
target edition (parentheses e) = no_target refl refl
target edition (length-of e) = no_target refl refl
target edition (index a b) = no_target refl refl
target edition (substr a b c) = no_target refl refl
target edition (match e r) = no_target refl refl
target edition (prefix o e) = no_target refl refl
target edition (arithmetic o a b) = no_target refl refl
target edition (join a b) = no_target refl refl
target edition (compare o a b) = no_target refl refl
target edition (matches e r) = no_target refl refl
target edition (no_match e r) = no_target refl refl
target edition (both a b) = no_target refl refl
target edition (either a b) = no_target refl refl
target edition (assign v e) = no_target refl refl
target edition (assign_field i e) = no_target refl refl

assign-no-name : (v : List ℕ) (e : Expression) (u : List ℕ) → assign v e ≡ variable u → ⊥
assign-no-name v e u y = let z : ◌≡◌ {A = ℕ} 0 1 = cc in omega arith

assign-field-no-name : (i e : Expression) (u : List ℕ) → assign_field i e ≡ variable u → ⊥
assign-field-no-name i e u y = let z : ◌≡◌ {A = ℕ} 0 1 = cc in omega arith

module _ (edition : ℕ) (s : List ℕ) (inner : Inner) (printed : Bool) (d : ℕ) (r : Read) (xs : List ℕ) (t : Token)
    (n : ℕ) (ws : List ℕ) (u o : Token)
    (after : Good edition s u.stop o) (begun : u.start < u.stop) (deep : d ≤ 60000) (r2 q : Read)
    (ys zs : List ℕ) where
  -- the right side is written over the one instruction of a name
  name-step : (v : List ℕ) (start m : ℕ) → ReadExpression edition s t n d ws (variable v) u r xs → t.start ≡ start
      → start < 1048576
      → m ≡ r.count - 1 → (R : Result Expression) → Reading edition s o m d xs R r2 ys
      → Suffixed r2 3 (d + 1) start 0 ys q zs
      → Reading edition s t n d ws (map (assign v) R) q zs
  unfolding size compile form_of opcode action_code Denotes
  name-step v start m h at small e R w p =
      let c : r.count ≡ n + 1 = ap (λ (y : Read). y.count) h.answer in
      let same_place : m ≡ n = omega (arith, e, c) in
      let w2 : Reading edition s o n d xs R r2 ys = subst (λ (i : ℕ). Reading edition s o i d xs R r2 ys) same_place w
      in
      suffix-read edition s t o n d n d ws ws ys zs [] (action set-action) (d + 1) start (the_variable v) 0 (assign v)
      (record { sized = λ y. omega arith; code = λ y. refl; formed = λ y. refl; other = assign-no-name v })
      (wrote_nothing edition s ws n) (omega arith) (omega (
        arith,
        h.good.after,
        h.good.ordered,
        after.after,
        after.ordered,
      ))
      (omega (arith, h.bound, begun, after.after))
      (fits 3 (d + 1) start (omega arith) (omega (arith, deep)) small)
      (ap (name_at edition s) (sym at) ∙ h.named v refl) R r2 q
      (reading-over edition s o n d ws xs ys (getting v) R r2 h.wrote w2) p
    where
      getting : List ℕ → Emitted
      getting x = record { operation = action get; depth = d; operand = the_variable x }

  -- it is written over the last instruction of a `$` form
  field_step : (i : Expression) (m : ℕ) → ReadExpression edition s t n d ws (field i) u r xs → m ≡ r.count - 1
      → (R : Result Expression)
      → Reading edition s o m (d + 1) xs R r2 ys → Suffixed r2 5 (d + 2) 0 0 ys q zs
      → Reading edition s t n d ws (map (assign_field i) R) q zs
  unfolding size compile form_of opcode action_code Denotes
  field_step i m h e R w p =
      let c : r.count ≡ n + (size i + 1) = ap (λ (y : Read). y.count) h.answer in
      let same_place : m ≡ n + size i = omega (arith, e, c) in
      let w2 : Reading edition s o (n + size i) (d + 1) xs R r2 ys = subst
      (λ (j : ℕ). Reading edition s o j (d + 1) xs R r2 ys) same_place w in
      let parts = halved edition s ws xs n (n + size i) (compile i n d) (act field-action (d + 1))
      (omega (arith, size-length i n d)) h.wrote in
      suffix-read edition s t o n d (n + size i) (d + 1) ws parts.between ys zs (compile i n d) (action set-field)
      (d + 2) 0 nothing 0 (assign_field i)
      (record { sized = λ y. omega arith; code = λ y. refl; formed = λ y. refl; other = assign-field-no-name i })
      parts.before (omega (arith, size-length i n d)) (omega
      (arith, h.good.after, h.good.ordered, after.after, after.ordered))
      (omega (arith, h.bound, begun, after.after))
      (fits 5 (d + 2) 0 (omega arith) (omega (arith, deep)) (omega arith)) refl R r2 q
      (reading-over edition s o (n + size i) (d + 1) parts.between xs ys taking R r2 parts.after w2) p
    where
      taking : Emitted
      taking = record { operation = action field-action; depth = d + 1; operand = nothing }

module _ (edition : ℕ) (s : List ℕ) (inner : Inner) (printed : Bool) (start d : ℕ) (r : Read) (xs : List ℕ) where
  module _ (t : Token) (n : ℕ) (ws : List ℕ) (e : Expression) (u : Token)
      (h : ReadExpression edition s t n d ws e u r xs) where
    kind : r.token.kind ≡ rank u.kind
    kind = ap (λ (y : Read). y.token.kind) h.answer

    form : r.form ≡ form_of edition e
    form = ap (λ (y : Read). y.form) h.answer

    count : r.count ≡ n + size e
    count = ap (λ (y : Read). y.count) h.answer

    no_sign : eqb r.token.kind 59 ≡ false → assignment edition s inner printed (ok e u) ≡ ok e u
    unfolding assignment rank
    no_sign f = rw (ap (λ (m : ℕ). eqb m 59) (sym kind) ∙ f)

    no-left : r.form ≡ 0 → assignment edition s inner printed (ok e u) ≡ ok e u
    unfolding assignment assigned
    no-left f = go (target edition e) (is assign-sign u)
      where
        go : Target edition e → (b : Bool) → cond b (assigned edition s inner printed e u (assign_to edition e))
            (ok e u) ≡ ok e u
        go (no_target y a) true = rw a
        go (a-name v y x a) true = absurd (omega (arith, f, form, x))
        go (a-field i y x a) true = absurd (omega (arith, f, form, x))
        go p false = refl

  pub assign-none : (not (eqb r.token.kind 59) || eqb r.form 0) ≡ true
      → ContinuesFrom edition s start d (assignment edition s inner printed) r xs r xs
  unfolding ContinuesFrom Reading
  assign-none a t n ws e u at h =
      ⊎_elim (λ f. rw (no_sign t n ws e u h (not-true _ f)) h)
      (λ f. rw (no-left t n ws e u h (eqb-true r.form 0 f)) h)
      (or_cases (not (eqb r.token.kind 59)) (eqb r.form 0) a)

  module _ (a : (not (eqb r.token.kind 59) || eqb r.form 0) ≡ false) (first : Coded)
      (fe : first ≡ coded (operand_after edition s (decoded r.token))) (deep : d ≤ 60000) (small : start < 1048576)
      (r2 q : Read) (ys zs : List ℕ) where
    is-sign : eqb r.token.kind 59 ≡ true
    is-sign = not-false _ (or-false (not (eqb r.token.kind 59)) (eqb r.form 0) a).0

    module _ (t : Token) (n : ℕ) (ws : List ℕ) (e : Expression) (u : Token)
        (h : ReadExpression edition s t n d ws e u r xs) where
      back : decoded r.token ≡ u
      back = decoded-back r.token u (token-of edition s t n d ws e u r xs h)

      operand : decoded first ≡ operand_after edition s u
      operand =
          decoded-back first (operand_after edition s (decoded r.token)) fe ∙ ap (operand_after edition s) back

      with-sign : (f : Expression → Expression) → assign_to edition e ≡ some f
          → assignment edition s inner printed (ok e u) ≡ map f (inner printed expressions u (operand_after edition s u))
      unfolding assignment assigned rank
      with-sign f g = rw (ap (λ (m : ℕ). eqb m 59) (sym (kind t n ws e u h)) ∙ is-sign, g)

      after : Good edition s u.stop (operand_after edition s u)
      after = after-operand edition s u (good-earlier edition s 0 t.stop u (omega arith) h.good)

      begun : u.start < u.stop
      unfolding rank
      begun =
          h.good.longer
          (ne_eqb (rank u.kind) 0 (λ z. omega (arith, z, kind t n ws e u h, eqb-true r.token.kind 59 is-sign)))

    pub assign-name : r.form ≡ 1
        → Reading edition s (decoded first) (r.count - 1) d xs
        (inner printed expressions (decoded r.token) (decoded first)) r2 ys
        → Suffixed r2 3 (d + 1) start 0 ys q zs → ContinuesFrom edition s start d (assignment edition s inner printed)
        r xs q zs
    unfolding ContinuesFrom
    assign-name f w p t n ws e u at h = go (target edition e)
      where
        go : Target edition e → Reading edition s t n d ws (assignment edition s inner printed (ok e u)) q zs
        go (no_target y x) = absurd (omega (arith, f, form t n ws e u h, y))
        go (a-field i y x b) = absurd (omega (arith, f, form t n ws e u h, x))
        go (a-name v y x b) =
            rw (with-sign t n ws e u h (assign v) b, ← (operand t n ws e u h))
            (name-step edition s inner printed d r xs t n ws u (decoded first)
            (subst (λ (o : Token). Good edition s u.stop o) (sym (operand t n ws e u h)) (after t n ws e u h))
            (begun t n ws e u h) deep r2 q ys zs v start (r.count - 1)
            (subst (λ (z : Expression). ReadExpression edition s t n d ws z u r xs) y h) at small refl
            (inner printed expressions u (decoded first))
            (subst (λ (o : Token). Reading edition s (decoded first) (r.count - 1) d xs
            (inner printed expressions o (decoded first)) r2 ys) (back t n ws e u h) w) p)

    pub assign-to-field : (r.form ≡ 1 → ⊥)
        → Reading edition s (decoded first) (r.count - 1) (d + 1) xs
        (inner printed expressions (decoded r.token) (decoded first)) r2 ys
        → Suffixed r2 5 (d + 2) 0 0 ys q zs → ContinuesFrom edition s start d (assignment edition s inner printed) r
        xs q zs
    unfolding ContinuesFrom
    assign-to-field f w p t n ws e u at h = go (target edition e)
      where
        go : Target edition e → Reading edition s t n d ws (assignment edition s inner printed (ok e u)) q zs
        go (no_target y x) =
            absurd (eqb-false r.form 0 (or-false (not (eqb r.token.kind 59)) (eqb r.form 0) a).1
            (form t n ws e u h ∙ y))
        go (a-name v y x b) = absurd (f (form t n ws e u h ∙ x))
        go (a-field i y x b) =
            rw (with-sign t n ws e u h (assign_field i) b, ← (operand t n ws e u h))
            (field_step edition s inner printed d r xs t n ws u (decoded first)
            (subst (λ (o : Token). Good edition s u.stop o) (sym (operand t n ws e u h)) (after t n ws e u h))
            (begun t n ws e u h) deep r2 q ys zs i (r.count - 1)
            (subst (λ (z : Expression). ReadExpression edition s t n d ws z u r xs) y h) refl
            (inner printed expressions u (decoded first))
            (subst (λ (o : Token). Reading edition s (decoded first) (r.count - 1) (d + 1) xs
            (inner printed expressions o (decoded first)) r2 ys) (back t n ws e u h) w) p)
