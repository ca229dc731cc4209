-- Document 01, "Running": a run is stuck exactly in the cases that are named, whatever the image.
use mathlib.Core.Path.{◌≡◌, refl, ap, sym, subst, ◌∙◌}
use mathlib.Core.Bool.{Bool, true, false, true≢false, cond}
use mathlib.Core.Logic.{◌⊎◌, inl, inr, ⊎_elim, ◌↔◌}
use mathlib.Core.List.{List, [], ◌∷◌, reverse}
use mathlib.Core.Option.{Option, some, none}
use Prim.Native.Nat.{ℕ, ◌≤◌}
use native.Mathlib.Omega.{arith}
use lib.ListN.{length, take, drop as dropped}
use lib.Dec.{eqb, ltb, leb}
use borrow.Author.Tests.{ltb-false, leb-true, leb-false, le-leb, lt-leb, le-ltb, eqb-true, eqb-false, eq-eqb, ne_eqb}
use Rattle.lists.proofs.Options.{none-some}
use Rattle.lists.specs.Elements.{nth}
use Rattle.ere_meaning.specs.Tree.{Class, Ere}
use Rattle.ere_meaning.specs.Meaning.{Match}
use Rattle.image_format.proofs.Codes.{front_length}
use Rattle.image_format.specs.Codes.{ImmediateKind, a-constant, a_variable, an_assignable_variable, an_ere, an-instruction, a_positive_count, Code, code_of, Operation, action, flow, Action, constant, get, set, field, set-field, drop, arithmetic, negate, to_number, negation, compare, join, matches, match, length-of, index, substr, print, Flow, section_end, jump, jump-if-false, next, exit}
use Rattle.image_format.specs.Image.{Constant, Instruction, Image}
use Rattle.values.specs.Value.{Value, Result, gives, stops, truth_of}
use Rattle.semantics.specs.Variables.{assignable}
use Rattle.semantics.specs.Feed.{over}
use Rattle.semantics.specs.World.{World, value_at, read_record}
use Rattle.semantics.specs.Operations.{Effect, constant_at, pushed, set_variable, by_ere, ere_at, match_found, match_marked, print_values}
use Rattle.semantics.specs.Moves.{Section, begin, main, end, Location, at, between, Config, Move, continues, finishes, stops_at, stuck, section_of, unary, applied, advance, in_end, in_main, apply_effect, branched, or_stuck, apply_flow, execute, with_operands, with_numbers, by_code, by_instruction, silent, record_read, from_between, from_location, move}
use Rattle.semantics.specs.Stuck.{Names, There, Ready, Stuck, no_instruction, no_code, no_number, no_operand, no_constant, no_variable, no_variable_to_set, not_assignable, no_ere, unread_ere, print_nothing, next_elsewhere}
use Rattle.semantics.proofs.Walks.{cond-all, unary-all}
use Rattle.semantics.proofs.Tables.{row_of, row_is}
use Rattle.semantics.proofs.Shapes.{one-total, unary-total, binary-total, ternary-total}

abbrev is_stuck : Move → Bool
is_stuck (continues d) = false
is_stuck (finishes d) = false
is_stuck (stops_at o d) = false
is_stuck stuck = true

-- a move that is not stuck is another one
not_stuck : {m : Move} → is_stuck m ≡ false → m ≡ stuck → ⊥
not_stuck f h = true≢false (sym (ap is_stuck h) ∙ f)

some-none : {A : Type 0} {a : A} → some a ≡ none → ⊥
some-none h = none-some (sym h)

-- ---- where an action gives nothing

pushed_none : (w : World) (x : Option Value) → pushed w x ≡ none → x ≡ none
pushed_none w none h = refl
pushed_none w (some a) h = absurd (some-none h)

constant-none : (x : Option Constant) → constant_at x ≡ none → x ≡ none
constant-none none h = refl
constant-none (some k) h = absurd (some-none h)

-- a variable that there isn't can't be set, and one that can't be assigned can't; every other one can
set-missing : (edition v : ℕ) (a : Value) (w : World) → length w.variables ≤ v → set_variable edition v a w ≡ none
set-missing edition v a w h = by (assignable edition v) refl
  where
    by : (x : Bool) → assignable edition v ≡ x → set_variable edition v a w ≡ none
    by true e = rw (e, le-ltb v (length w.variables) h)
    by false e = rw e

set-fixed : (edition v : ℕ) (a : Value) (w : World) → assignable edition v ≡ false → set_variable edition v a w ≡ none
set-fixed edition v a w h = rw h

set-none : (edition v : ℕ) (a : Value) (w : World) → set_variable edition v a w ≡ none → (length w.variables ≤ v) ⊎ (assignable edition v ≡ false)
set-none edition v a w h = by (assignable edition v) refl (ltb v (length w.variables)) refl
  where
    by : (x : Bool) → assignable edition v ≡ x → (y : Bool) → ltb v (length w.variables) ≡ y
        → (length w.variables ≤ v) ⊎ (assignable edition v ≡ false)
    by true e true f = absurd (some-none (rw (e, f) at h))
    by true e false f = inl (ltb-false v (length w.variables) f)
    by false e y f = inr e

ere-none : (f : World → Match → Result Effect) (x : Option (Ere Class)) (a : Value) (w : World) → by_ere f x a w ≡ none → x ≡ none
ere-none f none a w h = refl
ere-none f (some x) a w h = absurd (some-none h)

none-ere : (f : World → Match → Result Effect) (x : Option (Ere Class)) (a : Value) (w : World) → x ≡ none → by_ere f x a w ≡ none
none-ere f x a w h = rw h

unary-none : {A : Type 0} (vs : List Value) {f : Value → Option A} → ((a : Value) → f a ≡ none) → unary vs f ≡ none
unary-none vs h = unary-all (λ x. x ≡ none) refl vs h

-- ---- which operations name an ERE

abbrev is_ere : ImmediateKind → Bool
is_ere a-constant = false
is_ere a_variable = false
is_ere an_assignable_variable = false
is_ere an_ere = true
is_ere an-instruction = false
is_ere a_positive_count = false

abbrev Matching : Operation → Type 0
Matching o = (o ≡ action matches) ⊎ (o ≡ action match)

module _ (v : ℕ) where
  -- a code whose one number is of another kind names none
  no_name : (k : ImmediateKind) (ns : List ℕ) → is_ere k ≡ false → Names an_ere v (k ∷ []) ns → ⊥
  no_name k [] f x = x
  no_name k (n ∷ ns) f (inl x) = true≢false (sym (ap is_ere x.0) ∙ f)
  no_name k (n ∷ ns) f (inr x) = x

  the-name : (ns : List ℕ) → length ns ≡ 1 → Names an_ere v (an_ere ∷ []) ns → ns ≡ v ∷ []
  the-name [] l x = absurd x
  the-name (n ∷ []) l (inl x) = rw x.1
  the-name (n ∷ []) l (inr x) = absurd x
  the-name (n ∷ m ∷ ns) l x = absurd (omega arith)

  names-matching : (o : Operation) (ns : List ℕ) → length ns ≡ length (row_of o).immediates → Names an_ere v (row_of o).immediates ns
      → (Matching o) × (ns ≡ v ∷ [])
  names-matching (action matches) ns l x = (inl refl, the-name ns l x)
  names-matching (action match) ns l x = (inr refl, the-name ns l x)
  names-matching (action constant) ns l x = absurd (no_name a-constant ns refl x)
  names-matching (action get) ns l x = absurd (no_name a_variable ns refl x)
  names-matching (action set) ns l x = absurd (no_name an_assignable_variable ns refl x)
  names-matching (action print) ns l x = absurd (no_name a_positive_count ns refl x)
  names-matching (flow jump) ns l x = absurd (no_name an-instruction ns refl x)
  names-matching (flow jump-if-false) ns l x = absurd (no_name an-instruction ns refl x)
  names-matching (action field) ns l x = absurd x
  names-matching (action set-field) ns l x = absurd x
  names-matching (action drop) ns l x = absurd x
  names-matching (action (arithmetic o)) ns l x = absurd x
  names-matching (action negate) ns l x = absurd x
  names-matching (action to_number) ns l x = absurd x
  names-matching (action negation) ns l x = absurd x
  names-matching (action (compare o)) ns l x = absurd x
  names-matching (action join) ns l x = absurd x
  names-matching (action length-of) ns l x = absurd x
  names-matching (action index) ns l x = absurd x
  names-matching (action substr) ns l x = absurd x
  names-matching (flow section_end) ns l x = absurd x
  names-matching (flow next) ns l x = absurd x
  names-matching (flow exit) ns l x = absurd x

-- ---- moves

module _ (i : Image) (c : Config) where
  -- the operands that an instruction takes, and those below them
  abbrev taken : Instruction → Code → List Value
  taken j k = take (k.pops j.immediates) c.control.operands

  abbrev below : Instruction → Code → List Value
  below j k = dropped (k.pops j.immediates) c.control.operands

  -- what the move is at an instruction with a code, and where it has its numbers and operands too
  module _ {s : Section} {j : Instruction} {k : Code} where
    there-move : (t : There i c s j k) → move i c ≡ with_numbers i s t.number c k j.immediates
    unfolding move
    there-move t =
        ap (λ (p : Location). from_location i p c) t.place
        ∙ (ap (by_instruction i s t.number c) t.instruction ∙ ap (by_code i s t.number c j.immediates) t.code)

    numbers-move : (t : There i c s j k) → length j.immediates ≡ length k.immediates → move i c ≡ with_operands i s t.number c k j.immediates
    numbers-move t n =
        there-move t
        ∙ ap (λ (b : Bool). cond b (with_operands i s t.number c k j.immediates) stuck) (eq-eqb (length j.immediates) (length k.immediates) n)

    operands-move : (t : There i c s j k) → length j.immediates ≡ length k.immediates → (b : Bool)
        → leb (k.pops j.immediates) (length c.control.operands) ≡ b
        → move i c ≡ cond b (execute i s t.number c k.operation j.immediates (taken j k) (below j k)) stuck
    operands-move t n b e =
        numbers-move t n
        ∙ ap (λ (b : Bool). cond b (execute i s t.number c k.operation j.immediates (taken j k) (below j k)) stuck) e

    ready-move : (r : Ready i c s j k) (o : Operation) → k.operation ≡ o
        → move i c ≡ execute i s r.there.number c o j.immediates (taken j k) (below j k)
    ready-move r o e =
        operands-move r.there r.numbers true (le-leb (k.pops j.immediates) (length c.control.operands) r.operands)
        ∙ ap (λ (o : Operation). execute i s r.there.number c o j.immediates (taken j k) (below j k)) e

    -- an action with nothing to give
    none_stuck : (r : Ready i c s j k) (a : Action) → k.operation ≡ action a → applied i a j.immediates (taken j k) c.world ≡ none → move i c ≡ stuck
    unfolding execute
    none_stuck r a e h = ready-move r (action a) e ∙ ap (apply_effect s r.there.number c (below j k)) h

    -- an action with nothing to give for the number that it names, whatever its operands
    names-stuck : (r : Ready i c s j k) (a : Action) (v : ℕ) → k.operation ≡ action a → j.immediates ≡ v ∷ []
        → ((vs : List Value) → applied i a (v ∷ []) vs c.world ≡ none) → move i c ≡ stuck
    names-stuck r a v e n h = none_stuck r a e (ap (λ (ns : List ℕ). applied i a ns (taken j k) c.world) n ∙ h (taken j k))

    ere-stuck : (r : Ready i c s j k) (v : ℕ) → Names an_ere v k.immediates j.immediates → ere_at i.edition (nth i.eres v) ≡ none
        → move i c ≡ stuck
    ere-stuck r v names h =
        let x = ere_at i.edition (nth i.eres v) in
        let is = ap (λ (k : Code). k.immediates) (row_is i.edition j.code k r.there.code) in
        let m = names-matching v k.operation j.immediates (r.numbers ∙ ap length is) (subst (λ (ks : List ImmediateKind). Names an_ere v ks j.immediates) is names) in
        let n = m.1 in
        ⊎_elim
        (λ e. names-stuck r matches v e n (λ vs. unary-none vs (λ a. none-ere match_found x a c.world h)))
        (λ e. names-stuck r match v e n (λ vs. unary-none vs (λ a. none-ere match_marked x a c.world h))) m.0

    next-stuck : (r : Ready i c s j k) → k.operation ≡ flow next → (s ≡ main → ⊥) → move i c ≡ stuck
    unfolding execute
    next-stuck r e n = ready-move r (flow next) e ∙ elsewhere s n r.there.number
      where
        elsewhere : (s : Section) → (s ≡ main → ⊥) → (n : ℕ) → apply_flow s n c next j.immediates (taken j k) (below j k) ≡ stuck
        elsewhere begin h n = refl
        elsewhere main h n = absurd (h refl)
        elsewhere end h n = refl

  stuck-move : Stuck i c → move i c ≡ stuck
  unfolding move
  stuck-move (no_instruction s n p q) = ap (λ (p : Location). from_location i p c) p ∙ ap (by_instruction i s n c) q
  stuck-move (no_code s n j p q r) =
      ap (λ (p : Location). from_location i p c) p ∙ (ap (by_instruction i s n c) q ∙ ap (by_code i s n c j.immediates) r)
  stuck-move (no_number {s} {j} {k} t n) =
      there-move t
      ∙ ap (λ (b : Bool). cond b (with_operands i s t.number c k j.immediates) stuck) (ne_eqb (length j.immediates) (length k.immediates) n)
  stuck-move (no_operand {s} {j} {k} t n l) = operands-move t n false (lt-leb (k.pops j.immediates) (length c.control.operands) l)
  stuck-move (no_constant {v} r e n h) = names-stuck r constant v e n (λ vs. rw h)
  stuck-move (no_variable {v} r e n h) = names-stuck r get v e n (λ vs. rw h)
  stuck-move (no_variable_to_set {v} r e n h) = names-stuck r set v e n (λ vs. unary-none vs (λ a. set-missing i.edition v a c.world h))
  stuck-move (not_assignable {v} r e n h) = names-stuck r set v e n (λ vs. unary-none vs (λ a. set-fixed i.edition v a c.world h))
  stuck-move (no_ere v r e h) = ere-stuck r v e (ap (ere_at i.edition) h)
  stuck-move (unread_ere v r e g h) = ere-stuck r v e (ap (ere_at i.edition) g ∙ h)
  stuck-move (print_nothing r e z) = none_stuck r print e (rw z)
  stuck-move (next_elsewhere r e n) = next-stuck r e n

  -- ---- where the move has no rule, the case is named

  module _ {s : Section} {j : Instruction} {k : Code} (r : Ready i c s j k) where
    Why : {A : Type 0} → Option A → Type 0
    Why x = x ≡ none → Stuck i c

    -- the ERE is missing or doesn't read
    ere-why : (v : ℕ) → Names an_ere v k.immediates j.immediates → (x : Option (List ℕ)) → nth i.eres v ≡ x
        → ere_at i.edition x ≡ none → Stuck i c
    ere-why v e none g h = no_ere v r e g
    ere-why v e (some l) g h = unread_ere v r e g h

    -- what the row of a matching operation names
    ere-named : (o : Operation) → (row_of o).immediates ≡ an_ere ∷ [] → k.operation ≡ o → (v : ℕ) → j.immediates ≡ v ∷ []
        → Names an_ere v k.immediates j.immediates
    ere-named o f e v n =
        let is = ap (λ (k : Code). k.immediates) (row_is i.edition j.code k r.there.code) in
        let row : k.immediates ≡ an_ere ∷ [] = is ∙ (ap (λ (o : Operation). (row_of o).immediates) e ∙ f) in
        rw (row, n) (inl (refl, refl))

    action-why : (a : Action) → k.operation ≡ action a → (ns : List ℕ) → j.immediates ≡ ns → length ns ≡ length (row_of (action a)).immediates
        → (vs : List Value) → k.pops j.immediates ≡ length vs → length vs ≡ (row_of (action a)).pops ns
        → applied i a ns vs c.world ≡ none → Stuck i c
    unfolding Why
    action-why constant e ns q l vs m t =
        one-total Why ns l (λ v p h.
        no_constant r e (q ∙ p) (constant-none (nth i.constants v) (pushed_none c.world (constant_at (nth i.constants v)) h)))
    action-why get e ns q l vs m t = one-total Why ns l (λ v p h. no_variable r e (q ∙ p) (pushed_none c.world (value_at i.edition c.world v) h))
    action-why set e ns q l vs m t =
        one-total Why ns l (λ v p.
        unary-total Why vs t (λ a h.
        ⊎_elim (λ x. no_variable_to_set r e (q ∙ p) x) (λ x. not_assignable r e (q ∙ p) x) (set-none i.edition v a c.world h)))
    action-why field e ns q l vs m t = unary-total Why vs t (λ a h. absurd (some-none h))
    action-why set-field e ns q l vs m t = binary-total Why vs t (λ a b h. absurd (some-none h))
    action-why drop e ns q l vs m t = unary-total Why vs t (λ a h. absurd (some-none h))
    action-why (arithmetic o) e ns q l vs m t = binary-total Why vs t (λ a b h. absurd (some-none h))
    action-why negate e ns q l vs m t = unary-total Why vs t (λ a h. absurd (some-none h))
    action-why to_number e ns q l vs m t = unary-total Why vs t (λ a h. absurd (some-none h))
    action-why negation e ns q l vs m t = unary-total Why vs t (λ a h. absurd (some-none h))
    action-why (compare o) e ns q l vs m t = binary-total Why vs t (λ a b h. absurd (some-none h))
    action-why join e ns q l vs m t = binary-total Why vs t (λ a b h. absurd (some-none h))
    action-why matches e ns q l vs m t =
        one-total Why ns l (λ v p.
        unary-total Why vs t (λ a h. ere-why v (ere-named (action matches) refl e v (q ∙ p)) (nth i.eres v) refl (ere-none match_found _ a c.world h)))
    action-why match e ns q l vs m t =
        one-total Why ns l (λ v p.
        unary-total Why vs t (λ a h. ere-why v (ere-named (action match) refl e v (q ∙ p)) (nth i.eres v) refl (ere-none match_marked _ a c.world h)))
    action-why length-of e ns q l vs m t = unary-total Why vs t (λ a h. absurd (some-none h))
    action-why index e ns q l vs m t = binary-total Why vs t (λ a b h. absurd (some-none h))
    action-why substr e ns q l vs m t = ternary-total Why vs t (λ a b d h. absurd (some-none h))
    action-why print e ns q l vs m t = by (eqb (length vs) 0) refl
      where
        by : (x : Bool) → eqb (length vs) 0 ≡ x → cond x none (some (print_values (reverse vs) c.world)) ≡ none → Stuck i c
        by true f h = print_nothing r e (m ∙ eqb-true (length vs) 0 f)
        by false f h = absurd (some-none h)

    effect-none : (n : ℕ) (o : List Value) (x : Option (Result Effect)) → apply_effect s n c o x ≡ stuck → x ≡ none
    effect-none n o none h = refl
    effect-none n o (some (gives e)) h = absurd (not_stuck refl h)
    effect-none n o (some (stops a)) h = absurd (not_stuck refl h)

    branched-not : (n t : ℕ) (o : List Value) (x : Result Bool) → is_stuck (branched s n c t o x) ≡ false
    branched-not n t o (gives true) = refl
    branched-not n t o (gives false) = refl
    branched-not n t o (stops a) = refl

    flow-why : (f : Flow) → k.operation ≡ flow f → (n : ℕ) (ns : List ℕ) → length ns ≡ length (row_of (flow f)).immediates
        → (vs o : List Value) → length vs ≡ (row_of (flow f)).pops ns → apply_flow s n c f ns vs o ≡ stuck → Stuck i c
    flow-why section_end e n ns l vs o t h = absurd (not_stuck (cond-all (λ (m : Move). is_stuck m ≡ false) (in_end s) refl refl) h)
    flow-why exit e n ns l vs o t h = absurd (not_stuck (cond-all (λ (m : Move). is_stuck m ≡ false) (in_end s) refl refl) h)
    flow-why jump e n ns l vs o t h =
        absurd (not_stuck (one-total (λ (x : Option Move). is_stuck (or_stuck x) ≡ false) ns l (λ u p. refl)) h)
    flow-why jump-if-false e n ns l vs o t h =
        absurd (not_stuck
        (one-total (λ (x : Option Move). is_stuck (or_stuck x) ≡ false) ns l (λ u p.
        unary-total (λ (x : Option Move). is_stuck (or_stuck x) ≡ false) vs t (λ a. branched-not n u o (truth_of a)))) h)
    flow-why next e n ns l vs o t h = by (in_main s) refl h
      where
        by : (x : Bool) → in_main s ≡ x → cond x (advance c between o c.world) stuck ≡ stuck → Stuck i c
        by true p h = absurd (not_stuck refl h)
        by false p h = next_elsewhere r e (λ q. true≢false (sym (ap (in_main) q) ∙ p))

    execute-why : (o : Operation) → k.operation ≡ o → (n : ℕ) → length j.immediates ≡ length (row_of o).immediates → length (taken j k) ≡ (row_of o).pops j.immediates
        → execute i s n c o j.immediates (taken j k) (below j k) ≡ stuck → Stuck i c
    unfolding execute
    execute-why (flow f) e n l t h = flow-why f e n j.immediates l (taken j k) (below j k) t h
    execute-why (action a) e n l t h =
        action-why a e j.immediates refl l (taken j k) (sym (front_length (k.pops j.immediates) c.control.operands r.operands)) t
        (effect-none n (below j k) (applied i a j.immediates (taken j k) c.world) h)

    ready-why : execute i s r.there.number c k.operation j.immediates (taken j k) (below j k) ≡ stuck → Stuck i c
    ready-why h =
        let ns = j.immediates in
        let is = row_is i.edition j.code k r.there.code in
        execute-why k.operation refl r.there.number (r.numbers ∙ ap (λ (k : Code). length k.immediates) is)
        (front_length (k.pops ns) c.control.operands r.operands ∙ ap (λ (k : Code). k.pops ns) is) h

  -- a run between records has a rule
  between-not : is_stuck (from_between i c) ≡ false
  unfolding from_between
  between-not =
      cond-all (λ (m : Move). is_stuck m ≡ false) (silent i) refl
      (cond-all (λ (m : Move). is_stuck m ≡ false) (over c.world.feed) refl (by (read_record i.edition c.world)))
    where
      by : (x : Result World) → is_stuck (record_read c x) ≡ false
      by (gives w) = refl
      by (stops o) = refl

  move-why : move i c ≡ stuck → Stuck i c
  unfolding move
  move-why h = placed c.control.location refl h
    where
      operands : {s : Section} {j : Instruction} {k : Code} (t : There i c s j k) → length j.immediates ≡ length k.immediates
          → (b : Bool) → leb (k.pops j.immediates) (length c.control.operands) ≡ b
          → cond b (execute i s t.number c k.operation j.immediates (taken j k) (below j k)) stuck ≡ stuck → Stuck i c
      operands {k} t l true e h =
          ready-why (record { there = t; numbers = l; operands = leb-true _ (length c.control.operands) e }) h
      operands {k} t l false e h = no_operand t l (leb-false _ (length c.control.operands) e)

      numbers : {s : Section} {j : Instruction} {k : Code} (t : There i c s j k) → (b : Bool) → eqb (length j.immediates) (length k.immediates) ≡ b
          → cond b (with_operands i s t.number c k j.immediates) stuck ≡ stuck → Stuck i c
      numbers {j} {k} t true e h = operands t (eqb-true (length j.immediates) (length k.immediates) e) _ refl h
      numbers {j} {k} t false e h = no_number t (eqb-false (length j.immediates) (length k.immediates) e)

      coded : (s : Section) (n : ℕ) (j : Instruction) → c.control.location ≡ at s n → nth (section_of i s) n ≡ some j
          → (x : Option Code) → code_of i.edition j.code ≡ x → by_code i s n c j.immediates x ≡ stuck → Stuck i c
      coded s n j e f none g h = no_code s n j e f g
      coded s n j e f (some k) g h =
          numbers {k = k} (record { number = n; place = e; instruction = f; code = g }) (eqb (length j.immediates) (length k.immediates)) refl h

      instructed : (s : Section) (n : ℕ) → c.control.location ≡ at s n → (x : Option Instruction) → nth (section_of i s) n ≡ x
          → by_instruction i s n c x ≡ stuck → Stuck i c
      instructed s n e none f h = no_instruction s n e f
      instructed s n e (some j) f h = coded s n j e f (code_of i.edition j.code) refl h

      placed : (p : Location) → c.control.location ≡ p → from_location i p c ≡ stuck → Stuck i c
      placed (at s n) e h = instructed s n e (nth (section_of i s) n) refl h
      placed between e h = absurd (not_stuck between-not h)

-- a move has no rule exactly in the cases that the document names
pub stuck-exactly : (i : Image) (c : Config) → (move i c ≡ stuck) ↔ Stuck i c
stuck-exactly i c = (move-why i c, stuck-move i c)
