-- Each image that a text is translated to passes the check.
use mathlib.Core.Path.{◌≡◌, refl, sym, ap, subst, ◌∙◌}
use mathlib.Core.Bool.{Bool, true, false, true≢false, cond, ◌&&◌}
use mathlib.Core.Logic.{◌⊎◌, inl, inr, ⊎_elim}
use mathlib.Core.List.{List, [], ◌∷◌, ◌++◌}
use mathlib.Core.Option.{Option, some, none}
use Prim.Native.Nat.{ℕ, zero, suc, ◌+◌, ◌-◌, ◌≤◌, ◌<◌}
use native.Mathlib.Omega.{arith}
use lib.ListN.{length, get_or, drop, length-append}
use lib.Dec.{ltb, leb}
use borrow.Author.Tests.{leb-true}
use Rattle.lists.proofs.Options.{some_one, none-some}
use Rattle.lists.specs.Elements.{nth, all}
use Rattle.edition.specs.Limits.{text_bytes, user_names, constant_count, ere_count, instruction_count, operand_depth}
use Rattle.ere_meaning.specs.Tree.{Class, Ere}
use Rattle.ere_grammar.specs.Read.{read_ere}
use Rattle.image_format.specs.Codes.{ImmediateKind, code_of, Operation, action, flow, constant, get, set, matches, match, print, section_end, jump, jump-if-false, next, exit}
use Rattle.image_format.specs.Image.{Constant, number, text, Instruction, Image}
use Rattle.semantics.specs.Variables.{special_count, assignable}
use Rattle.semantics.specs.World.{variable_count}
use Rattle.semantics.specs.Moves.{Section, begin, main, end, section_of}
use Rattle.semantics.specs.Check.{check, sizes, small_constant, successors}
use Rattle.semantics.specs.Checked.{AllExist, Allowed, Short, Checked}
use Rattle.semantics.proofs.Tables.{row_of}
use Rattle.semantics.proofs.Checks.{check-exactly}
use Rattle.program_tokens.specs.Kinds.{fixed_variable, same}
use Rattle.program_tokens.specs.Words.{word_kind, same_bytes}
use Rattle.program_tokens.specs.Tokens.{Token}
use Rattle.program_tree.specs.Tree.{Program}
use Rattle.program_reader.specs.Read.{Read, ok, no}
use Rattle.program_reader.specs.Programs.{read_program}
use Rattle.program_reader.proofs.Fine.{Good}
use Rattle.program_reader.proofs.Tokens.{Readable, Spelled, IsName, Said, read-fine}
use Rattle.program_code.specs.Emitted.{Operand, nothing, the_constant, the_variable, the_ere, the_instruction, the_count, Emitted, opcode}
use Rattle.program_code.specs.Sections.{compile_statement, parts_of, section_code}
use Rattle.program_code.proofs.Opcodes.{opcode-row, row-operation}
use Rattle.program_code.proofs.Flows.{Leads, FlowsAt, Stands, Flows}
use Rattle.program_code.proofs.Sections.{flows-section}
use Rattle.program_numbering.specs.Names.{has, number_of, users_of}
use Rattle.program_numbering.specs.Numbering.{special_names, same_constant, constant_in, ere_in, operands_by, all_code, Tables, tables_of, numbers_of, instructions, image_by, image_of}
use Rattle.program_numbering.specs.Sizes.{section_fits, fits}
use Rattle.program_numbering.proofs.Numbers.{Each, each_at, each-join, each_map, new-each, number-below, and_left, and_right}
use Rattle.edition.specs.Limits.{filter_text}
use Rattle.edition.specs.Outcomes.{done, filter_text_too_long, nul_byte, size_passed, room_too_small}
use Rattle.image_format.specs.Writing.{bytes_of}
use Rattle.translation.specs.Translation.{Translation, refused, stored, sized, of_program, before_nul, translate_of}
use Rattle.translation.specs.Claims.{CompiledPasses}
use Rattle.translation.proofs.Sound.{tag, emitted, Sound, plain, constant-sound, get-sound, set-sound, matches-sound, match-sound, jump-sound, branch-sound, print-sound, next-sound, exit-sound, AllSound, is_main, FineP, sound-parts}
use Rattle.translation.proofs.Tables.{Listed, names-listed, constants-listed, eres-listed, set-allowed, names-count, join-named}

-- ---- lists

abbrev numbered : Tables → Emitted → Instruction
numbered t i = record { code = opcode i.operation; depth = i.depth; immediates = numbers_of t i.operand }

length-instructions : (t : Tables) (l : List Emitted) → length (instructions t l) ≡ length l
unfolding instructions
length-instructions t [] = refl
length-instructions t (i ∷ l) = ap suc (length-instructions t l)

nth-instructions : (t : Tables) (l : List Emitted) (n : ℕ) (j : Instruction) → nth (instructions t l) n ≡ some j → (i : Emitted) × (nth l n ≡ some i) × (j ≡ numbered t i)
unfolding instructions nth
nth-instructions t [] n j h = absurd (none-some h)
nth-instructions t (i ∷ l) zero j h = (i, refl, sym (some_one refl h))
nth-instructions t (i ∷ l) (suc n) j h = nth-instructions t l n j h

nth-below : {A : Type 0} (l : List A) (n : ℕ) (a : A) → nth l n ≡ some a → n < length l
unfolding nth
nth-below [] n a h = absurd (none-some h)
nth-below (b ∷ l) zero a h = omega arith
nth-below (b ∷ l) (suc n) a h = omega (arith, nth-below l n a h)

-- element n of two lists, one after the other
nth-join : {A : Type 0} (l m : List A) (n : ℕ) (a : A) → nth (l ++ m) n ≡ some a
    → ((n < length l) × (nth l n ≡ some a)) ⊎ ((k : ℕ) × (n ≡ length l + k) × (nth m k ≡ some a))
unfolding nth
nth-join [] m n a h = inr (n, omega arith, h)
nth-join (b ∷ l) m zero a h = inl (omega arith, h)
nth-join (b ∷ l) m (suc n) a h =
    ⊎_elim (λ r. inl (omega (arith, r.0), r.1)) (λ r. inr (r.0, omega (arith, r.1), r.2)) (nth-join l m n a h)

abbrev depth_in : Option Instruction → Option ℕ
depth_in none = none
depth_in (some j) = some j.depth

depth-some : (o : Option Instruction) (d : ℕ) → depth_in o ≡ some d → (j : Instruction) × (o ≡ some j) × (j.depth ≡ d)
depth-some none d h = absurd (none-some h)
depth-some (some j) d h = (j, refl, some_one refl h)

stands : (D : ℕ → Option ℕ) (t : Tables) (l : List Emitted) (n : ℕ) → ((k m : ℕ) → m ≡ n + k → D m ≡ depth_in (nth (instructions t l) k)) → Stands D n l
unfolding instructions nth
stands D t [] n f = tt
stands D t (i ∷ l) n f = (f 0 n (omega arith), stands D t l (suc n) (λ k m e. f (suc k) m (omega (arith, e))))

flows-at-nth : (D : ℕ → Option ℕ) (l : List Emitted) (n k m : ℕ) (i : Emitted) → Flows D n l → nth l k ≡ some i → m ≡ n + k → FlowsAt D m i
unfolding nth
flows-at-nth D [] n k m i f h e = absurd (none-some h)
flows-at-nth D (j ∷ l) n zero m i f h e =
    let w : n ≡ m = omega (arith, e) in
    subst (λ (x : ℕ). FlowsAt D x i) w (subst (λ (x : Emitted). FlowsAt D n x) (some_one refl h) f.0)
flows-at-nth D (j ∷ l) n (suc k) m i f h e = flows-at-nth D l (suc n) k m i f.1 h (omega (arith, e))

all-at : {A : Type 0} (f : A → Bool) (l : List A) (n : ℕ) (a : A) → all f l ≡ true → nth l n ≡ some a → f a ≡ true
unfolding nth
all-at f [] n a h e = absurd (none-some e)
all-at f (b ∷ l) zero a h e = subst (λ (x : _). f x ≡ true) (some_one refl e) (and_left (f b) (all f l) h)
all-at f (b ∷ l) (suc n) a h e = all-at f l n a (and_right (f b) (all f l) h) e

module _ (s : List ℕ) (p : Program) where
  abbrev t : Tables
  t = tables_of 1 p

  abbrev img : Image
  img = image_of 1 p

  section-is : (z : Section) → section_of img z ≡ instructions t (section_code z p)
  unfolding image_by
  section-is begin = refl
  section-is main = refl
  section-is end = refl

  users-is : img.users ≡ length (users_of 1 p)
  unfolding image_by
  users-is = refl

  constants-is : img.constants ≡ t.constants
  unfolding image_by
  constants-is = refl

  eres-is : img.eres ≡ t.eres
  unfolding image_by
  eres-is = refl

  edition-is : img.edition ≡ 1
  unfolding image_by
  edition-is = refl

  variables-is : t.variables ≡ special_names ++ users_of 1 p
  unfolding tables_of
  variables-is = refl

  module _ (z : Section) where
    abbrev L : List Instruction
    L = instructions t (section_code z p)

    -- the depth written at an instruction
    abbrev D : ℕ → Option ℕ
    D n = depth_in (nth L n)

    leads-all : (d : ℕ) (l : List ℕ) → Leads D d l → (k : ℕ) → k < length l → (j : Instruction) × (nth (section_of img z) (get_or l k 0) ≡ some j) × (j.depth ≡ d)
    leads-all d [] h k b = absurd (omega (arith, b))
    leads-all d (m ∷ l) h zero b =
        let r = depth-some (nth L m) d h.0 in
        (r.0, subst (λ (q : List Instruction). nth q m ≡ some r.0) (sym (section-is z)) r.1, r.2)
    leads-all d (m ∷ l) h (suc k) b = leads-all d l h.1 k (omega (arith, b))

    -- an instruction that a section can go on from, built from what is known of it
    make : (o : Operation) (d : ℕ) (x : Operand) (n : ℕ) → AllExist img z (row_of o).immediates (numbers_of t x) → (tag o ≡ 3 → ⊥) → suc n < length L → (n ≡ 0 → d ≡ 0)
        → (tag o ≡ 4 → (d ≡ 0) × (z ≡ main)) → (tag o ≡ 5 → d ≡ 0) → d ≤ operand_depth → (row_of o).pops (numbers_of t x) ≤ d
        → Leads D (d - (row_of o).pops (numbers_of t x) + (row_of o).pushes (numbers_of t x)) (successors o n (numbers_of t x))
        → Allowed img z n (numbered t (emitted o d x))
    make o d x n ex no_end inside start at_next at_exit deep enough leads =
        let back : (q : Operation) → (row_of o).operation ≡ q → tag o ≡ tag q = λ q e. ap tag (sym (row-operation o) ∙ e) in
        record {
          row = row_of o;
          code = subst (λ (e : ℕ). code_of e (opcode o) ≡ some (row_of o)) (sym edition-is) (opcode-row o);
          exist = ex;
          last = ((λ e. absurd (no_end (back (flow section_end) e))), (λ e. absurd (omega (arith, inside, e, ap (λ (q : List Instruction). length q) (section-is z)))));
          start = start;
          at-end = λ e. absurd (no_end (back (flow section_end) e));
          at_next = λ e. (at_next (back (flow next) e)).0;
          at_exit = λ e. at_exit (back (flow exit) e);
          deep = deep;
          enough = enough;
          leads = subst
              (λ (q : Operation). (k : ℕ) → k < length (successors q n (numbers_of t x))
              → (j : Instruction) × (nth (section_of img z) (get_or (successors q n (numbers_of t x)) k 0) ≡ some j)
              × (j.depth ≡ d - (row_of o).pops (numbers_of t x) + (row_of o).pushes (numbers_of t x)))
              (sym (row-operation o)) (leads-all _ (successors o n (numbers_of t x)) leads);
          nexts = λ e. (at_next (back (flow next) e)).1;
        }

    abbrev never : {A : Type 0} → {k m : ℕ} → k ≡ m → (k ≡ m → ⊥) → A
    never e f = absurd (f e)

    constant-exists : (c : Constant) → has same_constant t.constants c ≡ true → number_of same_constant t.constants c < length img.constants
    constant-exists c h =
        subst (λ (l : List Constant). number_of same_constant t.constants c < length l) (sym constants-is) (number-below same_constant t.constants c h)

    ere-exists : (r : List ℕ) → has same_bytes t.eres r ≡ true → number_of same_bytes t.eres r < length img.eres
    ere-exists r h = subst (λ (l : List (List ℕ)). number_of same_bytes t.eres r < length l) (sym eres-is) (number-below same_bytes t.eres r h)

    variable-exists : (v : List ℕ) → has same_bytes (special_names ++ users_of 1 p) v ≡ true → number_of same_bytes t.variables v < variable_count img
    variable-exists v h =
        let b : number_of same_bytes (special_names ++ users_of 1 p) v < length (special_names ++ users_of 1 p) = number-below same_bytes (special_names ++ users_of 1 p) v h in
        let e : number_of same_bytes t.variables v ≡ number_of same_bytes (special_names ++ users_of 1 p) v = ap (λ (l : List (List ℕ)). number_of same_bytes l v) variables-is in
        let c : special_count img.edition ≡ length special_names = ap special_count edition-is ∙ names-count in
        omega (arith, b, e, c, length-append special_names (users_of 1 p), users-is)

    variable-assigned : (v : List ℕ) → same (word_kind 1 v) fixed_variable ≡ false → assignable img.edition (number_of same_bytes t.variables v) ≡ true
    variable-assigned v f =
        subst (λ (e : ℕ). assignable e (number_of same_bytes t.variables v) ≡ true) (sym edition-is)
        (subst (λ (l : List (List ℕ)). assignable 1 (number_of same_bytes l v) ≡ true) (sym variables-is) (set-allowed p v f))

    target-exists : (d m : ℕ) → D m ≡ some d → m < length (section_of img z)
    target-exists d m h =
        let r = depth-some (nth L m) d h in
        subst (λ (l : List Instruction). m < length l) (sym (section-is z)) (nth-below L m r.0 r.1)

    allowed : (n : ℕ) (i : Emitted) → Sound 1 s (Listed 1 s p) (is_main 1 s (Listed 1 s p) z) i → FlowsAt D n i
        → Each (λ c. has same_constant t.constants c ≡ true) (constant_in i.operand) → Each (λ r. has same_bytes t.eres r ≡ true) (ere_in i.operand)
        → suc n < length L → (n ≡ 0 → i.depth ≡ 0) → i.depth ≤ operand_depth → Allowed img z n (numbered t i)
    unfolding numbers_of
    allowed n i (plain a d e g) f hc hr inside start deep =
        make (action a) d nothing n (subst (λ (q : List ImmediateKind). AllExist img z q []) (sym e) tt) (λ q. omega (arith, q, g)) inside start (λ q. absurd (omega (arith, q, g)))
        (λ q. absurd (omega (arith, q, g))) deep f.0 f.1
    allowed n i (constant-sound c d sd) f hc hr inside start deep =
        make (action constant) d (the_constant c) n (constant-exists c hc.0, tt) (λ q. omega (arith, q)) inside start (λ q. absurd (omega (arith, q)))
        (λ q. absurd (omega (arith, q))) deep f.0 f.1
    allowed n i (get-sound v d nm ls) f hc hr inside start deep =
        make (action get) d (the_variable v) n (variable-exists v (ls nm), tt) (λ q. omega (arith, q)) inside start (λ q. absurd (omega (arith, q)))
        (λ q. absurd (omega (arith, q))) deep f.0 f.1
    allowed n i (set-sound v d nm ls fx) f hc hr inside start deep =
        make (action set) d (the_variable v) n ((variable-exists v (ls nm), variable-assigned v fx), tt) (λ q. omega (arith, q)) inside start (λ q. absurd (omega (arith, q)))
        (λ q. absurd (omega (arith, q))) deep f.0 f.1
    allowed n i (matches-sound r d rd) f hc hr inside start deep =
        make (action matches) d (the_ere r) n (ere-exists r hr.0, tt) (λ q. omega (arith, q)) inside start (λ q. absurd (omega (arith, q)))
        (λ q. absurd (omega (arith, q))) deep f.0 f.1
    allowed n i (match-sound r d rd) f hc hr inside start deep =
        make (action match) d (the_ere r) n (ere-exists r hr.0, tt) (λ q. omega (arith, q)) inside start (λ q. absurd (omega (arith, q)))
        (λ q. absurd (omega (arith, q))) deep f.0 f.1
    allowed n i (jump-sound m d) f hc hr inside start deep =
        make (flow jump) d (the_instruction m) n (target-exists _ m f.1.0, tt) (λ q. omega (arith, q)) inside start (λ q. absurd (omega (arith, q)))
        (λ q. absurd (omega (arith, q))) deep f.0 f.1
    allowed n i (branch-sound m d) f hc hr inside start deep =
        make (flow jump-if-false) d (the_instruction m) n (target-exists _ m f.1.1.0, tt) (λ q. omega (arith, q)) inside start (λ q. absurd (omega (arith, q)))
        (λ q. absurd (omega (arith, q))) deep f.0 f.1
    allowed n i (print-sound m d from_one) f hc hr inside start deep =
        make (action print) d (the_count m) n (from_one, tt) (λ q. omega (arith, q)) inside start (λ q. absurd (omega (arith, q)))
        (λ q. absurd (omega (arith, q))) deep f.0 f.1
    allowed n i (next-sound r) f hc hr inside start deep =
        make (flow next) 0 nothing n tt (λ q. omega (arith, q)) inside start (λ q. (refl, only-main z r))
        (λ q. absurd (omega (arith, q))) deep f.0 f.1
      where
        only-main : (y : Section) → is_main 1 s (Listed 1 s p) y ≡ true → y ≡ main
        only-main begin e = absurd (true≢false (sym e))
        only-main main e = refl
        only-main end e = absurd (true≢false (sym e))
    allowed n i exit-sound f hc hr inside start deep =
        make (flow exit) 0 nothing n tt (λ q. omega (arith, q)) inside start (λ q. absurd (omega (arith, q)))
        (λ q. refl) deep f.0 f.1

    -- the code 0 at the end of a section
    last-allowed : (n : ℕ) → suc n ≡ length L → Allowed img z n (numbered t (emitted (flow section_end) 0 nothing))
    unfolding numbers_of
    last-allowed n e =
        let long : length (section_of img z) ≡ length L = ap (λ (q : List Instruction). length q) (section-is z) in
        record {
          row = row_of (flow section_end);
          code = subst (λ (v : ℕ). code_of v (opcode (flow section_end)) ≡ some (row_of (flow section_end))) (sym edition-is) (opcode-row (flow section_end));
          exist = tt;
          last = ((λ q. e ∙ sym long), (λ q. refl));
          start = λ q. refl;
          at-end = λ q. refl;
          at_next = λ q. refl;
          at_exit = λ q. refl;
          deep = omega arith;
          enough = omega arith;
          leads = λ k b. absurd (omega (arith, b));
          nexts = λ q. let w : tag (flow section_end) ≡ tag (flow next) = ap tag q in absurd (omega (arith, w));
        }

    abbrev body : List Emitted
    body = compile_statement (parts_of z p) 0

    code_is : section_code z p ≡ body ++ (emitted (flow section_end) 0 nothing ∷ [])
    unfolding section_code
    code_is = refl

    long-code : length L ≡ length body + 1
    long-code = omega (arith, length-instructions t (section_code z p), ap (λ (q : List Emitted). length q) code_is, length-append body (emitted (flow section_end) 0 nothing ∷ []))

    module _ (fine : FineP 1 s (Listed 1 s p) p) (small : section_fits (section_of img z) ≡ true) where
      fits-here : section_fits L ≡ true
      fits-here = subst (λ (q : List Instruction). section_fits q ≡ true) (section-is z) small

      flowing : (D 0 ≡ some 0) × (Flows D 0 (section_code z p))
      flowing = flows-section D z p (stands D t (section_code z p) 0 (λ k m e. let w : m ≡ k = omega (arith, e) in ap (λ (q : ℕ). depth_in (nth L q)) w))

      at_code : (n : ℕ) (i : Emitted) → nth L n ≡ some (numbered t i) → nth (section_code z p) n ≡ some i → Allowed img z n (numbered t i)
      unfolding nth
      at_code n i hL hc =
          let start : n ≡ 0 → i.depth ≡ 0 =
          λ e. some_one {o = depth_in (nth L n)} (ap depth_in hL) (ap (λ (q : ℕ). depth_in (nth L q)) e ∙ flowing.0) in
          let deep : i.depth ≤ operand_depth =
          leb-true i.depth operand_depth
          (all-at (λ (j : Instruction). leb j.depth operand_depth) L n (numbered t i) (and_right (leb (length L) instruction_count) _ fits-here) hL) in
          ⊎_elim
          (λ r. allowed n i (each_at (Sound 1 s (Listed 1 s p) (is_main 1 s (Listed 1 s p) z)) body n i (sound-parts 1 s (Listed 1 s p) z p fine (names-listed 1 s p)) r.1)
          (flows-at-nth D (section_code z p) 0 n n i flowing.1 hc (omega arith))
          (each_at (λ (i : Emitted). Each (λ c. has same_constant t.constants c ≡ true) (constant_in i.operand)) (section_code z p) n i (constants-listed 1 p z) hc)
          (each_at (λ (i : Emitted). Each (λ q. has same_bytes t.eres q ≡ true) (ere_in i.operand)) (section_code z p) n i (eres-listed 1 p z) hc)
          (omega (arith, long-code, r.0)) start deep)
          (λ r. at-end n i r.0 r.1 r.2)
          (nth-join body (emitted (flow section_end) 0 nothing ∷ []) n i (subst (λ (q : List Emitted). nth q n ≡ some i) code_is hc))
        where
          at-end : (n : ℕ) (i : Emitted) (k : ℕ) → n ≡ length body + k → nth (emitted (flow section_end) 0 nothing ∷ []) k ≡ some i → Allowed img z n (numbered t i)
          at-end n i zero e h = subst (λ (q : Emitted). Allowed img z n (numbered t q)) (some_one refl h) (last-allowed n (omega (arith, long-code, e)))
          at-end n i (suc k) e h = absurd (none-some h)

      pub at-section : (n : ℕ) (j : Instruction) → nth (section_of img z) n ≡ some j → Allowed img z n j
      at-section n j h =
          let hL : nth L n ≡ some j = subst (λ (q : List Instruction). nth q n ≡ some j) (section-is z) h in
          let r = nth-instructions t (section_code z p) n j hL in
          subst (λ (q : Instruction). Allowed img z n q) (sym r.2) (at_code n r.0 (hL ∙ ap some r.2) r.1)

      pub section-short : length (section_of img z) ≤ instruction_count
      section-short = leb-true (length (section_of img z)) instruction_count (and_left _ _ small)

    pub section-some : 1 ≤ length (section_of img z)
    section-some = omega (arith, long-code, ap (λ (q : List Instruction). length q) (section-is z))

  -- ---- the image

  -- what the instructions name, by what a sound one names
  module _ {A : Type 0} (f : Operand → List A) (P : A → Type 0) (none_named : Each P (f nothing))
      (one : (in_main : Bool) (i : Emitted) → Sound 1 s (Listed 1 s p) in_main i → Each P (f i.operand)) where
    named-of : (in_main : Bool) (l : List Emitted) → AllSound 1 s (Listed 1 s p) in_main l → Each P (operands_by f l)
    unfolding operands_by
    named-of in_main [] h = tt
    named-of in_main (i ∷ l) h =
        each-join P (f i.operand) (operands_by f l) (one in_main i h.0) (named-of in_main l h.1)

    section-named : FineP 1 s (Listed 1 s p) p → (z : Section) → Each P (operands_by f (section_code z p))
    unfolding operands_by
    section-named fine z =
        subst (λ (q : List Emitted). Each P (operands_by f q)) (sym (code_is z))
        (join-named f P (body z) (emitted (flow section_end) 0 nothing ∷ [])
        (named-of (is_main 1 s (Listed 1 s p) z) (body z) (sound-parts 1 s (Listed 1 s p) z p fine (names-listed 1 s p)))
        (each-join P (f nothing) [] none_named tt))

    all_named : FineP 1 s (Listed 1 s p) p → Each P (operands_by f (all_code p))
    all_named fine =
        join-named f P (section_code begin p) (section_code main p ++ section_code end p) (section-named fine begin)
        (join-named f P (section_code main p) (section_code end p) (section-named fine main) (section-named fine end))

  one-ere : (in_main : Bool) (i : Emitted) → Sound 1 s (Listed 1 s p) in_main i → Each (Spelled 1 s) (ere_in i.operand)
  one-ere in_main i (plain a d e g) = tt
  one-ere in_main i (constant-sound c d a) = tt
  one-ere in_main i (get-sound v d a b) = tt
  one-ere in_main i (set-sound v d a b c) = tt
  one-ere in_main i (matches-sound r d a) = (a, tt)
  one-ere in_main i (match-sound r d a) = (a, tt)
  one-ere in_main i (jump-sound m d) = tt
  one-ere in_main i (branch-sound m d) = tt
  one-ere in_main i (print-sound m d a) = tt
  one-ere in_main i (next-sound r) = tt
  one-ere in_main i exit-sound = tt

  one-constant : (in_main : Bool) (i : Emitted) → Sound 1 s (Listed 1 s p) in_main i
      → Each (Said 1 s) (constant_in i.operand)
  one-constant in_main i (plain a d e g) = tt
  one-constant in_main i (constant-sound c d a) = (a, tt)
  one-constant in_main i (get-sound v d a b) = tt
  one-constant in_main i (set-sound v d a b c) = tt
  one-constant in_main i (matches-sound r d a) = tt
  one-constant in_main i (match-sound r d a) = tt
  one-constant in_main i (jump-sound m d) = tt
  one-constant in_main i (branch-sound m d) = tt
  one-constant in_main i (print-sound m d a) = tt
  one-constant in_main i (next-sound r) = tt
  one-constant in_main i exit-sound = tt

  module _ (fine : FineP 1 s (Listed 1 s p) p) where
    pub eres-spelled : Each (Spelled 1 s) t.eres
    unfolding tables_of
    eres-spelled =
        new-each same_bytes (Spelled 1 s) (operands_by ere_in (all_code p)) [] tt
        (all_named ere_in (Spelled 1 s) tt one-ere fine)

    pub constants-said : Each (Said 1 s) t.constants
    unfolding tables_of
    constants-said =
        new-each same_constant (Said 1 s) (operands_by constant_in (all_code p)) [] tt
        (all_named constant_in (Said 1 s) tt one-constant fine)

    short : (c : Constant) → small_constant c ≡ true → Short c
    short (number n) h = tt
    short (text l) h = leb-true (length l) text_bytes h

    module _ (small : fits img ≡ true) where
      first-sizes : sizes img ≡ true
      unfolding fits
      first-sizes = and_left (sizes img) _ small

      rest-sizes : (leb (length img.constants) constant_count && (all small_constant img.constants && leb (length img.eres) ere_count)) ≡ true
      rest-sizes = and_right (leb img.users user_names) _ first-sizes

      sections-fit : (z : Section) → section_fits (section_of img z) ≡ true
      unfolding fits
      sections-fit begin = and_left (section_fits img.begin) _ (and_right (sizes img) _ small)
      sections-fit main = and_left (section_fits img.main) _ (and_right (section_fits img.begin) _ (and_right (sizes img) _ small))
      sections-fit end = and_right (section_fits img.main) _ (and_right (section_fits img.begin) _ (and_right (sizes img) _ small))

      pub checked : Checked img
      checked =
          record {
            users = leb-true img.users user_names (and_left (leb img.users user_names) _ first-sizes);
            constants = leb-true (length img.constants) constant_count (and_left (leb (length img.constants) constant_count) _ rest-sizes);
            texts = λ n a h. short a (all-at small_constant img.constants n a
                (and_left (all small_constant img.constants) _ (and_right (leb (length img.constants) constant_count) _ rest-sizes)) h);
            eres = leb-true (length img.eres) ere_count
                (and_right (all small_constant img.constants) _ (and_right (leb (length img.constants) constant_count) _ rest-sizes));
            reads = λ n l h. each_at (λ (r : List ℕ). (e : Ere Class) × (read_ere img.edition r ≡ some e)) img.eres n l
                (subst (λ (v : ℕ). Each (λ (r : List ℕ). (e : Ere Class) × (read_ere v r ≡ some e)) img.eres) (sym edition-is)
                (subst (λ (q : List (List ℕ)). Each (Readable 1 s) q) (sym eres-is)
                (each_map (Spelled 1 s) (Readable 1 s) t.eres (λ r x. x.0) eres-spelled))) h;
            some_code = section-some;
            few = λ z. section-short z fine (sections-fit z);
            each_one = λ z n j h. at-section z fine (sections-fit z) n j h;
          }

pub program-fine : (s : List ℕ) (p : Program) (t : Token) → read_program 1 s ≡ ok p t → FineP 1 s (Listed 1 s p) p
program-fine s p t e =
    (subst (λ (r : Read Program). Good 1 s (Spelled 1 s) (IsName 1 s) (Said 1 s) (FineP 1 s (Listed 1 s p)) r) e (read-fine 1 s)).0

-- a text of edition 1 that is read to a program whose image fits: the image passes the check
pub compiled-passes : (s : List ℕ) → CompiledPasses 1 s
compiled-passes s p t e small = (check-exactly (image_of 1 p)).1 (checked s p (program-fine s p t e) small)

-- "Each image that `translate` writes passes the check": on outcome 0 the room begins with the bytes of such an image
pub record Written (s room : List ℕ) : Type 0 where
  pub program : Program
  pub last : Token
  pub reads : read_program 1 s ≡ ok program last
  pub fitting : fits (image_of 1 program) ≡ true
  pub passes : check (image_of 1 program) ≡ true
  pub answer : translate_of 1 s room
      ≡ record { outcome = done; place = length (bytes_of (image_of 1 program)); room = bytes_of (image_of 1 program) ++ drop (length (bytes_of (image_of 1 program))) room }

pub written-passes : (s room : List ℕ) → (translate_of 1 s room).outcome ≡ done → Written s room
unfolding translate_of of_program sized stored
written-passes s room h = long (ltb filter_text (length s)) refl
  where
    program : Translation
    program = of_program room 1 s (read_program 1 s)

    zero_one : {A : Type 0} → (n : ℕ) → n ≡ 0 → 1 ≤ n → A
    zero_one n e l = absurd (omega (arith, e, l))

    image : (p : Program) (t : Token) → read_program 1 s ≡ ok p t → (a b : Bool) → fits (image_of 1 p) ≡ a → leb (length (bytes_of (image_of 1 p))) (length room) ≡ b
        → translate_of 1 s room ≡ cond a (cond b (record { outcome = done; place = length (bytes_of (image_of 1 p)); room = bytes_of (image_of 1 p) ++ drop (length (bytes_of (image_of 1 p))) room }) (refused room room_too_small (length s))) (refused room size_passed (length s))
        → Written s room
    image p t e true true f g w =
        let h = compiled-passes s p t e f in
        record { program = p; last = t; reads = e; fitting = f; passes = h; answer = w }
    image p t e true false f g w = zero_one _ (sym (ap (λ (r : Translation). r.outcome) w) ∙ h) (omega arith)
    image p t e false b f g w = zero_one _ (sym (ap (λ (r : Translation). r.outcome) w) ∙ h) (omega arith)

    reading : (r : Read Program) → read_program 1 s ≡ r → Good 1 s (Spelled 1 s) (IsName 1 s) (Said 1 s) (FineP 1 s (Listed 1 s [])) r → translate_of 1 s room ≡ of_program room 1 s r → Written s room
    reading (no outcome place) e g w = zero_one outcome (sym (ap (λ (r : Translation). r.outcome) w) ∙ h) g
    reading (ok p t) e g w = image p t e (fits (image_of 1 p)) (leb (length (bytes_of (image_of 1 p))) (length room)) refl refl w

    nul : (b : Bool) → ltb (before_nul s) (length s) ≡ b → translate_of 1 s room ≡ cond b (refused room nul_byte (before_nul s)) program → Written s room
    nul true e w = zero_one _ (sym (ap (λ (r : Translation). r.outcome) w) ∙ h) (omega arith)
    nul false e w = reading (read_program 1 s) refl (read-fine 1 s) w

    long : (b : Bool) → ltb filter_text (length s) ≡ b → Written s room
    long b e = after b (ap (λ (x : Bool). cond x (refused room filter_text_too_long filter_text) (cond (ltb (before_nul s) (length s)) (refused room nul_byte (before_nul s)) program)) e)
      where
        after : (b : Bool) → translate_of 1 s room ≡ cond b (refused room filter_text_too_long filter_text) (cond (ltb (before_nul s) (length s)) (refused room nul_byte (before_nul s)) program) → Written s room
        after true w = zero_one _ (sym (ap (λ (r : Translation). r.outcome) w) ∙ h) (omega arith)
        after false w = nul (ltb (before_nul s) (length s)) refl w
