-- The check is true exactly if its clauses hold.
use mathlib.Core.Path.{◌≡◌, refl, sym, ap, subst, ◌∙◌}
use mathlib.Core.Bool.{true, false≢true}
use mathlib.Core.Logic.{◌↔◌, ◌⊎◌, inl, inr}
use mathlib.Core.List.{List, [], ◌∷◌}
use mathlib.Core.Option.{Option, some, none}
use Prim.Native.Nat.{ℕ, suc, ◌+◌, ◌-◌, ◌≤◌, ◌<◌}
use native.Mathlib.Omega.{arith}
use lib.ListN.{length, get_or}
use Rattle.lists.proofs.Options.{some_one, none-some}
use Rattle.lists.proofs.Says.{Says, restated, leb-says, ltb-says, eqb-says, and-says, agree-says, if-says, is_some-says, all-says, all-places, numbered-says}
use Rattle.lists.specs.Elements.{nth}
use Rattle.edition.specs.Limits.{text_bytes, user_names, constant_count, ere_count, instruction_count, operand_depth}
use Rattle.ere_grammar.specs.Read.{read_ere}
use Rattle.image_format.specs.Codes.{ImmediateKind, a-constant, a_variable, an_assignable_variable, an_ere, an-instruction, a_positive_count, Code, code_of, Operation, action, flow, section_end, jump, jump-if-false, next, exit}
use Rattle.image_format.specs.Image.{Constant, number, text, Instruction, Image}
use Rattle.semantics.specs.Moves.{Section, begin, main, end, section_of, in_main, is_end}
use Rattle.semantics.specs.Check.{exists, small_constant, all_exist, terminates, successors, depth_is, is_next, holds_for, by_code, instruction_checks, section_checks, check}
use Rattle.semantics.specs.Checked.{Exists, AllExist, Allowed, Short, Checked}

-- ---- the tests that an instruction is judged by

-- at which operations the depth is 0: end, next, exit
abbrev Over : Operation → Type 0
Over o = (o ≡ flow section_end) ⊎ ((o ≡ flow next) ⊎ (o ≡ flow exit))

small-says : (a : Constant) → Says (small_constant a) (Short a)
small-says (number n) = (λ h. tt, λ h. refl)
small-says (text l) = leb-says (length l) text_bytes

is_end-says : (o : Operation) → Says (is_end o) (o ≡ flow section_end)
is_end-says o = (is o, λ e. ap (is_end) e)
  where
    is : (o : Operation) → is_end o ≡ true → o ≡ flow section_end
    is (action a) h = absurd (false≢true h)
    is (flow section_end) h = refl
    is (flow jump) h = absurd (false≢true h)
    is (flow jump-if-false) h = absurd (false≢true h)
    is (flow next) h = absurd (false≢true h)
    is (flow exit) h = absurd (false≢true h)

terminates-says : (o : Operation) → Says (terminates o) (Over o)
terminates-says o = (is o, back)
  where
    is : (o : Operation) → terminates o ≡ true → Over o
    is (action a) h = absurd (false≢true h)
    is (flow section_end) h = inl refl
    is (flow jump) h = absurd (false≢true h)
    is (flow jump-if-false) h = absurd (false≢true h)
    is (flow next) h = inr (inl refl)
    is (flow exit) h = inr (inr refl)

    back : Over o → terminates o ≡ true
    back (inl e) = ap terminates e
    back (inr (inl e)) = ap terminates e
    back (inr (inr e)) = ap terminates e

is_next-says : (o : Operation) → Says (is_next o) (o ≡ flow next)
is_next-says o = (is o, λ e. ap is_next e)
  where
    is : (o : Operation) → is_next o ≡ true → o ≡ flow next
    is (action a) h = absurd (false≢true h)
    is (flow section_end) h = absurd (false≢true h)
    is (flow jump) h = absurd (false≢true h)
    is (flow jump-if-false) h = absurd (false≢true h)
    is (flow next) h = refl
    is (flow exit) h = absurd (false≢true h)

depth_is-says : (d : ℕ) (o : Option Instruction) → Says (depth_is d o) ((j : Instruction) × (o ≡ some j) × (j.depth ≡ d))
depth_is-says d none = (λ h. absurd (false≢true h), λ x. absurd (none-some x.1))
depth_is-says d (some j) = restated (eqb-says j.depth d) (λ e. (j, refl, e)) (λ x. ap (λ (j : Instruction). j.depth) (some_one refl x.1) ∙ x.2)

in_main-says : (s : Section) → Says (in_main s) (s ≡ main)
in_main-says s = (is s, λ e. ap in_main e)
  where
    is : (s : Section) → in_main s ≡ true → s ≡ main
    is begin h = absurd (false≢true h)
    is main h = refl
    is end h = absurd (false≢true h)

module _ (i : Image) where
  module _ (s : Section) where
    exists-says : (k : ImmediateKind) (n : ℕ) → Says (exists i s k n) (Exists i s k n)
    exists-says a-constant n = ltb-says _ _
    exists-says a_variable n = ltb-says _ _
    exists-says an_assignable_variable n = and-says (ltb-says _ _) (λ h. h, λ h. h)
    exists-says an_ere n = ltb-says _ _
    exists-says an-instruction n = ltb-says _ _
    exists-says a_positive_count n = leb-says 1 n

    all_exist-says : (ks : List ImmediateKind) (ns : List ℕ) → Says (all_exist i s ks ns) (AllExist i s ks ns)
    all_exist-says [] [] = (λ h. tt, λ h. refl)
    all_exist-says [] (n ∷ ns) = (λ h. false≢true h, λ h. absurd h)
    all_exist-says (k ∷ ks) [] = (λ h. false≢true h, λ h. absurd h)
    all_exist-says (k ∷ ks) (n ∷ ns) = and-says (exists-says k n) (all_exist-says ks ns)

    -- a code that names one thing has one number, and that thing exists
    pub single : (k : ImmediateKind) (ns : List ℕ) → AllExist i s (k ∷ []) ns → (n : ℕ) × (ns ≡ n ∷ []) × (Exists i s k n)
    single k [] x = absurd x
    single k (n ∷ []) x = (n, refl, x.0)
    single k (n ∷ m ∷ l) x = absurd x.1

    -- ---- one instruction

    abbrev Leads : ℕ → Instruction → Code → Type 0
    Leads n j k =
        (m : ℕ) → m < length (successors k.operation n j.immediates)
        → (d : Instruction) × (nth (section_of i s) (get_or (successors k.operation n j.immediates) m 0) ≡ some d)
        × (d.depth ≡ j.depth - k.pops j.immediates + k.pushes j.immediates)

    -- the clauses in the check's order
    abbrev Holds : ℕ → Instruction → Code → Type 0
    Holds n j k =
        (AllExist i s k.immediates j.immediates)
        × (((k.operation ≡ flow section_end) ↔ (suc n ≡ length (section_of i s)))
        × ((n ≡ 0 → j.depth ≡ 0)
        × ((Over k.operation → j.depth ≡ 0)
        × ((j.depth ≤ operand_depth) × ((k.pops j.immediates ≤ j.depth) × ((Leads n j k) × (k.operation ≡ flow next → s ≡ main)))))))

    holds-says : (n : ℕ) (j : Instruction) (k : Code) → Says (holds_for i s n j k) (Holds n j k)
    unfolding holds_for
    holds-says n j k =
        and-says (all_exist-says k.immediates j.immediates)
        (and-says (agree-says (is_end-says k.operation) (eqb-says (suc n) (length (section_of i s))))
        (and-says (if-says (eqb-says n 0) (eqb-says j.depth 0))
        (and-says (if-says (terminates-says k.operation) (eqb-says j.depth 0))
        (and-says (leb-says j.depth operand_depth)
        (and-says (leb-says (k.pops j.immediates) j.depth)
        (and-says (all-places (λ (m : ℕ). depth_is-says _ (nth (section_of i s) m)) 0 (successors k.operation n j.immediates))
        (if-says (is_next-says k.operation) (in_main-says s))))))))

    allowed-holds : (n : ℕ) (j : Instruction) (a : Allowed i s n j) → Holds n j a.row
    allowed-holds n j a =
        (a.exist, (a.last, (a.start, (over, (a.deep, (a.enough, (a.leads, a.nexts)))))))
      where
        over : Over a.row.operation → j.depth ≡ 0
        over (inl e) = a.at-end e
        over (inr (inl e)) = a.at_next e
        over (inr (inr e)) = a.at_exit e

    instruction-says : (n : ℕ) (j : Instruction) → Says (instruction_checks i s n j) (Allowed i s n j)
    instruction-says n j = by (code_of i.edition j.code) refl
      where
        by : (o : Option Code) → code_of i.edition j.code ≡ o → Says (by_code i s n j o) (Allowed i s n j)
        by none e = (λ h. absurd (false≢true h), λ a. absurd (none-some (sym e ∙ a.code)))
        by (some k) e =
            restated (holds-says n j k)
            (λ h. record {
              row = k;
              code = e;
              exist = h.0;
              last = h.1.0;
              start = h.1.1.0;
              at-end = λ q. h.1.1.1.0 (inl q);
              at_next = λ q. h.1.1.1.0 (inr (inl q));
              at_exit = λ q. h.1.1.1.0 (inr (inr q));
              deep = h.1.1.1.1.0;
              enough = h.1.1.1.1.1.0;
              leads = h.1.1.1.1.1.1.0;
              nexts = h.1.1.1.1.1.1.1;
            }) (λ a. subst (λ (k : Code). Holds n j k) (some_one a.code e) (allowed-holds n j a))

    -- ---- a section

    abbrev Section-holds : Type 0
    Section-holds =
        (1 ≤ length (section_of i s))
        × ((length (section_of i s) ≤ instruction_count) × ((n : ℕ) (j : Instruction) → nth (section_of i s) n ≡ some j → Allowed i s n j))

    section-says : Says (section_checks i s) Section-holds
    section-says =
        and-says (leb-says 1 (length (section_of i s)))
        (and-says (leb-says (length (section_of i s)) instruction_count) (numbered-says instruction-says (section_of i s)))

  -- ---- the image

  every-section : (Section-holds begin) × ((Section-holds main) × (Section-holds end)) → (s : Section) → Section-holds s
  every-section h begin = h.0
  every-section h main = h.1.0
  every-section h end = h.1.1

  -- the check of an image is true exactly if 01's clauses hold
  pub check-exactly : (check i ≡ true) ↔ Checked i
  unfolding check
  check-exactly =
      restated
      (and-says (and-says (leb-says i.users user_names) (and-says (leb-says (length i.constants) constant_count)
      (and-says (all-says small-says i.constants) (leb-says (length i.eres) ere_count))))
      (and-says (all-says (λ (l : List ℕ). is_some-says (read_ere i.edition l)) i.eres)
      (and-says (section-says begin) (and-says (section-says main) (section-says end)))))
      (λ h. record {
        users = h.0.0;
        constants = h.0.1.0;
        texts = h.0.1.1.0;
        eres = h.0.1.1.1;
        reads = h.1.0;
        some_code = λ s. (every-section h.1.1 s).0;
        few = λ s. (every-section h.1.1 s).1.0;
        each_one = λ s. (every-section h.1.1 s).1.1;
      }) (λ c. (
        (c.users, (c.constants, (c.texts, c.eres))),
        (c.reads, (section c begin, (section c main, section c end))),
      ))
    where
      section : Checked i → (s : Section) → Section-holds s
      section c s = (c.some_code s, (c.few s, c.each_one s))
