-- Document 01, "The image": the check. "sizes; every number named exists; EREs read; code 0 last in its section and
-- only there; depth 0 at its start, at 0, 30 and 31, and at most 32; each successor inside the section and its depth as
-- the instruction leaves it; enough operands; print's n from 1; no set of 0, 1, 5, 6; 30 only in the record section."
use Rattle.std.specs.Prelude.{Bool, true, false, not, cond, ◌&&◌, ◌||◌, List, [], ◌∷◌, ℕ, zero, suc, ◌+◌, ◌-◌, length, eqb, ltb, leb}
use Rattle.std.proofs.Math.Option.{Option, some, none}
use Rattle.lists.specs.Elements.{nth, all, all_from, is_some, agree}
use Rattle.edition.specs.Limits.{text_bytes, user_names, constant_count, ere_count, instruction_count, operand_depth}
use Rattle.ere_grammar.specs.Read.{read_ere}
use Rattle.image_format.specs.Codes.{ImmediateKind, a-constant, a_variable, an_assignable_variable, an_ere, an-instruction, a_positive_count, Code, code_of, Operation, action, flow, section_end, jump, jump-if-false, next, exit}
use Rattle.image_format.specs.Image.{Constant, number, text, Instruction, Image, known}
use Rattle.semantics.specs.Variables.{assignable}
use Rattle.semantics.specs.World.{variable_count}
use Rattle.semantics.specs.Moves.{Section, begin, main, end, section_of, in_main, is_end}

-- ---- sizes

abbrev pub small_constant : Constant → Bool
small_constant (number n) = true
small_constant (text l) = leb (length l) text_bytes

-- ---- one instruction

-- "depth 0 .. at 0, 30 and 31": a section, a record or the run is over there
abbrev pub terminates : Operation → Bool
terminates (action a) = false
terminates (flow section_end) = true
terminates (flow jump) = false
terminates (flow jump-if-false) = false
terminates (flow next) = true
terminates (flow exit) = true

-- where instruction n leads, in the section
abbrev pub successors : Operation → ℕ → List ℕ → List ℕ
successors (action a) n ns = suc n ∷ []
successors (flow section_end) n ns = []
successors (flow jump) n ns = ns
successors (flow jump-if-false) n ns = suc n ∷ ns
successors (flow next) n ns = []
successors (flow exit) n ns = []

abbrev pub depth_is : ℕ → Option Instruction → Bool
depth_is d none = false
depth_is d (some j) = eqb j.depth d

-- "30 only in the record section"
abbrev pub is_next : Operation → Bool
is_next (action a) = false
is_next (flow section_end) = false
is_next (flow jump) = false
is_next (flow jump-if-false) = false
is_next (flow next) = true
is_next (flow exit) = false

module _ (i : Image) where
  -- ---- sizes, and EREs

  abbrev pub eres_read : Bool
  eres_read = all (λ l. is_some (read_ere i.edition l)) i.eres

  abbrev pub sizes : Bool
  sizes = leb i.users user_names && (leb (length i.constants) constant_count
      && (all small_constant i.constants && leb (length i.eres) ere_count))

  module _ (s : Section) where
    -- ---- one instruction

    -- "every number named exists"; "print's n from 1; no set of 0, 1, 5, 6"
    abbrev pub exists : ImmediateKind → ℕ → Bool
    exists a-constant n = ltb n (length i.constants)
    exists a_variable n = ltb n (variable_count i)
    exists an_assignable_variable n = ltb n (variable_count i) && assignable i.edition n
    exists an_ere n = ltb n (length i.eres)
    exists an-instruction n = ltb n (length (section_of i s))
    exists a_positive_count n = leb 1 n

    abbrev pub all_exist : List ImmediateKind → List ℕ → Bool
    all_exist [] [] = true
    all_exist [] (n ∷ ns) = false
    all_exist (k ∷ ks) [] = false
    all_exist (k ∷ ks) (n ∷ ns) = exists k n && all_exist ks ns

    -- the clauses on one instruction, by its code
    unfoldable pub holds_for : ℕ → Instruction → Code → Bool
    holds_for n j k =
        let ns = j.immediates in
        let d = j.depth in
        all_exist k.immediates ns
        && (agree (is_end k.operation) (eqb (suc n) (length (section_of i s)))
        && ((not (eqb n 0) || eqb d 0)
        && ((not (terminates k.operation) || eqb d 0)
        && (leb d operand_depth && (leb (k.pops ns) d
        && (all
        (λ m. depth_is (d - k.pops ns + k.pushes ns) (nth (section_of i s) m)) (successors k.operation n ns)
        && (not (is_next k.operation) || in_main s)))))))

    abbrev pub by_code : ℕ → Instruction → Option Code → Bool
    by_code n j none = false
    by_code n j (some k) = holds_for n j k

    abbrev pub instruction_checks : ℕ → Instruction → Bool
    instruction_checks n j = by_code n j (code_of i.edition j.code)

    -- a section has its code 0, so it isn't empty
    abbrev pub section_checks : Bool
    section_checks = leb 1 (length (section_of i s))
        && (leb (length (section_of i s)) instruction_count && all_from instruction_checks 0 (section_of i s))

  unfoldable pub check : Bool
  check = sizes && (eres_read && (section_checks begin && (section_checks main && section_checks end)))
