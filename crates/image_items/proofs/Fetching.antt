-- An instruction from a place on, by the numbers that were taken there.
use mathlib.Core.Path.{◌≡◌, refl, sym, ap₂, subst, ◌∙◌}
use mathlib.Core.Bool.{Bool, true, false}
use mathlib.Core.List.{List, [], ◌∷◌}
use mathlib.Core.Option.{Option, some, none}
use Prim.Native.Nat.{ℕ, zero, suc, ◌≤◌, ◌<◌}
use native.Mathlib.Omega.{arith}
use lib.ListN.{length, take, drop}
use lib.Dec.{ltb}
use borrow.Author.Tests.{ltb-true, le-ltb}
use Rattle.lists.proofs.Many.{on}
use Rattle.lists.specs.Parsing.{Parsed, parsed, Parser, bind, succeed, many}
use Rattle.image_format.specs.Codes.{Code, code_count, code_of}
use Rattle.image_format.specs.Image.{Instruction}
use Rattle.image_format.specs.Numbers.{take_number}
use Rattle.image_format.specs.Reading.{from_bytes, instruction, instruction_of}
use Rattle.opcodes.specs.Rows.{is_known, operands_in}
use Rattle.opcodes.proofs.Below.{known-below}
use Rattle.varint.specs.Take.{TakesAt}
use Rattle.std.specs.Prelude.{Option as Answer, Some, None}
use Rattle.image_items.specs.Stands.{take_named, IsOperand, OperandAt, AreNumbers, NumbersAt, InstructionAt, instruction_of as instruction_in}
use Rattle.image_items.specs.declared.items.Fetched.{Fetched}
use Rattle.image_items.proofs.Standing.{never}

-- ---- the numbers that a code names

-- up to two, one after the other
abbrev two : ℕ → Parser (List ℕ)
two n l = bind (take_named (ltb 0 n) l) (λ a l. bind (take_named (ltb 1 n) l) (λ b. succeed (take n (a ∷ b ∷ []))))

many-two : (n : ℕ) → n ≤ 2 → (l : List ℕ) → many take_number n l ≡ two n l
unfolding many
many-two zero h l = refl
many-two (suc zero) h l = refl
many-two (suc (suc zero)) h l = by (take_number l)
  where
    inner : (a : ℕ) (o : Option (Parsed ℕ))
        → bind (bind o (λ b l. parsed (b ∷ []) l)) (λ rest. succeed (a ∷ rest)) ≡ bind o (λ b. succeed (a ∷ b ∷ []))
    inner a none = refl
    inner a (some g) = refl

    by : (o : Option (Parsed ℕ))
        → bind o (λ a l. bind (bind (take_number l) (λ b l. parsed (b ∷ []) l)) (λ rest. succeed (a ∷ rest)))
        ≡ bind o (λ a l. bind (take_number l) (λ b. succeed (a ∷ b ∷ [])))
    by none = refl
    by (some g) = inner g.value (take_number g.rest)
many-two (suc (suc (suc n))) h l = absurd (omega arith)

module _ (named : Bool) (l : List ℕ) (at : ℕ) where
  pub operand-none : named ≡ false → at ≤ length l → IsOperand named l at (0, at)
  operand-none e h = rw e (record { found = refl; forward = omega arith; inside = h; plain = λ z. refl })

  pub operand-there : named ≡ true → (r : Answer (ℕ × ℕ)) → TakesAt l at r → OperandAt named l at r
  operand-there e None t = rw e t
  operand-there e (Some r) t = rw e (record { found = t.0; forward = omega (arith, t.1); inside = t.2; plain = λ z. never z refl })

module _ (n code depth : ℕ) (few : n ≤ 2) (l : List ℕ) (at : ℕ) where
  -- what follows the first number, and what the second
  abbrev behind_first : ℕ → Parser (List ℕ)
  behind_first a l = bind (take_named (ltb 1 n) l) (λ b. succeed (take n (a ∷ b ∷ [])))

  pub first-missing : {m : ℕ} → n ≡ m → take_named (ltb 0 n) (drop at l) ≡ none → many take_number m (drop at l) ≡ none
  first-missing m h = rw (← m) (many-two n few (drop at l) ∙ on behind_first h)

  module _ (x : ℕ × ℕ) (p : IsOperand (ltb 0 n) l at x) where
    abbrev behind_second : ℕ → Parser (List ℕ)
    behind_second b = succeed (take n (x.0 ∷ b ∷ []))

    first-there : many take_number n (drop at l) ≡ behind_first x.0 (drop x.1 l)
    first-there = many-two n few (drop at l) ∙ on behind_first p.found

    pub second-missing : {m : ℕ} → n ≡ m → take_named (ltb 1 n) (drop x.1 l) ≡ none → many take_number m (drop at l) ≡ none
    second-missing m h = rw (← m) (first-there ∙ on behind_second h)

    pub numbers-there : {m : ℕ} → n ≡ m → (y : ℕ × ℕ) → IsOperand (ltb 1 n) l x.1 y
        → AreNumbers m code depth l at (record { code = code; depth = depth; first = x.0; second = y.0; end = y.1 })
    numbers-there m y q =
        rw (← m)
        (record {
          found = first-there ∙ on behind_second q.found;
          forward = omega (arith, p.forward, q.forward);
          inside = q.inside;
          same_code = refl;
          same_depth = refl;
          no_first = λ z. p.plain (le-ltb 0 n (omega arith));
          no_second = λ z. q.plain (le-ltb 1 n z);
        })

-- ---- the instruction

-- after a code that names n things
abbrev numbers : ℕ → ℕ → Parser Instruction
numbers code n l =
    bind (take_number l) (λ depth l. bind (many take_number n l) (λ named. succeed (record { code = code; depth = depth; immediates = named })))

code-there : (code : ℕ) (o : Option Code) (l : List ℕ) → is_known o ≡ true → instruction_of from_bytes code o l ≡ numbers code (operands_in o) l
code-there code none l h = never refl h
code-there code (some k) l h = refl

code-none : (code : ℕ) (o : Option Code) (l : List ℕ) → is_known o ≡ false → instruction_of from_bytes code o l ≡ none
code-none code none l h = refl
code-none code (some k) l h = never h refl

module _ (edition : ℕ) (l : List ℕ) (at : ℕ) where
  pub code-missing : take_number (drop at l) ≡ none → instruction from_bytes edition (drop at l) ≡ none
  code-missing t = on (λ c. instruction_of from_bytes c (code_of edition c)) t

  module _ (code behind : ℕ) (t : TakesAt l at (Some (code, behind))) where
    on-code : instruction from_bytes edition (drop at l) ≡ instruction_of from_bytes code (code_of edition code) (drop behind l)
    on-code = on (λ c. instruction_of from_bytes c (code_of edition c)) t.0

    pub code-unknown : is_known (code_of edition code) ≡ false → instruction from_bytes edition (drop at l) ≡ none
    code-unknown h = on-code ∙ code-none code (code_of edition code) (drop behind l) h

    module _ (k : is_known (code_of edition code) ≡ true) where
      on-numbers : instruction from_bytes edition (drop at l) ≡ numbers code (operands_in (code_of edition code)) (drop behind l)
      on-numbers = on-code ∙ code-there code (code_of edition code) (drop behind l) k

      pub code_below : code < code_count edition
      code_below = ltb-true code (code_count edition) (sym (known-below edition code) ∙ k)

      -- what follows the depth
      abbrev behind_depth : ℕ → Parser Instruction
      behind_depth depth l =
          bind (many take_number (operands_in (code_of edition code)) l) (λ named. succeed (record { code = code; depth = depth; immediates = named }))

      pub depth-missing : take_number (drop behind l) ≡ none → instruction from_bytes edition (drop at l) ≡ none
      depth-missing e = on-numbers ∙ on behind_depth e

      module _ (depth last : ℕ) (d : TakesAt l behind (Some (depth, last))) where
        made : (named : List ℕ) → Parser Instruction
        made named = succeed (record { code = code; depth = depth; immediates = named })

        pub depth-there : (r : Answer Fetched) → NumbersAt (operands_in (code_of edition code)) code depth l last r
            → InstructionAt edition l at r
        unfolding made
        depth-there None y = on-numbers ∙ on behind_depth d.0 ∙ on made y
        depth-there (Some r) y =
            record {
              found = record {
                taken =
                    on-numbers
                    ∙ on behind_depth d.0
                    ∙ on made y.found
                    ∙ ap₂ (λ (c m : ℕ). parsed (instruction_in edition c m r.first r.second) (drop r.end l)) (sym y.same_code) (sym y.same_depth);
                forward = omega (arith, t.1, d.1, y.forward);
                inside = y.inside;
              };
              known = rw y.same_code code_below;
              no_first = subst (λ (c : ℕ). operands_in (code_of edition c) ≡ 0 → r.first ≡ 0) (sym y.same_code) y.no_first;
              no_second = subst (λ (c : ℕ). operands_in (code_of edition c) ≤ 1 → r.second ≡ 0) (sym y.same_code) y.no_second;
            }
