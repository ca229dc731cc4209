-- The table of codes has each operation at its code, in edition 1.
use mathlib.Core.Path.{◌≡◌, refl, subst}
use mathlib.Core.List.{List, [], ◌∷◌}
use mathlib.Core.Option.{some}
use Prim.Native.Nat.{ℕ, zero, suc, ◌+◌}
use native.Mathlib.Omega.{arith}
use Rattle.lists.specs.Elements.{nth}
use Rattle.lists.proofs.Options.{some_one, none-some}
use Rattle.image_format.specs.Codes.{Code, codes, code_count, code_of, Operation, action, flow, add, subtract, multiply, divide, remainder, less, at-most, equal, different, greater, at-least, constant, get, set, field, set-field, drop, arithmetic, negate, to_number, negation, compare, join, matches, match, length-of, index, substr, print, section_end, jump, jump-if-false, next, exit}
use Rattle.image_format.proofs.Codes.{code_row}
use Rattle.semantics.proofs.Tables.{row_of}
use Rattle.program_code.specs.Emitted.{opcode, action_code, flow_code, arithmetic_code, comparison_code}

pub opcode-row : (o : Operation) → code_of 1 (opcode o) ≡ some (row_of o)
unfolding codes code_count code_of nth opcode action_code flow_code arithmetic_code comparison_code
opcode-row (action constant) = refl
opcode-row (action get) = refl
opcode-row (action set) = refl
opcode-row (action field) = refl
opcode-row (action set-field) = refl
opcode-row (action drop) = refl
opcode-row (action negate) = refl
opcode-row (action to_number) = refl
opcode-row (action negation) = refl
opcode-row (action join) = refl
opcode-row (action matches) = refl
opcode-row (action match) = refl
opcode-row (action length-of) = refl
opcode-row (action index) = refl
opcode-row (action substr) = refl
opcode-row (action print) = refl
opcode-row (action (arithmetic add)) = refl
opcode-row (action (arithmetic subtract)) = refl
opcode-row (action (arithmetic multiply)) = refl
opcode-row (action (arithmetic divide)) = refl
opcode-row (action (arithmetic remainder)) = refl
opcode-row (action (compare less)) = refl
opcode-row (action (compare at-most)) = refl
opcode-row (action (compare equal)) = refl
opcode-row (action (compare different)) = refl
opcode-row (action (compare greater)) = refl
opcode-row (action (compare at-least)) = refl
opcode-row (flow section_end) = refl
opcode-row (flow jump) = refl
opcode-row (flow jump-if-false) = refl
opcode-row (flow next) = refl
opcode-row (flow exit) = refl

-- the row of an operation has that operation
pub row-operation : (o : Operation) → (row_of o).operation ≡ o
row-operation (action constant) = refl
row-operation (action get) = refl
row-operation (action set) = refl
row-operation (action field) = refl
row-operation (action set-field) = refl
row-operation (action drop) = refl
row-operation (action (arithmetic o)) = refl
row-operation (action negate) = refl
row-operation (action to_number) = refl
row-operation (action negation) = refl
row-operation (action (compare o)) = refl
row-operation (action join) = refl
row-operation (action matches) = refl
row-operation (action match) = refl
row-operation (action length-of) = refl
row-operation (action index) = refl
row-operation (action substr) = refl
row-operation (action print) = refl
row-operation (flow section_end) = refl
row-operation (flow jump) = refl
row-operation (flow jump-if-false) = refl
row-operation (flow next) = refl
row-operation (flow exit) = refl

-- so the table has the operation o at its code
pub opcode-operation : (o : Operation) {k : Code} → code_of 1 (opcode o) ≡ some k → k.operation ≡ o
opcode-operation o h = subst (λ (x : Code). x.operation ≡ o) (some_one (opcode-row o) h) (row-operation o)

-- the codes of a table's operations count up from n
data Counts : ℕ → List Code → Type 0 where
  ends : {n : ℕ} → Counts n []
  goes : {n : ℕ} {k : Code} {l : List Code} → opcode k.operation ≡ n → Counts (suc n) l → Counts n (k ∷ l)

counts-at : (l : List Code) (m n : ℕ) {k : Code} → Counts m l → nth l n ≡ some k → opcode k.operation ≡ m + n
unfolding nth
counts-at [] m n ends e = absurd (none-some e)
counts-at (j ∷ l) m zero (goes h c) e =
    subst (λ (x : Code). opcode x.operation ≡ m + 0) (some_one refl e) (omega (arith, h))
counts-at (j ∷ l) m (suc n) (goes h c) e = omega (arith, counts-at l (suc m) n c e)

codes-count : Counts 0 codes
unfolding codes opcode action_code flow_code arithmetic_code comparison_code
codes-count = search (goes, ends) depth 80 fits 2000

-- and at no other code
pub operation-opcode : (n : ℕ) {k : Code} → code_of 1 n ≡ some k → opcode k.operation ≡ n
operation-opcode n h = omega (arith, counts-at codes 0 n codes-count (code_row 1 n h))
