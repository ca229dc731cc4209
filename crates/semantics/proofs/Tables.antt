-- The table of codes has one row for each operation, so that a row is told from its operation; and laws on what is in a
-- list.
use mathlib.Core.Path.{◌≡◌, refl}
use mathlib.Core.List.{List, [], ◌∷◌}
use mathlib.Core.Option.{some}
use Prim.Native.Nat.{ℕ, zero, suc, ◌<◌}
use native.Mathlib.Omega.{arith}
use lib.ListN.{length}
use Rattle.lists.proofs.Elements.{every-at}
use Rattle.lists.specs.Elements.{nth, Every, empty, cons}
use Rattle.image_format.proofs.Codes.{code_row}
use Rattle.image_format.specs.Codes.{a-constant, a_variable, an_assignable_variable, an_ere, an-instruction, Code, code, printing, codes, code_of, Operation, action, flow, constant, get, set, field, set-field, drop, arithmetic, negate, to_number, negation, compare, join, matches, match, length-of, index, substr, print, section_end, jump, jump-if-false, next, exit}

-- a number below the length has an element
pub nth-some : {A : Type 0} (l : List A) (n : ℕ) → n < length l → (a : A) × (nth l n ≡ some a)
unfolding nth
nth-some [] n h = absurd (omega arith)
nth-some (a ∷ l) zero h = (a, refl)
nth-some (a ∷ l) (suc n) h = nth-some l n (omega arith)

-- the row of an operation
abbrev pub row_of : Operation → Code
row_of (action constant) = code (action constant) 0 1 (a-constant ∷ [])
row_of (action get) = code (action get) 0 1 (a_variable ∷ [])
row_of (action set) = code (action set) 1 1 (an_assignable_variable ∷ [])
row_of (action field) = code (action field) 1 1 []
row_of (action set-field) = code (action set-field) 2 1 []
row_of (action drop) = code (action drop) 1 0 []
row_of (action (arithmetic o)) = code (action (arithmetic o)) 2 1 []
row_of (action negate) = code (action negate) 1 1 []
row_of (action to_number) = code (action to_number) 1 1 []
row_of (action negation) = code (action negation) 1 1 []
row_of (action (compare o)) = code (action (compare o)) 2 1 []
row_of (action join) = code (action join) 2 1 []
row_of (action matches) = code (action matches) 1 1 (an_ere ∷ [])
row_of (action match) = code (action match) 1 1 (an_ere ∷ [])
row_of (action length-of) = code (action length-of) 1 1 []
row_of (action index) = code (action index) 2 1 []
row_of (action substr) = code (action substr) 3 1 []
row_of (action print) = printing
row_of (flow section_end) = code (flow section_end) 0 0 []
row_of (flow jump) = code (flow jump) 0 0 (an-instruction ∷ [])
row_of (flow jump-if-false) = code (flow jump-if-false) 1 0 (an-instruction ∷ [])
row_of (flow next) = code (flow next) 0 0 []
row_of (flow exit) = code (flow exit) 0 0 []

-- each row of the table is its operation's
rows_are : Every (λ (k : Code). k ≡ row_of k.operation) codes
unfolding codes
rows_are = search (cons, empty) depth 80 fits 2000

pub row_is : (edition n : ℕ) (k : Code) → code_of edition n ≡ some k → k ≡ row_of k.operation
row_is edition n k h = every-at rows_are n k (code_row edition n h)
