-- How many numbers a code names, by its row.
use mathlib.Core.Path.{◌≡◌, refl, sym}
use mathlib.Core.Bool.{Bool, true, false, cond}
use mathlib.Core.Option.{Option, some, none}
use Prim.Native.Nat.{ℕ, ◌/◌, ◌%◌, ◌≤◌}
use native.Mathlib.Omega.{arith}
use lib.ListN.{length}
use lib.Dec.{eqb}
use borrow.Author.Tests.{eq-eqb, ne_eqb}
use Rattle.lists.proofs.Elements.{every-at}
use Rattle.lists.specs.Elements.{Every, empty, cons}
use Rattle.image_format.specs.Codes.{Code, codes, code_of}
use Rattle.image_format.proofs.Codes.{code_row}
use Rattle.opcodes.specs.Rows.{row_number, row_in, operands_in}

-- none, one or two, by a row
abbrev by_row : ℕ → ℕ
by_row r = cond (eqb (r / 8 % 8) 0) 0 (cond (eqb (r / 64) 0) 1 2)

Counts : Code → Type 0
Counts k = by_row (row_number k) ≡ length k.immediates

all-count : Every Counts codes
unfolding Counts codes
all-count = search (cons, empty) depth 80 fits 2000

row_operands : (edition code : ℕ) → by_row (row_in (code_of edition code)) ≡ operands_in (code_of edition code)
unfolding Counts
row_operands edition code = by (code_of edition code) refl
  where
    by : (o : Option Code) → code_of edition code ≡ o → by_row (row_in o) ≡ operands_in o
    by none e = refl
    by (some k) e = every-at all-count code k (code_row edition code e)

-- by a row in hand
pub names_none : (edition code r : ℕ) → r ≡ row_in (code_of edition code) → r / 8 % 8 ≡ 0 → 0 ≡ operands_in (code_of edition code)
names_none edition code r k z = rw (eq-eqb (r / 8 % 8) 0 z) at (rw (sym k) at (row_operands edition code))

pub names-one : (edition code r : ℕ) → r ≡ row_in (code_of edition code) → (r / 8 % 8 ≡ 0 → ⊥) → r / 64 ≡ 0
    → 1 ≡ operands_in (code_of edition code)
names-one edition code r k z o = rw (ne_eqb (r / 8 % 8) 0 z, eq-eqb (r / 64) 0 o) at (rw (sym k) at (row_operands edition code))

pub names-two : (edition code r : ℕ) → r ≡ row_in (code_of edition code) → (r / 8 % 8 ≡ 0 → ⊥) → (r / 64 ≡ 0 → ⊥)
    → 2 ≡ operands_in (code_of edition code)
names-two edition code r k z o = rw (ne_eqb (r / 8 % 8) 0 z, ne_eqb (r / 64) 0 o) at (rw (sym k) at (row_operands edition code))

-- whatever the row
pub names-few : (edition code : ℕ) → operands_in (code_of edition code) ≤ 2
names-few edition code =
    let r = row_in (code_of edition code) in
    rw (sym (row_operands edition code)) (few (eqb (r / 8 % 8) 0) (eqb (r / 64) 0))
  where
    few : (a b : Bool) → cond a 0 (cond b 1 2) ≤ 2
    few true b = omega arith
    few false true = omega arith
    few false false = omega arith
