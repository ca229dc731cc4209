-- The clauses on one instruction, taken one after the other.
use mathlib.Core.Path.{◌≡◌, refl}
use mathlib.Core.Bool.{Bool, true, false, not, cond, beq, ◌&&◌, ◌||◌, and-true}
use mathlib.Core.List.{List}
use Prim.Native.Nat.{ℕ, ◌+◌, ◌-◌, ◌/◌, ◌%◌, ◌<◌}
use native.Mathlib.Numerals.{add-one}
use native.Mathlib.Omega.{arith}
use lib.ListN.{get_or}
use lib.Dec.{eqb, leb}
use Rattle.lists.specs.Elements.{agree}
use Rattle.edition.specs.Limits.{operand_depth}
use Rattle.image_format.specs.Codes.{code_of}
use Rattle.opcodes.specs.Rows.{row_in, is_known}
use Rattle.image_index.specs.Lists.{numbers_of}
use Rattle.image_index.specs.declared.indexes.Numbers.{Numbers}
use Rattle.image_instructions.specs.Judge.{terminates_of, pops_of, exists_of, allowed_of, placed_of, leads_of, has_depth, judged_at}
use Rattle.image_instructions.specs.declared.context.Context.{Context}

-- four tests, and then another one
and_last : (a b c d x : Bool) → (a && (b && (c && (d && true))) && x) ≡ (a && (b && (c && (d && x))))
and_last true true true true x = refl
and_last true true true false x = refl
and_last true true false d x = refl
and_last true false c d x = refl
and_last false b c d x = refl

pub depth_small : (w : ℕ) {j : Numbers} → j ≡ numbers_of w → j.depth < 64
depth_small w e = rw e (omega arith)

-- two tests with different answers, and with the same
unlike : (a b : Bool) {x : Bool} → not (beq a b) ≡ x → not x ≡ agree a b
unlike true true e = rw (← e)
unlike true false e = rw (← e)
unlike false true e = rw (← e)
unlike false false e = rw (← e)

pub placed-as : (r : Context) (count n c d : ℕ) {x start terminates over : Bool} → not (beq (eqb c 0) (eqb (n + 1) count)) ≡ x
    → start ≡ (not (eqb n 0) || eqb d 0) → terminates ≡ terminates_of c → over ≡ (not terminates || eqb d 0)
    → (not x && (start && (over && leb d operand_depth))) ≡ placed_of r count n c d true
placed-as r count n c d e a l b =
    let last = rw add-one at (unlike (eqb c 0) (eqb (n + 1) count) e) in
    rw (last, a, b, l, and-true)

-- where an instruction leads that isn't the last and no jump: on, and then perhaps elsewhere too
pub leads-as : (r : Context) (count : ℕ) (has : ℕ → ℕ → Bool) (n c v after : ℕ) (x y : Bool) → terminates_of c ≡ false → eqb c 27 ≡ false
    → x ≡ has (n + 1) after → y ≡ cond (eqb c 28) (has v after && true) true → (x && y) ≡ leads_of r count has n c v after
leads-as r count has n c v after x y l j e f = rw (l, j, e, f, add-one)

-- an instruction is judged by the answers to the single clauses
module _ (r : Context) (index : List ℕ) (count n : ℕ) (j : Numbers) (e : j ≡ numbers_of (get_or index n 0)) where
  pub judged-as : {row taken : ℕ} {known first second placed enough leads allowed : Bool}
      → row ≡ row_in (code_of r.edition j.code) → taken ≡ pops_of row j.first
      → known ≡ is_known (code_of r.edition j.code)
      → first ≡ exists_of r count (row / 8 % 8) j.first → second ≡ exists_of r count (row / 64) j.second
      → placed ≡ placed_of r count n j.code j.depth true → enough ≡ leb taken j.depth
      → leads ≡ leads_of r count (has_depth index count) n j.code j.first (j.depth - taken + row / 4 % 2)
      → allowed ≡ allowed_of r j.code
      → (known && ((first && second) && (placed && (enough && (leads && allowed))))) ≡ judged_at r index count n
  unfolding judged_at
  judged-as q t k x y p m l a = rw (k, x, y, p, m, l, a, t, q, e, and_last)
