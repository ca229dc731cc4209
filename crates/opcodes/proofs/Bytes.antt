-- The rows, four of them in a word: what the code reads off is the definition's row, at each code.
use mathlib.Core.Path.{◌≡◌, refl, sym, ap}
use mathlib.Core.Bool.{Bool}
use mathlib.Core.List.{[], ◌∷◌}
use Prim.Native.Nat.{ℕ, ◌*◌, ◌^◌, ◌/◌, ◌%◌, ◌≤◌, ◌<◌}
use lib.Dec.{eqb}
use lib.ListN.{get_or}
use borrow.Author.Tests.{eqb-true}
use Rattle.lists.proofs.Elements.{below_at}
use Rattle.lists.specs.Elements.{nth, all_below}
use Rattle.image_format.specs.Codes.{codes, code_count, code_of}
use Rattle.image_format.proofs.Codes.{code-none}
use Rattle.opcodes.specs.Rows.{row_in}

-- the code's answer, from its words
abbrev pub row_byte : ℕ → ℕ
row_byte code =
    get_or
    (0x00350014000c0000
    ∷ 0x0006000100060005
    ∷ 0x0006000600060006
    ∷ 0x0006000500050005
    ∷ 0x0006000600060006
    ∷ 0x001d001d00060006
    ∷ 0x0020000700060005
    ∷ 0x0000000000280021
    ∷ [])
    (code / 4) 0 / 2 ^ (16 * (code % 4)) % 65536

agree : ℕ → ℕ → Bool
agree edition code = eqb (row_byte code) (row_in (code_of edition code))

pub row-byte : (edition code : ℕ) → code < 32 → row_byte code ≡ row_in (code_of edition code)
unfolding all_below agree code_of codes code_count nth
row-byte edition code h = eqb-true (row_byte code) (row_in (code_of edition code)) (below_at (agree edition) 32 refl code h)

pub row-none : (edition code : ℕ) → 32 ≤ code → 0 ≡ row_in (code_of edition code)
unfolding code_count
row-none edition code h = sym (ap row_in (code-none edition code h))
