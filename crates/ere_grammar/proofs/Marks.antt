-- The marks, a bit for each of them: what the code reads off is what the definition says, at each of the 256 bytes. And
-- a byte that is no escape's. Assumes nothing.
use mathlib.Core.Path.{◌≡◌, refl}
use mathlib.Core.Bool.{Bool, beq}
use mathlib.Core.List.{List, [], ◌∷◌}
use mathlib.Core.Option.{none}
use Prim.Native.Nat.{ℕ, ◌^◌, ◌/◌, ◌%◌, ◌<◌}
use lib.Dec.{eqb}
use lib.ListN.{get_or}
use borrow.Author.Tests.{ne_eqb}
use Rattle.lists.specs.Elements.{one_of, all_below}
use Rattle.lists.proofs.Tests.{beq_same}
use Rattle.lists.proofs.Elements.{below_at}
use Rattle.ere_grammar.specs.Bytes.{marks, Escape, lookup}

-- the code's answer, from its table of words with a bit for each byte
abbrev is_mark : ℕ → Bool
is_mark b = eqb (get_or (0x80004f1000000000 ∷ 0x3800000068000000 ∷ 0 ∷ 0 ∷ []) (b / 64) 0 / 2 ^ (b % 64) % 2) 1

agreed : ℕ → Bool
agreed b = beq (is_mark b) (one_of marks b)

pub marked : (b : ℕ) → b < 256 → is_mark b ≡ one_of marks b
unfolding all_below agreed one_of
marked b h = beq_same (is_mark b) (one_of marks b) (below_at agreed 256 refl b h)

-- what a `match` tells where no arm was taken: the byte is the letter of no escape of the list
abbrev pub Missed : Type 0 → List Escape → ℕ → Type 0
Missed P [] b = P
Missed P (e ∷ l) b = Missed (P × (b ≡ e.letter → ⊥)) l b

pub missed : (P : Type 0) (l : List Escape) (b : ℕ) → Missed P l b → P × (lookup l b ≡ none)
unfolding lookup
missed P [] b h = (h, refl)
missed P (e ∷ l) b h =
    let (p, q) = missed (P × (b ≡ e.letter → ⊥)) l b h in
    (p.0, rw (ne_eqb b e.letter p.1) q)
