-- What a group puts, and where a byte is, by what it is.
use mathlib.Core.Path.{◌≡◌, refl, sym, ◌∙◌}
use mathlib.Core.Bool.{true}
use mathlib.Core.List.{List}
use Prim.Native.Nat.{ℕ, ◌+◌, ◌<◌}
use native.Mathlib.Decide.{dec_le}
use native.Mathlib.Omega.{arith}
use lib.ListN.{length, get_or, get_or-eq_default}
use lib.Dec.{eqb}
use borrow.Author.Tests.{eqb-true, eq-eqb, ne_eqb}
use Rattle.std.specs.Prelude.{Option, Some, None}
use Rattle.ere_pieces.specs.State.{pushed_of, pushed_table, repeated_of, repeated_table, closed_piece, grouped_of, grouped_table}
use Rattle.ere_pieces.specs.declared.rows.Piece.{Piece}
use Rattle.ere_pieces.specs.declared.rows.State.{State}

module _ (l t : List ℕ) (s : State) where
  -- a group that is refused, one that isn't closed, and one that is
  pub grouped-bad : (g : Option Piece) → g ≡ None → (None ≡ grouped_of l s g) × (t ≡ grouped_table l s g t)
  grouped-bad g e = rw e (refl, refl)

  module _ (g : Piece) where
    pub grouped-open : (get_or l g.at 0 ≡ 41 → ⊥) → (None ≡ grouped_of l s (Some g)) × (t ≡ grouped_table l s (Some g) t)
    grouped-open e = rw (ne_eqb (get_or l g.at 0) 41 e) (refl, refl)

    pub grouped-closed : get_or l g.at 0 ≡ 41
        → (Some (pushed_of s (repeated_of (get_or l (g.at + 1) 0) (closed_piece g))) ≡ grouped_of l s (Some g))
        × (pushed_table s (repeated_of (get_or l (g.at + 1) 0) (closed_piece g)) (repeated_table (get_or l (g.at + 1) 0) (closed_piece g) s.hi t) ≡ grouped_table l s (Some g) t)
    grouped-closed e = rw (eq-eqb (get_or l g.at 0) 41 e) (refl, refl)

-- a byte that isn't 0 is inside
pub inside : (l : List ℕ) (at x : ℕ) → (x ≡ 0 → ⊥) → eqb (get_or l at 0) x ≡ true → at < length l
inside l at x ne e =
    elim (dec_le (at + 1) (length l)) [
      | yes h ↦ omega arith
      | no h ↦ absurd (ne (sym (eqb-true (get_or l at 0) x e) ∙ get_or-eq_default l 0 {n = at} (omega arith)))
    ]
