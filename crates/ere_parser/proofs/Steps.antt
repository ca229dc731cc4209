-- Reading by the first byte that is left.
use mathlib.Core.Path.{◌≡◌, refl, ◌∙◌}
use mathlib.Core.Bool.{cond}
use mathlib.Core.List.{List, [], ◌∷◌}
use mathlib.Core.Option.{Option, some}
use Prim.Native.Nat.{ℕ, suc, ◌≤◌}
use native.Mathlib.Omega.{arith}
use lib.ListN.{length}
use lib.Dec.{eqb}
use borrow.Author.Tests.{ne_eqb}
use Rattle.ere_meaning.specs.Tree.{Class, Ere, bol, eol}
use Rattle.ere_grammar.specs.Read.{and_then, Tree, finished, after_atom, after_bar, read_group, read_atom, read_rest}
use Rattle.ere_parser.specs.Reading.{rest_from}
use Rattle.ere_parser.proofs.Leaving.{Leaves, Agree, rest-turns, rest-leaves, atom-leaves, bar-same, group-same, after-atom-same}

pub from-leaves : (n : ℕ) (A S : Option (Ere Class)) (t : List ℕ) → Leaves (length t) (rest_from n A S t)
unfolding rest_from
from-leaves n A S t = rest-leaves (suc (length t)) n A S t

-- with turns to spare
same : (k N : ℕ) → N ≤ k → Agree N (read_rest (suc k)) rest_from
unfolding rest_from
same k N h n A S t l = rest-turns (suc k) (suc (length t)) n A S t (omega arith) (omega arith)

module _ (n : ℕ) (A S : Option (Ere Class)) where
  pub rest_end : rest_from n A S [] ≡ finished A S []
  unfolding rest_from read_rest
  rest_end = refl

  module _ (b : ℕ) (t : List ℕ) where
    -- the choice, with the rest read as rest_from has it
    abbrev chosen : Tree
    chosen =
        cond (eqb b 41) (finished A S (b ∷ t))
        (cond (eqb b 124) (after_bar rest_from n A S t)
        (cond (eqb b 94) (rest_from n A (some (and_then S bol)) t)
        (cond (eqb b 36) (rest_from n A (some (and_then S eol)) t)
        (cond (eqb b 40) (read_group rest_from n A S t) (after_atom rest_from n A S (read_atom b t))))))

    opened : rest_from n A S (b ∷ t)
        ≡ cond (eqb b 41) (finished A S (b ∷ t))
        (cond (eqb b 124) (after_bar (read_rest (suc (length t))) n A S t)
        (cond (eqb b 94) (read_rest (suc (length t)) n A (some (and_then S bol)) t)
        (cond (eqb b 36) (read_rest (suc (length t)) n A (some (and_then S eol)) t)
        (cond (eqb b 40) (read_group (read_rest (suc (length t))) n A S t) (after_atom (read_rest (suc (length t))) n A S (read_atom b t))))))
    unfolding rest_from read_rest
    opened = refl

    pub rest-by : rest_from n A S (b ∷ t) ≡ chosen
    rest-by =
        let N = length t in
        let h = same N N (omega arith) in
        opened
        ∙ rw (
          bar-same N (read_rest (suc N)) rest_from h n A S t (omega arith),
          h n A (some (and_then S bol)) t (omega arith),
          h n A (some (and_then S eol)) t (omega arith),
          group-same N (read_rest (suc N)) rest_from h from-leaves n A S t (omega arith),
          after-atom-same N (read_rest (suc N)) rest_from h n A S (read_atom b t) (atom-leaves b t),
        )

    pub rest-atom : (b ≡ 41 → ⊥) → (b ≡ 124 → ⊥) → (b ≡ 94 → ⊥) → (b ≡ 36 → ⊥) → (b ≡ 40 → ⊥)
        → rest_from n A S (b ∷ t) ≡ after_atom rest_from n A S (read_atom b t)
    rest-atom h₁ h₂ h₃ h₄ h₅ = rest-by ∙ simp (ne_eqb b 41 h₁, ne_eqb b 124 h₂, ne_eqb b 94 h₃, ne_eqb b 36 h₄, ne_eqb b 40 h₅)

  module _ (t : List ℕ) where
    pub rest-close : rest_from n A S (41 ∷ t) ≡ finished A S (41 ∷ t)
    rest-close = rest-by 41 t

    pub rest-bar : rest_from n A S (124 ∷ t) ≡ after_bar rest_from n A S t
    rest-bar = rest-by 124 t

    pub rest-bol : rest_from n A S (94 ∷ t) ≡ rest_from n A (some (and_then S bol)) t
    rest-bol = rest-by 94 t

    pub rest-eol : rest_from n A S (36 ∷ t) ≡ rest_from n A (some (and_then S eol)) t
    rest-eol = rest-by 36 t

    pub rest-group : rest_from n A S (40 ∷ t) ≡ read_group rest_from n A S t
    rest-group = rest-by 40 t
