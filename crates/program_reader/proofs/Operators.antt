-- The tree of two operands, by the table without tiers.
use mathlib.Core.Path.{◌≡◌, refl}
use mathlib.Core.Bool.{Bool, true, false, cond}
use mathlib.Core.List.{List, [], ◌∷◌}
use mathlib.Core.Option.{Option, some}
use Rattle.program_tokens.specs.Kinds.{Kind, same}
use Rattle.program_tree.specs.Tree.{Expression}
use Rattle.program_reader.specs.Operators.{Operator, binary, operator_in, tree_in, tree_of, trees, tree_among}

-- a table without its tiers
abbrev untiered : List Operator → List (Kind × (Expression → Expression → Expression))
untiered [] = []
untiered (o ∷ l) = (o.kind, o.tree) ∷ untiered l

tree-cond : (c : Bool) (o : Operator) (r : Option Operator) (x : Expression) (a b : Expression) → tree_in r a b ≡ x
    → tree_in (cond c (some o) r) a b ≡ cond c (o.tree a b) x
tree-cond true o r x a b h = refl
tree-cond false o r x a b h = h

tree-untiered : (k : Kind) (l : List Operator) (a b : Expression)
    → tree_in (operator_in k l) a b ≡ tree_among k (untiered l) a b
unfolding operator_in
tree-untiered k [] a b = refl
tree-untiered k (o ∷ l) a b =
    tree-cond (same k o.kind) o (operator_in k l) (tree_among k (untiered l) a b) a b (tree-untiered k l a b)

-- the tree of two operands is the one that the table `trees` has for the kind between them
pub tree-listed : (k : Kind) (a b : Expression) → tree_of k a b ≡ tree_among k trees a b
unfolding tree_of
tree-listed k a b = tree-untiered k binary a b
