-- Internal: cited by private contracts only. What is read from a text on: the definition of the grammar, with as many
-- turns as it takes.
use Rattle.std.proofs.Math.Option.{Option}
use Rattle.std.specs.Prelude.{List, ℕ, suc, length}
use Rattle.ere_meaning.specs.Tree.{Class, Ere}
use Rattle.ere_grammar.specs.Read.{Tree, read_rest}

-- the rest of a group, with n levels left, from the alternatives and the sequence so far
unfoldable pub rest_from : ℕ → Option (Ere Class) → Option (Ere Class) → List ℕ → Tree
rest_from n A S t = read_rest (suc (length t)) n A S t
