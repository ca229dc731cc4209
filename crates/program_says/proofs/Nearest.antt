-- Document 004: an `else` belongs to the nearest `if` before it that has none.
use mathlib.Core.Path.{◌≡◌, refl}
use mathlib.Core.Bool.{Bool}
use mathlib.Core.List.{List}
use Prim.Native.Nat.{ℕ}
use Rattle.program_tokens.specs.Kinds.{Kind}
use Rattle.program_tokens.specs.Tokens.{Token}
use Rattle.program_tree.specs.Tree.{if as if-tree, if-else as if-else-tree}
use Rattle.program_grammar.specs.Grammar.{Newlines, Expression, End, Else, takes_else, whole, BeforeElse, Statement, if, if-else}
use Rattle.program_exact.specs.Trees.{first, rest, tail, said}
use Rattle.program_says.specs.Trees.{condition, after_condition, said_parts, said_statement}

-- what `if (x) if (y) a; else b` says
pub nearest-if : (edition : ℕ) (s : List ℕ) {in_main : Bool} {e f : End} {o : Else} {c n d m a b k l : List Kind} (x : Expression edition c) (v : Newlines n) (y : Expression edition d) (w : Newlines m)
    (p : Statement edition in_main e whole a) (h : BeforeElse e b) (i : Newlines k) (q : Statement edition in_main f o l) (ts : List Token)
    → said_statement edition s {o = takes_else} (if x v (if-else y w p h i q)) ts
    ≡ if-tree (said edition s x (condition c ts))
    (if-else-tree (said edition s y (condition d (after_condition c n ts))) (said_statement edition s p (first a (after_condition d m (after_condition c n ts))))
    (said_statement edition s q (rest k (tail (rest b (rest a (after_condition d m (after_condition c n ts))))))))
unfolding said_statement said_parts
nearest-if edition s x v y w p h i q ts = refl
