-- The tables of operators and functions, by the numbers of the kinds.
use mathlib.Core.Path.{◌≡◌, refl}
use mathlib.Core.Bool.{Bool, true, false, ◌&&◌}
use mathlib.Core.Option.{Option as Maybe, some, none}
use Rattle.std.specs.Prelude.{None, is_some}
use Prim.Native.Nat.{ℕ, ◌<◌}
use lib.Dec.{eqb, leb}
use borrow.Author.Tests.{ne_eqb}
use Rattle.lists.proofs.Tests.{and-false}
use Rattle.program_tokens.specs.Kinds.{rank, LENGTH, INDEX, SUBSTR, MATCH}
use Rattle.program_tree.specs.Functions.{Function, function_in, function_of}
use Rattle.program_grammar.specs.Sets.{is_function}
use Rattle.program_reader.specs.Operators.{tier_of, operator_in, prefix_of}
use Rattle.program_code.specs.Emitted.{action_code}
use Rattle.program_code.specs.Expressions.{prefix_action}
use Rattle.program_lexer.specs.Coded.{kind_of, kind_count}
use Rattle.program_lexer.proofs.Coding.{rank-of}
use Rattle.program_parser.specs.Tables.{joined_tier, operator_code, action_of, prefix_code, function_action, shapes_code, shape_code, with_since, described}

module _ (n : ℕ) (h : n < kind_count) where
  pub other-tier : (edition : ℕ) → (n ≡ 60 → ⊥) → (n ≡ 61 → ⊥) → (n ≡ 53 → ⊥) → (n ≡ 64 → ⊥) → (n ≡ 63 → ⊥) → (n ≡ 66 → ⊥)
      → (n ≡ 52 → ⊥) → (n ≡ 65 → ⊥) → (n ≡ 45 → ⊥) → (n ≡ 46 → ⊥) → (n ≡ 47 → ⊥) → (n ≡ 48 → ⊥) → (n ≡ 49 → ⊥)
      → joined_tier edition (kind_of n) ≡ tier_of edition false (kind_of n)
  unfolding tier_of operator_in rank
  other-tier edition a b c d e f g i j k l m o =
      simp (
        rank-of n h,
        ne_eqb n 60 a,
        ne_eqb n 61 b,
        ne_eqb n 53 c,
        ne_eqb n 64 d,
        ne_eqb n 63 e,
        ne_eqb n 66 f,
        ne_eqb n 52 g,
        ne_eqb n 65 i,
        ne_eqb n 45 j,
        ne_eqb n 46 k,
        ne_eqb n 47 l,
        ne_eqb n 48 m,
        ne_eqb n 49 o,
      )

  pub other-code : (n ≡ 45 → ⊥) → (n ≡ 46 → ⊥) → (n ≡ 47 → ⊥) → (n ≡ 48 → ⊥) → (n ≡ 49 → ⊥) → (n ≡ 53 → ⊥) → (n ≡ 64 → ⊥)
      → (n ≡ 63 → ⊥) → (n ≡ 66 → ⊥) → (n ≡ 52 → ⊥) → (n ≡ 65 → ⊥) → 21 ≡ operator_code (kind_of n)
  unfolding action_of action_code rank
  other-code a b c d e f g i j k l =
      simp (
        rank-of n h,
        ne_eqb n 45 a,
        ne_eqb n 46 b,
        ne_eqb n 47 c,
        ne_eqb n 48 d,
        ne_eqb n 49 e,
        ne_eqb n 53 f,
        ne_eqb n 64 g,
        ne_eqb n 63 i,
        ne_eqb n 66 j,
        ne_eqb n 52 k,
        ne_eqb n 65 l,
      )

  pub other-prefix : (n ≡ 51 → ⊥) → (n ≡ 45 → ⊥) → 12 ≡ prefix_code (kind_of n)
  unfolding prefix_of prefix_action action_code rank
  other-prefix a b = simp (rank-of n h, ne_eqb n 51 a, ne_eqb n 45 b)

  pub no-function : (edition : ℕ) → (n ≡ 29 → ⊥) → (n ≡ 30 → ⊥) → (n ≡ 31 → ⊥) → (n ≡ 32 → ⊥)
      → None ≡ described (function_of edition (kind_of n))
  unfolding function_in rank
  no-function edition a b c d = simp (rank-of n h, ne_eqb n 29 a, ne_eqb n 30 b, ne_eqb n 31 c, ne_eqb n 32 d, and-false (leb 1 edition))

  -- "In a print list `>` must be inside parentheses"
  pub barred : (edition : ℕ) (printed : Bool) → (printed && eqb n 52) ≡ true → 0 ≡ tier_of edition printed (kind_of n)
  unfolding tier_of rank
  barred edition printed e = rw (rank-of n h, e)

  pub not-barred : (edition : ℕ) (printed : Bool) → (printed && eqb n 52) ≡ false
      → tier_of edition false (kind_of n) ≡ tier_of edition printed (kind_of n)
  unfolding tier_of rank
  not-barred edition printed e = rw (rank-of n h, e)

-- ---- the functions

pub length-function : (edition : ℕ) → with_since 24 1 1 edition ≡ described (function_of edition LENGTH)
unfolding function_in function_action shapes_code shape_code action_code rank
length-function edition = go (leb 1 edition) refl
  where
    go : (b : Bool) → leb 1 edition ≡ b → with_since 24 1 1 edition ≡ described (function_of edition LENGTH)
    go true e = rw e
    go false e = rw e

pub index-function : (edition : ℕ) → with_since 25 5 1 edition ≡ described (function_of edition INDEX)
unfolding function_in function_action shapes_code shape_code action_code rank
index-function edition = go (leb 1 edition) refl
  where
    go : (b : Bool) → leb 1 edition ≡ b → with_since 25 5 1 edition ≡ described (function_of edition INDEX)
    go true e = rw e
    go false e = rw e

pub substr-function : (edition : ℕ) → with_since 26 21 1 edition ≡ described (function_of edition SUBSTR)
unfolding function_in function_action shapes_code shape_code action_code rank
substr-function edition = go (leb 1 edition) refl
  where
    go : (b : Bool) → leb 1 edition ≡ b → with_since 26 21 1 edition ≡ described (function_of edition SUBSTR)
    go true e = rw e
    go false e = rw e

pub match-function : (edition : ℕ) → with_since 23 9 1 edition ≡ described (function_of edition MATCH)
unfolding function_in function_action shapes_code shape_code action_code rank
match-function edition = go (leb 1 edition) refl
  where
    go : (b : Bool) → leb 1 edition ≡ b → with_since 23 9 1 edition ≡ described (function_of edition MATCH)
    go true e = rw e
    go false e = rw e

-- a word that calls a function
pub some-function : (f : Maybe Function) → is_some (described f) ≡ is_function f
some-function none = refl
some-function (some f) = refl
