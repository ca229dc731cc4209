-- Refusals that document 01 names, computed.
-- Assumes nothing.
use mathlib.Core.Path.{◌≡◌, refl}
use mathlib.Core.List.{List, [], ◌∷◌, ◌++◌, map}
use mathlib.Core.Option.{none}
use Prim.Native.Nat.{ℕ}
use lib.ListN.{replicate}
use Rattle.lists.specs.Elements.{one_of}
use Rattle.ere_meaning.specs.Tree.{places}
use Rattle.ere_grammar.specs.Bytes.{lookup, escape_of, is_plain}
use Rattle.ere_grammar.specs.Read.{begins, tail, escaped_byte, read_escape, read_member, joins, with_range, last_hyphen, range_to, after_byte, read_items, bracket_of, read_bracket, only_byte, read_atom, finished, repeated, after_atom, after_group, after_bar, read_group, read_rest, whole, read_ere}

-- `[a-c-e]`, "a range end used twice"; `[c-a]`, "a backwards range"; `[a[.]`, "`[.` inside a bracket"; 129 places; `a`
-- in 17 groups
abbrev refused : List (List ℕ)
refused =
    (91 ∷ 97 ∷ 45 ∷ 99 ∷ 45 ∷ 101 ∷ 93 ∷ []) ∷ (91 ∷ 99 ∷ 45 ∷ 97 ∷ 93 ∷ []) ∷ (91 ∷ 97 ∷ 91 ∷ 46 ∷ 93 ∷ []) ∷ replicate 129 97
    ∷ (replicate 17 40 ++ (97 ∷ replicate 17 41)) ∷ []

refusals : map (read_ere 1) refused ≡ replicate 5 none
unfolding one_of lookup escape_of is_plain begins tail escaped_byte read_escape read_member joins with_range last_hyphen range_to after_byte read_items bracket_of read_bracket only_byte read_atom finished repeated after_atom after_group after_bar read_group read_rest whole read_ere places
refusals = refl
