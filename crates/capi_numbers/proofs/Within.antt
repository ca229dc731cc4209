-- A match that is found lies within a text value.
use mathlib.Core.Path.{◌≡◌, refl, subst}
use mathlib.Core.Bool.{Bool, true, false, cond}
use mathlib.Core.List.{List}
use mathlib.Core.Option.{Option, some, none}
use Prim.Native.Nat.{ℕ, ◌≤◌}
use native.Mathlib.Omega.{arith}
use lib.ListN.{length}
use lib.Dec.{leb}
use borrow.Author.Tests.{leb-true}
use Rattle.edition.specs.Limits.{text_bytes}
use Rattle.edition.specs.Outcomes.{done, bad_ere, text_too_long}
use Rattle.ere_meaning.specs.Tree.{Class, accepts, Ere}
use Rattle.ere_meaning.specs.Meaning.{Match, found, nowhere, Best}
use Rattle.ere_meaning.specs.Search.{best_of}
use Rattle.ere_meaning.proofs.Answers.{best}
use Rattle.ere_grammar.specs.Read.{read_ere}
use Rattle.ere.specs.Answer.{without, matching_of, best_matching, judged, search_of}
use Rattle.capi_numbers.specs.Match.{Within}

without-within : (o : ℕ) → Within (without o)
without-within o = record { start = omega arith; length = omega arith }

module _ (text : List ℕ) (e : Ere Class) where
  best-within : (r : Match) → Best accepts text e r → length text ≤ text_bytes → Within (best_matching r)
  best-within (found s n) b h = record { start = omega (arith, b.0.0, h); length = omega (arith, b.0.0, h) }
  best-within nowhere b h = without-within done

  short-within : (c : Bool) → leb (length text) text_bytes ≡ c
      → Within (cond c (best_matching (best_of accepts text e)) (without text_too_long))
  short-within true h = best-within (best_of accepts text e) (best accepts text e) (leb-true (length text) text_bytes h)
  short-within false h = without-within text_too_long

judged-within : (text : List ℕ) (e : Option (Ere Class)) → Within (judged text e)
judged-within text none = without-within bad_ere
judged-within text (some e) = short-within text e (leb (length text) text_bytes) refl

pub search-within : (edition : ℕ) (ere text : List ℕ) → Within (search_of edition ere text)
search-within edition ere text = judged-within text (read_ere edition ere)
