-- Atoms that are no groups, by their first byte.
use mathlib.Core.Path.{◌≡◌, ◌∙◌}
use mathlib.Core.Bool.{true, false}
use mathlib.Core.List.{List}
use mathlib.Core.Option.{Option, none}
use Prim.Native.Nat.{ℕ, ◌+◌, ◌≤◌, ◌<◌}
use native.Mathlib.Omega.{arith}
use lib.ListN.{length, drop}
use borrow.Author.Tests.{eq-eqb, ne_eqb}
use Rattle.std.specs.Prelude.{Option as Answer, Some, None}
use Rattle.lists.specs.Parsing.{Parsed, parsed}
use Rattle.ere_meaning.specs.Tree.{Class, accepts, only, any_byte}
use Rattle.ere_grammar.specs.Bytes.{is_plain}
use Rattle.ere_grammar.specs.Read.{read_escape, only_byte, read_bracket, read_atom}
use Rattle.ere_byte_set.specs.Words.{in_class}
use Rattle.ere_bracket.specs.declared.brackets.Bracket.{Bracket}
use Rattle.ere_bracket.specs.Answer.{ClassRead, ClassReads}

module _ {l : List ℕ} {o : Option (Parsed Class)} (at k : ℕ) (w : List ℕ) where
  pub reads-got : (c : Class) → o ≡ parsed c (drop k l) → at < k → k ≤ length l → ((b : ℕ) → b < 256 → in_class w b ≡ accepts c b)
      → ClassRead (record { next = k; words = w }) l at o
  reads-got c e f i b = record { class = c; same = e; further = f; inside = i; bytes = b }

-- an atom whose first byte comes before
pub reads-from : (r : Answer Bracket) (l : List ℕ) (at : ℕ) {o p : Option (Parsed Class)} → p ≡ o → ClassReads r l (at + 1) o → ClassReads r l at p
reads-from None l at e h = e ∙ h
reads-from (Some r) l at e q =
    record { class = q.class; same = e ∙ q.same; further = omega (arith, q.further); inside = q.inside; bytes = q.bytes }

module _ (b : ℕ) (t : List ℕ) where
  pub atom-escape : b ≡ 92 → read_atom b t ≡ only_byte (read_escape t)
  unfolding read_atom
  atom-escape e = simp (eq-eqb b 92 e)

  module _ (h₁ : b ≡ 92 → ⊥) where
    pub atom-dot : b ≡ 46 → read_atom b t ≡ parsed any_byte t
    unfolding read_atom
    atom-dot e = simp (ne_eqb b 92 h₁, eq-eqb b 46 e)

    module _ (h₂ : b ≡ 46 → ⊥) where
      pub atom-bracket : b ≡ 91 → read_atom b t ≡ read_bracket t
      unfolding read_atom
      atom-bracket e = simp (ne_eqb b 92 h₁, ne_eqb b 46 h₂, eq-eqb b 91 e)

      module _ (h₃ : b ≡ 91 → ⊥) where
        pub atom-plain : is_plain b ≡ true → read_atom b t ≡ parsed (only b) t
        unfolding read_atom
        atom-plain e = simp (ne_eqb b 92 h₁, ne_eqb b 46 h₂, ne_eqb b 91 h₃, e)

        pub atom-none : is_plain b ≡ false → read_atom b t ≡ none
        unfolding read_atom
        atom-none e = simp (ne_eqb b 92 h₁, ne_eqb b 46 h₂, ne_eqb b 91 h₃, e)
