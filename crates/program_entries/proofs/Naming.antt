-- The entry of a name: a special variable's number, or the text of a user's name.
use mathlib.Core.Path.{◌≡◌, sym, ap, ◌∙◌}
use mathlib.Core.Bool.{Bool, true, false, ◌||◌}
use mathlib.Core.List.{List}
use Prim.Native.Nat.{ℕ, ◌+◌, ◌-◌, ◌≤◌}
use native.Mathlib.Omega.{arith}
use lib.ListN.{length}
use lib.Dec.{eqb}
use borrow.Author.Tests.{ne_eqb}
use Rattle.lists.proofs.Tests.{or-none}
use Rattle.edition.specs.Limits.{filter_text}
use Rattle.image_format.specs.Image.{number, text}
use Rattle.program_tokens.specs.Kinds.{among, rank}
use Rattle.program_tokens.specs.Words.{same_bytes}
use Rattle.program_tokens.specs.Tokens.{spelling}
use Rattle.program_lexer.specs.Coded.{decoded}
use Rattle.program_lexer.specs.declared.tokens.Token.{Token as Coded}
use Rattle.program_lexer.proofs.Coding.{kind-test}
use Rattle.program_numbering.specs.Names.{has, number_of}
use Rattle.program_numbering.specs.Numbering.{special_names}
use Rattle.program_numbering.proofs.Numbers.{number-below}
use Rattle.program_tables.specs.Texts.{between, value_of}
use Rattle.program_tables.specs.Tables.{meant}
use Rattle.program_entries.specs.Named.{variable_of, Stands, WordToken, IsSpecial, special_number}
use Rattle.program_entries.proofs.Strings.{between-taken}

module _ (s : List ℕ) (t : Coded) (w : WordToken s (decoded t)) where
  abbrev Name : List ℕ
  Name = spelling s (decoded t)

  abbrev Size : ℕ
  Size = t.stop - t.start

  spelled : between s t.start t.stop ≡ Name
  unfolding spelling
  spelled = between-taken s t.start t.stop

  sized : between s t.start (t.start + Size) ≡ Name
  sized =
      let stop : t.start + Size ≡ t.stop = omega (arith, w.ordered) in
      rw stop spelled

  -- the code's test says whether the name is special
  tested : (eqb t.kind 8 || eqb t.kind 9) ≡ has same_bytes special_names Name
  unfolding among rank
  tested =
      ap (λ (b : Bool). eqb t.kind 8 || b) (sym (or-none (eqb t.kind 9)))
      ∙ (sym (rw (
        kind-test t.kind 8 (omega arith) (λ q. omega (arith, q)),
        kind-test t.kind 9 (omega arith) (λ q. omega (arith, q)),
      )) ∙ w.special)

  pub special-ready : (eqb t.kind 8 || eqb t.kind 9) ≡ true → IsSpecial s t.start Size
  special-ready e =
      record {
        inside = omega (arith, w.ordered, w.within);
        special = ap (has same_bytes special_names) sized ∙ (sym tested ∙ e);
      }

  pub special-stands : (eqb t.kind 8 || eqb t.kind 9) ≡ true → (r : ℕ) → r ≡ special_number s t.start Size
      → Stands s false (variable_of Name) (record { value = r; stop = 0 })
  unfolding meant variable_of
  special-stands e r f =
      let is_one : has same_bytes special_names Name ≡ true = sym tested ∙ e in
      let which : r ≡ number_of same_bytes special_names Name = f ∙ ap (number_of same_bytes special_names) sized in
      record {
        means = rw is_one (ap number which);
        inside = λ g. absurd (omega (arith, g));
        bounded = omega (arith, which, number-below same_bytes special_names Name is_one);
      }

  pub user-stands : length s ≤ filter_text → (eqb t.kind 8 || eqb t.kind 9) ≡ false
      → Stands s false (variable_of Name) (record { value = t.start; stop = t.stop })
  unfolding meant variable_of value_of
  user-stands small e =
      let no : has same_bytes special_names Name ≡ false = sym tested ∙ e in
      record {
        means = rw (ne_eqb t.stop 0 (λ z. omega (arith, z, w.some)), no) (ap text spelled);
        inside = λ g. w.within;
        bounded = omega (arith, w.ordered, w.within);
      }
