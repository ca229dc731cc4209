-- Internal: cited by private contracts only. What reading a class of bytes answers.
use Rattle.std.specs.Prelude.{◌≡◌, Option, Some, None, List, ℕ, ◌≤◌, ◌<◌, length, drop}
use Rattle.std.proofs.Math.Option as maybe
use Rattle.lists.specs.Parsing.{Parsed, parsed}
use Rattle.ere_meaning.specs.Tree.{Class, accepts}
use Rattle.ere_byte_set.specs.Words.{in_class}
use Rattle.ere_bracket.specs.declared.brackets.Bracket.{Bracket}

-- What a definition reads from index `at` of l on is a class, the index after it lies further on, in the list or at its
-- end, and the words have its bytes.
pub record ClassRead (r : Bracket) (l : List ℕ) (at : ℕ) (read : maybe.Option (Parsed Class)) : Type 0 where
  pub class : Class
  pub same : read ≡ parsed class (drop r.next l)
  pub further : at < r.next
  pub inside : r.next ≤ length l
  pub bytes : (b : ℕ) → b < 256 → in_class r.words b ≡ accepts class b

-- the answer for a class from index `at` of l on: either none is read there, or one is
abbrev pub ClassReads : Option Bracket → List ℕ → ℕ → maybe.Option (Parsed Class) → Type 0
ClassReads None l at read = read ≡ maybe.none
ClassReads (Some r) l at read = ClassRead r l at read
