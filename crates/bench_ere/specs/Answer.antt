-- Internal: cited by private contracts only. What the C functions over a compiled ERE answer.
use Rattle.std.specs.Prelude.{◌≡◌, ℕ, ◌+◌, ◌<◌, ◌≤◌, cond, List, length, ◌≢◌}
use Rattle.std.proofs.Math.Option.{some, none}
use Rattle.edition.specs.Limits.{text_bytes, first_edition}
use Rattle.ere_meaning.specs.Tree.{Class, accepts, Ere}
use Rattle.ere_meaning.specs.Meaning.{Match, found, nowhere}
use Rattle.ere_meaning.specs.Search.{best_of}
use Rattle.ere_grammar.specs.Read.{read_ere}
use Rattle.ere_table.specs.Table.{table_words}
use Rattle.ere_exists.specs.Any.{is_match}
use Rattle.ere.specs.Answer.{Serves}

-- The table was t₀ and is t. 1: the bytes are an ERE, and the table serves it; 0: they are none, or the table has
-- another size, and is as it was.
pub record Prepares (ere t₀ t : List ℕ) (r : ℕ) : Type 0 where
  pub only : r ≤ 1
  pub unsized : (length t₀ ≢ table_words) → (r ≡ 0) × (t ≡ t₀)
  pub refused : r ≡ 0 → length t₀ ≡ table_words → read_ere first_edition ere ≡ none
  pub read : r ≡ 1 → (e : Ere Class) × (read_ere first_edition ere ≡ some e) × (Serves t e)

-- a match's length and one more, 0 without one
abbrev pub length_of : Match → ℕ
length_of (found s n) = n + 1
length_of nowhere = 0

-- the answer of a search with the table t: 0 if the table has another size or the text is too long; else, if the table
-- serves an ERE, its best match's
pub record Searches (t text : List ℕ) (r : ℕ) : Type 0 where
  pub unsized : (length t ≢ table_words) → r ≡ 0
  pub long : text_bytes < length text → r ≡ 0
  pub best : (e : Ere Class) → Serves t e → length t ≡ table_words → length text ≤ text_bytes
      → r ≡ length_of (best_of accepts text e)

-- 1 if the text has a match, 0 if not; 0 if the table has another size or the text is too long
pub record Tells (t text : List ℕ) (r : ℕ) : Type 0 where
  pub unsized : (length t ≢ table_words) → r ≡ 0
  pub long : text_bytes < length text → r ≡ 0
  pub any : (e : Ere Class) → Serves t e → length t ≡ table_words → length text ≤ text_bytes
      → r ≡ cond (is_match (best_of accepts text e)) 1 0
