-- Document 01, "EREs": "A match is a span in the ERE's language, anchors judged against the whole text; the answer has
-- the smallest start, then greatest length."; "Values": "RSTART (from 1) and RLENGTH, 0 and -1 if none"; "Outcomes":
-- "Public match: 5, then 14, with 0 and -1."
use Rattle.std.specs.Prelude.{◌≡◌, Bool, true, false, cond, List, ℕ, ◌+◌, ◌<◌, length, get_or, ℤ, pos, negsuc, leb}
use Rattle.std.specs.Prelude.{Option, Some, None, Result, Ok, Err}
use Rattle.std.proofs.Math.Option.{some, none}
use Rattle.std.proofs.Math.Option as maybe
use Rattle.edition.specs.Limits.{text_bytes, ere_places}
use Rattle.edition.specs.Outcomes.{done, bad_ere, text_too_long}
use Rattle.ere_meaning.specs.Tree.{Class, accepts, Ere}
use Rattle.ere_meaning.specs.Meaning.{Match, found, nowhere}
use Rattle.ere_meaning.specs.Search.{best_of}
use Rattle.ere_grammar.specs.Read.{read_ere}
use Rattle.ere_table.specs.Wiring.{Tabled}
use Rattle.ere_parser.specs.Built.{Agrees}
use Rattle.ere.specs.declared.matching.Refusal.{Refusal}
use Rattle.ere.specs.declared.matching.Refusal.TheVariants.{BadEre, LongText}

-- ---- an ERE and a text

-- the outcome, and what RSTART and RLENGTH are afterwards
pub record Matching : Type 0 where
  pub outcome : ℕ
  pub rstart : ℕ
  pub rlength : ℤ

abbrev pub matching : ℕ → ℕ → ℤ → Matching
matching o s n = record { outcome = o; rstart = s; rlength = n }

-- "RSTART (from 1) and RLENGTH"
abbrev pub match_at : ℕ → ℕ → Matching
match_at s n = matching done (s + 1) (pos n)

-- "0 and -1 if none"
abbrev pub without : ℕ → Matching
without o = matching o 0 (negsuc 0)

-- what a case of an answer says
abbrev pub matching_of : Result (Option (ℕ × ℕ)) Refusal → Matching
matching_of (Ok (Some (s, n))) = match_at s n
matching_of (Ok None) = without done
matching_of (Err BadEre) = without bad_ere
matching_of (Err LongText) = without text_too_long

-- the best match, or that there is none
abbrev pub best_matching : Match → Matching
best_matching (found s n) = match_at s n
best_matching nowhere = without done

-- "5, then 14"
abbrev pub judged : List ℕ → maybe.Option (Ere Class) → Matching
judged text none = without bad_ere
judged text (some e) = cond (leb (length text) text_bytes) (best_matching (best_of accepts text e)) (without text_too_long)

abbrev pub search_of : ℕ → List ℕ → List ℕ → Matching
search_of edition ere text = judged text (read_ere edition ere)

-- ---- a compiled ERE

-- the table is that of a tree of numbered places which is e, with the table's class at each place
pub record Serves (t : List ℕ) (e : Ere Class) : Type 0 where
  pub tree : Ere ℕ
  pub tabled : Tabled t tree
  pub agrees : Agrees t 0 ere_places tree e

-- r: the bytes are an ERE, and the table serves it
pub record Compiles (edition : ℕ) (ere t : List ℕ) (r : Bool) : Type 0 where
  pub refused : r ≡ false → read_ere edition ere ≡ none
  pub read : r ≡ true → (e : Ere Class) × (read_ere edition ere ≡ some e) × (Serves t e)

-- bytes
abbrev pub Bytes : List ℕ → Type 0
Bytes text = (i : ℕ) → i < length text → get_or text i 0 < 256
