-- Internal: cited by private contracts only. Tables of entries: what each entry means, and the list of all.
use Rattle.std.specs.Prelude.{Bool, cond, List, [], ◌∷◌, ℕ, zero, suc, ◌+◌, ◌*◌, ◌<◌, length, get_or, set, eqb, ltb}
use Rattle.image_format.specs.Image.{Constant, number, text}
use Rattle.program_tables.specs.declared.tables.Entry.{Entry}
use Rattle.program_tables.specs.Texts.{value_in, Inside}

-- entry k of a table
abbrev pub entry_in : List ℕ → ℕ → Entry
entry_in table k = record { value = get_or table (2 * k) 0; stop = get_or table (2 * k + 1) 0 }

-- what an entry means: a number, or the text between two places
unfoldable pub meant : List ℕ → Bool → Entry → Constant
meant s escapes e = cond (eqb e.stop 0) (number e.value) (text (value_in s escapes e.value e.stop))

-- an entry's text is in the filter's text
abbrev pub InsideText : List ℕ → Entry → Type 0
InsideText s e = Inside s e.value e.stop

abbrev pub AllInside : List ℕ → List ℕ → ℕ → Type 0
AllInside s table n = (k : ℕ) → k < n → InsideText s (entry_in table k)

-- n entries, from number k on
unfoldable pub entries_from : List ℕ → Bool → List ℕ → ℕ → ℕ → List Constant
entries_from s escapes table k zero = []
entries_from s escapes table k (suc n) = meant s escapes (entry_in table k) ∷ entries_from s escapes table (suc k) n

-- a table with entry n, if it has room for it
unfoldable pub with_entry : List ℕ → ℕ → Entry → List ℕ
with_entry table n e =
    cond (ltb (2 * n + 1) (length table)) (set (set table (2 * n) e.value) (2 * n + 1) e.stop) table
