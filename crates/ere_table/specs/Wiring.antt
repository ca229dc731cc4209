-- Internal: cited by private contracts only. The table of an ERE: what its rows say of what may come next, and its last
-- words of where a match may begin.
use Rattle.std.specs.Prelude.{◌≡◌, Bool, true, cond, not, ◌&&◌, ◌↔◌, List, [], ◌∷◌, ℕ, ◌+◌, get_or, ltb}
use Rattle.ere_meaning.specs.Tree.{Ere}
use Rattle.ere_table.specs.Nexts.{Next, stop, go, Enter, Wired, Last}
use Rattle.ere_table.specs.Table.{place_count, row_words, class_words, mem, row, empty_word}
use Rattle.ere_table.specs.Build.{begin_of, empty_of}

-- a walk may stop at the set s, at the text's end (f) or not
abbrev pub stop_in : List ℕ → Bool → Bool
stop_in s f = mem s (cond f (place_count + 1) place_count)

-- r may come next in the set s, at the text's end (f) or not
abbrev pub next_in : List ℕ → Bool → Next → Bool
next_in s f stop = stop_in s f
next_in s f (go q) = not f && (ltb q place_count && mem s q)

-- after each place, by the table
abbrev pub after_place : List ℕ → ℕ → Bool → Next → Type 0
after_place t p f r = next_in (row t (p + 2)) f r ≡ true

-- the table's last five words
abbrev pub begin_words : List ℕ → List ℕ
begin_words t =
    get_or t (row_words + class_words) 0
    ∷ get_or t (row_words + class_words + 1) 0
    ∷ get_or t (row_words + class_words + 2) 0
    ∷ get_or t (row_words + class_words + 3) 0
    ∷ []

-- the last five words of the table are what its rows and classes say
pub record Sealed (t : List ℕ) : Type 0 where
  pub begin : begin_words t ≡ begin_of t
  pub empty : empty_word t ≡ empty_of t

-- the table t is that of the ERE e
pub record Tabled (t : List ℕ) (e : Ere ℕ) : Type 0 where
  pub wired : Wired (after_place t) e Last
  pub starts : (s f : Bool) (r : Next) → (next_in (row t (cond s 0 1)) f r ≡ true) ↔ Enter e Last s f r
  pub shut : Sealed t
