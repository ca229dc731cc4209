-- Internal: cited by private contracts only. What the reader of EREs builds in a table: a part of an ERE, by its rows
-- and its classes.
use Rattle.std.specs.Prelude.{◌≡◌, List, ℕ, ◌≤◌, ◌<◌}
use Rattle.ere_meaning.specs.Tree.{Class, accepts, Ere, place, bol, eol, cat, alt, star, plus, opt}
use Rattle.ere_table.specs.Table.{accepts_at}
use Rattle.ere_table.proofs.RowParts.{RowPart}
use Rattle.ere_pieces.specs.declared.rows.Entry.{Entry}

-- the numbered tree is the tree of classes: at each place, whose number is from lo up to hi, the table has the class
pub data Agrees (t : List ℕ) (lo hi : ℕ) : Ere ℕ → Ere Class → Type 0 where
  at_place : {p : ℕ} {c : Class} → lo ≤ p → p < hi → ((b : ℕ) → b < 256 → accepts_at t p b ≡ accepts c b)
      → Agrees t lo hi (place p) (place c)
  at_bol : Agrees t lo hi bol bol
  at_eol : Agrees t lo hi eol eol
  in_cat : {a b : Ere ℕ} {x y : Ere Class} → Agrees t lo hi a x → Agrees t lo hi b y
      → Agrees t lo hi (cat a b) (cat x y)
  in_alt : {a b : Ere ℕ} {x y : Ere Class} → Agrees t lo hi a x → Agrees t lo hi b y
      → Agrees t lo hi (alt a b) (alt x y)
  in_star : {a : Ere ℕ} {x : Ere Class} → Agrees t lo hi a x → Agrees t lo hi (star a) (star x)
  in_plus : {a : Ere ℕ} {x : Ere Class} → Agrees t lo hi a x → Agrees t lo hi (plus a) (plus x)
  in_opt : {a : Ere ℕ} {x : Ere Class} → Agrees t lo hi a x → Agrees t lo hi (opt a) (opt x)

-- the classes of the places from lo up to hi are as they were
abbrev pub SameClasses : ℕ → ℕ → List ℕ → List ℕ → Type 0
SameClasses lo hi t u = (p b : ℕ) → lo ≤ p → p < hi → b < 256 → accepts_at u p b ≡ accepts_at t p b

pub record Built (t : List ℕ) (lo hi : ℕ) (x : Entry) (e : Ere Class) : Type 0 where
  pub tree : Ere ℕ
  pub rows : RowPart t lo hi x.first x.later tree
  pub agrees : Agrees t lo hi tree e
