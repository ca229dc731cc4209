-- Document 01, "EREs": what an ERE is, once its bytes are read.
use Rattle.std.specs.Prelude.{Bool, true, false, not, cond, ◌&&◌, ◌||◌, List, [], ◌∷◌, ℕ, ◌+◌, leb}

-- bytes from one up to another, both of them in it
pub record Range : Type 0 where
  pub low : ℕ
  pub high : ℕ

-- The bytes that a place takes: those of some ranges, or "all other bytes, newline included".
pub record Class : Type 0 where
  pub negated : Bool
  pub ranges : List Range

abbrev pub in_range : Range → ℕ → Bool
in_range r b = leb r.low b && leb b r.high

unfoldable pub in_some : List Range → ℕ → Bool
in_some [] b = false
in_some (r ∷ rs) b = in_range r b || in_some rs b

unfoldable pub accepts : Class → ℕ → Bool
accepts c b = cond c.negated (not (in_some c.ranges b)) (in_some c.ranges b)

-- a byte; and `.`, "any byte"
abbrev pub only : ℕ → Class
only b = record { negated = false; ranges = record { low = b; high = b } ∷ [] }

abbrev pub any_byte : Class
any_byte = record { negated = true; ranges = [] }

-- "Bytes, `.` (any byte), brackets, `^ $` (text start, text end), groups, `|`, `* + ?`." A place is a byte, a dot or a
-- bracket; what is at it is a class, or, in a tree whose places are numbered, a number.
pub data Ere (A : Type 0) : Type 0 where
  place : A → Ere A
  bol : Ere A
  eol : Ere A
  cat : Ere A → Ere A → Ere A
  alt : Ere A → Ere A → Ere A
  star : Ere A → Ere A
  plus : Ere A → Ere A
  opt : Ere A → Ere A

-- the tree with something else at each place
abbrev pub map_ere : {A B : Type 0} → (A → B) → Ere A → Ere B
map_ere f (place a) = place (f a)
map_ere f bol = bol
map_ere f eol = eol
map_ere f (cat a b) = cat (map_ere f a) (map_ere f b)
map_ere f (alt a b) = alt (map_ere f a) (map_ere f b)
map_ere f (star a) = star (map_ere f a)
map_ere f (plus a) = plus (map_ere f a)
map_ere f (opt a) = opt (map_ere f a)

-- "places (byte, dot, bracket or anchor)"
unfoldable pub places : {A : Type 0} → Ere A → ℕ
places (place a) = 1
places bol = 1
places eol = 1
places (cat a b) = places a + places b
places (alt a b) = places a + places b
places (star a) = places a
places (plus a) = places a
places (opt a) = places a
