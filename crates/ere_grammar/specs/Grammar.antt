-- Document 01, "EREs": the bytes of an ERE and the tree that they spell, one constructor a rule.
use Rattle.std.specs.Prelude.{◌≡◌, Bool, true, false, List, [], ◌∷◌, ◌++◌, ℕ, suc, ◌≤◌, length}
use Rattle.std.proofs.Math.Option.{some}
use Rattle.lists.specs.Elements.{one_of}
use Rattle.edition.specs.Limits.{ere_bytes, ere_places, ere_groups}
use Rattle.ere_meaning.specs.Tree.{Range, Class, only, any_byte, Ere, place, bol, eol, cat, alt, star, plus, opt, places}
use Rattle.ere_grammar.specs.Bytes.{escape_of, is_plain}

-- What follows does not begin with one of some bytes.
pub data Clear (bytes : List ℕ) : List ℕ → Type 0 where
  at-end : Clear bytes []
  before : {b : ℕ} {t : List ℕ} → one_of bytes b ≡ false → Clear bytes (b ∷ t)

-- "`[:`, `[=`, `[.` inside a bracket" are refused: an unescaped `[` has none of these bytes after it
pub data Opened : List ℕ → List ℕ → Type 0 where
  other : {b : ℕ} {t : List ℕ} → one_of (91 ∷ 92 ∷ []) b ≡ false → Opened (b ∷ []) t
  escaped : {b : ℕ} {t : List ℕ} → Opened (92 ∷ b ∷ []) t
  clear : {t : List ℕ} → Clear (58 ∷ 61 ∷ 46 ∷ []) t → Opened (91 ∷ []) t

-- A byte in a bracket, plain or escaped. Some bytes have another sense at its place.
pub data Member (barred : List ℕ) : List ℕ → ℕ → Type 0 where
  itself : {b : ℕ} → one_of (92 ∷ barred) b ≡ false → Member barred (b ∷ []) b
  escaped : {b c : ℕ} → escape_of b ≡ some c → Member barred (92 ∷ b ∷ []) c

-- "`]` first and `-` first or last are plain": first, no byte has another sense
abbrev pub senses : Bool → List ℕ
senses true = []
senses false = 93 ∷ 45 ∷ []

-- what follows a byte that is no range's: no `-`, or one that is last
pub data Ends : List ℕ → Type 0 where
  hyphen : Ends (45 ∷ [])
  clear : {t : List ℕ} → Clear (45 ∷ []) t → Ends t

abbrev pub range : ℕ → ℕ → Range
range a b = record { low = a; high = b }

-- The items between the brackets; `first` where none is before them. "any other `-` makes a range"; "a backwards range;
-- a range end used twice" are refused.
pub data Items : Bool → List ℕ → List Range → Type 0 where
  done : Items false [] []
  hyphen : Items false (45 ∷ []) (range 45 45 ∷ [])
  byte : {first : Bool} {s t : List ℕ} {b : ℕ} {rs : List Range} → Member (senses first) s b → Opened s t → Ends t
      → Items false t rs → Items first (s ++ t) (range b b ∷ rs)
  span : {first : Bool} {s u t : List ℕ} {a b : ℕ} {rs : List Range} → Member (senses first) s a → Member (93 ∷ []) u b
      → Opened u t → a ≤ b → Items false t rs → Items first (s ++ (45 ∷ (u ++ t))) (range a b ∷ rs)

-- "`[^` takes all other bytes"
pub data Bracket : List ℕ → Class → Type 0 where
  taking : {s : List ℕ} {rs : List Range} → Clear (94 ∷ []) s → Items true s rs
      → Bracket (91 ∷ (s ++ (93 ∷ []))) (record { negated = false; ranges = rs })
  leaving : {s : List ℕ} {rs : List Range} → Items true s rs
      → Bracket (91 ∷ 94 ∷ (s ++ (93 ∷ []))) (record { negated = true; ranges = rs })

-- an ERE is alternatives, each a sequence of pieces; a piece is an anchor, or an atom that may be repeated
pub data Part : Type 0 where
  alternatives sequence piece atom : Part

module _ (edition : ℕ) where
  -- The bytes spell the tree, with at most n groups one inside the other. A later edition adds rules of its own.
  pub data Spells : Part → ℕ → List ℕ → Ere Class → Type 0 where
    alternative : {n : ℕ} {s : List ℕ} {e : Ere Class} → Spells sequence n s e → Spells alternatives n s e
    or : {n : ℕ} {s t : List ℕ} {a b : Ere Class} → Spells alternatives n s a → Spells sequence n t b
        → Spells alternatives n (s ++ (124 ∷ t)) (alt a b)
    single : {n : ℕ} {s : List ℕ} {e : Ere Class} → Spells piece n s e → Spells sequence n s e
    then : {n : ℕ} {s t : List ℕ} {a b : Ere Class} → Spells sequence n s a → Spells piece n t b
        → Spells sequence n (s ++ t) (cat a b)
    start : {n : ℕ} → Spells piece n (94 ∷ []) bol
    end : {n : ℕ} → Spells piece n (36 ∷ []) eol
    once : {n : ℕ} {s : List ℕ} {e : Ere Class} → Spells atom n s e → Spells piece n s e
    any_times : {n : ℕ} {s : List ℕ} {e : Ere Class} → Spells atom n s e → Spells piece n (s ++ (42 ∷ [])) (star e)
    some_times : {n : ℕ} {s : List ℕ} {e : Ere Class} → Spells atom n s e → Spells piece n (s ++ (43 ∷ [])) (plus e)
    at_most_once : {n : ℕ} {s : List ℕ} {e : Ere Class} → Spells atom n s e → Spells piece n (s ++ (63 ∷ [])) (opt e)
    byte : {n : ℕ} {b : ℕ} → is_plain b ≡ true → Spells atom n (b ∷ []) (place (only b))
    escaped : {n : ℕ} {b c : ℕ} → escape_of b ≡ some c → Spells atom n (92 ∷ b ∷ []) (place (only c))
    dot : {n : ℕ} → Spells atom n (46 ∷ []) (place any_byte)
    bracket : {n : ℕ} {s : List ℕ} {c : Class} → Bracket s c → Spells atom n s (place c)
    group : {n : ℕ} {s : List ℕ} {e : Ere Class} → Spells alternatives n s e
        → Spells atom (suc n) (40 ∷ (s ++ (41 ∷ []))) e

-- "An ERE has at most 512 bytes, 128 places (byte, dot, bracket or anchor) and 16 nested groups."
pub record Reads (edition : ℕ) (bytes : List ℕ) (e : Ere Class) : Type 0 where
  pub spelled : Spells edition alternatives ere_groups bytes e
  pub short : length bytes ≤ ere_bytes
  pub few : places e ≤ ere_places
