-- Internal: cited by private contracts only. The values of texts between two places of a filter's text: the bytes as
-- they are, or with the escapes of STRINGs taken.
use Rattle.std.specs.Prelude.{◌≡◌, Bool, true, false, cond, List, [], ◌∷◌, ℕ, ◌≤◌, ◌<◌, length, take, drop, eqb}
use Rattle.std.proofs.Math.Option.{Option, some, none}
use Rattle.ere_grammar.specs.Bytes.{lookup, string_escapes}
use Rattle.program_tables.specs.declared.texts.ValueByte.{ValueByte}

-- a byte that may be there, or another
unfoldable pub byte_or : ℕ → Option ℕ → ℕ
byte_or b none = b
byte_or b (some v) = v

-- "String escapes": the value of the bytes between the quotes of a STRING, after a backslash or not
unfoldable pub unescape : Bool → List ℕ → List ℕ
unescape escaped [] = cond escaped (92 ∷ []) []
unescape escaped (b ∷ l) =
    let escape = byte_or b (lookup string_escapes b) ∷ unescape false l in
    let backslash = unescape true l in
    let plain = b ∷ unescape false l in
    cond escaped escape (cond (eqb b 92) backslash plain)

-- the bytes from place a to place b
abbrev pub between : List ℕ → ℕ → ℕ → List ℕ
between s a b = drop a (take b s)

unfoldable pub value_of : Bool → List ℕ → List ℕ
value_of escapes l = cond escapes (unescape false l) l

-- the value of the text between two places
abbrev pub value_in : List ℕ → Bool → ℕ → ℕ → List ℕ
value_in s escapes a b = value_of escapes (between s a b)

-- places of the text, if there is anything between them
abbrev pub Inside : List ℕ → ℕ → ℕ → Type 0
Inside s a b = a < b → b ≤ length s

-- a value's first byte, and the place after its spelling
pub record ValueAt (s : List ℕ) (i stop : ℕ) (escapes : Bool) (r : ValueByte) : Type 0 where
  pub further : i < r.next
  pub within : r.next ≤ stop
  pub one : value_in s escapes i stop ≡ r.byte ∷ value_in s escapes r.next stop
