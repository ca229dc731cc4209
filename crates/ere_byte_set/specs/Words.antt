-- Internal: cited by private contracts only. Classes of bytes as four words: the byte b is bit b % 64 of word b / 64.
use Rattle.std.specs.Prelude.{◌≡◌, Bool, true, false, not, ◌||◌, List, [], ◌∷◌, ℕ, zero, suc, ◌+◌, ◌-◌, ◌*◌, ◌/◌, ◌%◌, ◌^◌, ◌<◌, length, get_or, set, eqb}
use Rattle.std.specs.Int.Bits.{bit_or}
use Rattle.lists.specs.Digit.{bit}
use Rattle.ere_meaning.specs.Tree.{Range, in_range}

-- the byte x is in the class c
abbrev pub in_class : List ℕ → ℕ → Bool
in_class c x = bit (get_or c (x / 64) 0) (x % 64)

abbrev pub no_byte : List ℕ
no_byte = 0 ∷ 0 ∷ 0 ∷ 0 ∷ []

abbrev pub every_byte : List ℕ
every_byte = 0xffff_ffff_ffff_ffff ∷ 0xffff_ffff_ffff_ffff ∷ 0xffff_ffff_ffff_ffff ∷ 0xffff_ffff_ffff_ffff ∷ []

-- the class c with the byte b
abbrev pub with_byte : List ℕ → ℕ → List ℕ
with_byte c b = set c (b / 64) (bit_or (get_or c (b / 64) 0) (1 * 2 ^ (b % 64) % 2 ^ 64))

-- with n bytes from lo on
unfoldable pub with_bytes : List ℕ → ℕ → ℕ → List ℕ
with_bytes c lo zero = c
with_bytes c lo (suc n) = with_byte (with_bytes c lo n) (lo + n)

-- with the bytes of a range, and of some
abbrev pub with_span : List ℕ → Range → List ℕ
with_span c r = with_bytes c r.low (r.high + 1 - r.low)

unfoldable pub with_spans : List ℕ → List Range → List ℕ
with_spans c [] = c
with_spans c (r ∷ rs) = with_spans (with_span c r) rs

-- the word with each bit turned
abbrev pub other_word : ℕ → ℕ
other_word w = 0xffff_ffff_ffff_ffff - w

-- the bytes that are not in c
abbrev pub other_bytes : List ℕ → List ℕ
other_bytes c = other_word (get_or c 0 0) ∷ other_word (get_or c 1 0) ∷ other_word (get_or c 2 0) ∷ other_word (get_or c 3 0) ∷ []

-- four words of 64 bits
pub record FourWords (c : List ℕ) : Type 0 where
  pub four : length c ≡ 4
  pub fit : (k : ℕ) → get_or c k 0 < 2 ^ 64

-- Which bytes the class of each operation has: bit x % 64 of word x / 64 is set exactly for them.
pub record ClassBit (c : List ℕ) (x : ℕ) : Type 0 where
  pub empty : in_class no_byte x ≡ false
  pub full : in_class every_byte x ≡ true
  pub single : (b : ℕ) → in_class (with_byte no_byte b) x ≡ eqb x b
  pub byte : (b : ℕ) → in_class (with_byte c b) x ≡ (eqb x b || in_class c x)
  pub range : (r : Range) → in_class (with_span c r) x ≡ (in_range r x || in_class c x)
  pub other : in_class (other_bytes c) x ≡ not (in_class c x)
