-- Document 01, "Values": the form of a number in a text. What a text's number is is apart, in Judgement.antt.
use Rattle.std.specs.Prelude.{◌≡◌, Bool, true, false, cond, List, [], ◌∷◌, ◌++◌, ℕ, ◌+◌, ◌<◌, length, get_or, take, drop, eqb, leb}
use Rattle.lists.specs.Elements.{All, leading}

-- "blanks (space, tab)"
abbrev pub is_blank : ℕ → Bool
is_blank b = cond (eqb b 32) true (eqb b 9)

abbrev pub is_digit : ℕ → Bool
is_digit b = cond (leb 48 b) (leb b 57) false

abbrev pub is_sign : ℕ → Bool
is_sign b = cond (eqb b 43) true (eqb b 45)

-- an optional byte of a kind
pub data Maybe (kind : ℕ → Bool) : List ℕ → Type 0 where
  absent : Maybe kind []
  present : {b : ℕ} → kind b ≡ true → Maybe kind (b ∷ [])

-- digits after a point, or neither
pub data Fraction : List ℕ → List ℕ → Type 0 where
  unpointed : Fraction [] []
  pointed : {digits : List ℕ} → All is_digit digits → Fraction (46 ∷ []) digits

-- "optional sign, digits with an optional point, at least one digit"
pub record Numeral (t : List ℕ) : Type 0 where
  pub sign : List ℕ
  pub whole : List ℕ
  pub point : List ℕ
  pub fraction : List ℕ
  pub spelled : t ≡ sign ++ whole ++ point ++ fraction
  pub signed : Maybe is_sign sign
  pub digits : All is_digit whole
  pub fractional : Fraction point fraction
  pub some : 0 < length whole + length fraction

-- "Field text looks numeric if, without outer blanks (space, tab), it is" a numeral
pub record Looks (t : List ℕ) : Type 0 where
  pub before : List ℕ
  pub numeral : List ℕ
  pub after : List ℕ
  pub spelled : t ≡ before ++ numeral ++ after
  pub blank_before : All is_blank before
  pub blank-after : All is_blank after
  pub form : Numeral numeral

-- The same, computed. the digits from index a on
unfoldable pub digits_from : ℕ → List ℕ → List ℕ
digits_from a t = take (leading is_digit (drop a t)) (drop a t)

-- how long the sign is that a text begins with, and whether it is a minus; the 0 past a text's end is no sign and no
-- point
unfoldable pub sign_length : List ℕ → ℕ
sign_length t = cond (is_sign (get_or t 0 0)) 1 0

abbrev pub is_negative : List ℕ → Bool
is_negative t = eqb (get_or t 0 0) 45

unfoldable pub whole_digits : List ℕ → List ℕ
whole_digits t = digits_from (sign_length t) t

-- where a point would stand, and whether one does
unfoldable pub point_at : List ℕ → ℕ
point_at t = sign_length t + length (whole_digits t)

unfoldable pub has_point : List ℕ → Bool
has_point t = eqb (get_or t (point_at t) 0) 46

unfoldable pub fraction_digits : List ℕ → List ℕ
fraction_digits t = cond (has_point t) (digits_from (point_at t + 1) t) []

-- the length of the longest prefix that is a numeral; 0 where there is none
unfoldable pub prefix_length : List ℕ → ℕ
prefix_length t =
    cond (eqb (length (whole_digits t) + length (fraction_digits t)) 0) 0
    (cond (has_point t) (point_at t + 1 + length (fraction_digits t)) (point_at t))

-- "after leading blanks"
unfoldable pub after_blanks : List ℕ → List ℕ
after_blanks t = drop (leading is_blank t) t

-- whether n bytes of a text are some, with nothing but blanks after them
unfoldable pub blank_after : ℕ → List ℕ → Bool
blank_after n t = cond (eqb n 0) false (eqb (n + leading is_blank (drop n t)) (length t))

unfoldable pub looks_numeric : List ℕ → Bool
looks_numeric t = blank_after (prefix_length (after_blanks t)) (after_blanks t)
