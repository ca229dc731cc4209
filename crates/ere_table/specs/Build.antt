-- Internal: cited by private contracts only. Building a table. A part's rows have the accept bit where the part may
-- end; what follows it is put there.
use Rattle.std.specs.Prelude.{Bool, cond, ◌&&◌, List, [], ◌∷◌, ℕ, zero, suc, ◌+◌, ◌-◌, ◌*◌, ◌/◌, ◌%◌, ◌^◌, get_or, set, eqb, ltb}
use Rattle.std.specs.Int.Bits.{bit_or, bit_and}
use Rattle.ere_table.specs.Table.{place_count, row_words, class_words, mem, row}
use Rattle.lists.specs.Digit.{bit}

-- the set x with y in place of its accept bit
abbrev pub link : List ℕ → List ℕ → List ℕ
link x y =
    cond (mem x place_count)
    (bit_or (get_or x 0 0) (get_or y 0 0) ∷ bit_or (get_or x 1 0) (get_or y 1 0) ∷ bit_and (get_or x 2 0) (get_or y 2 0) ∷ [])
    (get_or x 0 0 ∷ get_or x 1 0 ∷ bit_and (get_or x 2 0) (get_or y 2 0) ∷ [])

-- the accept bits of a set's third word: before the text's end (1) and at it (2)
abbrev pub accept_bits : ℕ
accept_bits = 3

-- the set x with the accept bits
abbrev pub or_stop : List ℕ → List ℕ
or_stop x = get_or x 0 0 ∷ get_or x 1 0 ∷ accept_bits ∷ []

-- only the accept bits; only that of the text's end; only the place p
abbrev pub accept : List ℕ
accept = 0 ∷ 0 ∷ accept_bits ∷ []

abbrev pub accept_at_end : List ℕ
accept_at_end = 0 ∷ 0 ∷ 2 ∷ []

abbrev pub single : ℕ → List ℕ
single p = cond (ltb p 64) (1 * 2 ^ p % 2 ^ 64 ∷ 0 ∷ 0 ∷ []) (0 ∷ 1 * 2 ^ (p - 64) % 2 ^ 64 ∷ 0 ∷ [])

-- the first n words of x, from index i on; and three, and four
unfoldable pub words_at : List ℕ → ℕ → List ℕ → ℕ → List ℕ
words_at t i x zero = t
words_at t i x (suc n) = set (words_at t i x n) (i + n) (get_or x n 0)

abbrev pub three_at : List ℕ → ℕ → List ℕ → List ℕ
three_at t i x = set (set (set t i (get_or x 0 0)) (i + 1) (get_or x 1 0)) (i + 2) (get_or x 2 0)

abbrev pub four_at : List ℕ → ℕ → List ℕ → List ℕ
four_at t i x = set (three_at t i x) (i + 3) (get_or x 3 0)

-- the table t with the row r set to x
abbrev pub with_row : List ℕ → ℕ → List ℕ → List ℕ
with_row t r x = three_at t (3 * r) x

-- the rows from r on, n of them, with y in place of their accept bits
unfoldable pub link_rows : List ℕ → ℕ → ℕ → List ℕ → List ℕ
link_rows t r zero y = t
link_rows t r (suc n) y = with_row (link_rows t r n y) (r + n) (link (row (link_rows t r n y) (r + n)) y)

-- the table t with the class of the place p set to c
abbrev pub with_class : List ℕ → ℕ → List ℕ → List ℕ
with_class t p c = four_at t (row_words + 4 * p) c

-- a match may begin with the place p
abbrev pub entered : List ℕ → ℕ → Bool
entered t p = bit (bit_or (get_or t (p / 64) 0) (get_or t (3 + p / 64) 0)) (p % 64)

-- the class out with that of the place p
abbrev pub join_class : List ℕ → List ℕ → ℕ → List ℕ
join_class t out p =
    bit_or (get_or out 0 0) (get_or t (row_words + 4 * p) 0)
    ∷ bit_or (get_or out 1 0) (get_or t (row_words + 4 * p + 1) 0)
    ∷ bit_or (get_or out 2 0) (get_or t (row_words + 4 * p + 2) 0)
    ∷ bit_or (get_or out 3 0) (get_or t (row_words + 4 * p + 3) 0)
    ∷ []

abbrev pub gather : List ℕ → List ℕ → ℕ → List ℕ
gather t out p = cond (entered t p) (join_class t out p) out

-- the bytes that those places below n take with which a match may begin
unfoldable pub begin_to : List ℕ → ℕ → List ℕ
begin_to t zero = 0 ∷ 0 ∷ 0 ∷ 0 ∷ []
begin_to t (suc n) = gather t (begin_to t n) n

abbrev pub begin_of : List ℕ → List ℕ
begin_of t = begin_to t place_count

-- 1 if an entry row has an accept bit
abbrev pub empty_of : List ℕ → ℕ
empty_of t = cond (eqb (get_or t 2 0) 0 && eqb (get_or t 5 0) 0) 0 1

-- the table t with its last five words as its rows and classes say
abbrev pub sealed : List ℕ → List ℕ
sealed t = set (four_at t (row_words + class_words) (begin_of t)) (row_words + class_words + 4) (empty_of t)
