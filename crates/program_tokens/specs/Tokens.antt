-- Document 01, "Tokens and grammar": the token at a place of a text. "`/` starts an ERE where the grammar below allows
-- one, else it divides": here a `/` is an operator, and `as_operand` reads it again as an ERE where the grammar allows
-- one.
use Rattle.std.specs.Prelude.{Bool, true, false, not, cond, ◌&&◌, ◌||◌, List, [], ◌∷◌, ℕ, suc, ◌+◌, ◌-◌, length, take, drop, eqb, leb, ltb}
use Rattle.std.proofs.Math.Option.{Option, some, none}
use Rattle.lists.specs.Elements.{leading}
use Rattle.lists.specs.Parsing.{Parsed, parsed}
use Rattle.edition.specs.Limits.{number_bound}
use Rattle.ere_meaning.specs.Tree.{Class, Ere}
use Rattle.ere_grammar.specs.Bytes.{lookup, string_escapes}
use Rattle.ere_grammar.specs.Read.{read_ere}
use Rattle.numeral.specs.Form.{is_blank, is_digit}
use Rattle.numeral.specs.Judgement.{digits_value}
use Rattle.program_tokens.specs.Kinds.{Kind, text_end, newline, bad, bad-ere, NUMBER, STRING, ERE, user_name, slash, div_assign, call_paren, same, among}
use Rattle.program_tokens.specs.Words.{word_kind, operator_kind}

-- a token: where it starts, its kind, and the place after it
pub record Token : Type 0 where
  pub start : ℕ
  pub kind : Kind
  pub stop : ℕ

-- a token of n bytes
abbrev pub token : ℕ → Kind → ℕ → Token
token a k n = record { start = a; kind = k; stop = a + n }

abbrev pub is : Kind → Token → Bool
is k t = same t.kind k

abbrev pub is_one_of : List Kind → Token → Bool
is_one_of ks t = among ks t.kind

-- ---- bytes

abbrev pub within : ℕ → ℕ → ℕ → Bool
within low high b = leb low b && leb b high

-- 004: "a word consisting solely of underscores, digits, and alphabetics .. that does not begin with a digit"
abbrev pub is_letter : ℕ → Bool
is_letter b = within 97 122 b || (within 65 90 b || eqb b 95)

abbrev pub is_word_byte : ℕ → Bool
is_word_byte b = is_letter b || is_digit b

-- whether a list begins with a byte of a kind
unfoldable pub begins_with : (ℕ → Bool) → List ℕ → Bool
begins_with kind [] = false
begins_with kind (b ∷ l) = kind b

-- ---- "comments and blanks as in 004"

-- how many bytes of blanks and comments come before the next token; a comment ends before the newline
unfoldable pub skipped : Bool → List ℕ → ℕ
skipped in_comment [] = 0
skipped in_comment (b ∷ l) =
    let comment = in_comment || eqb b 35 in
    let more = suc (skipped comment l) in
    cond (eqb b 10) 0 (cond (comment || is_blank b) more 0)

-- ---- one token, from its first byte on

-- "NUMBER is digits alone; over 2^53, or with a letter, underscore or point right after, it is 3"
unfoldable pub number_token : ℕ → List ℕ → Token
number_token a l =
    let n = leading is_digit l in
    let large = ltb number_bound (digits_value (take n l)) in
    cond (large || begins_with (λ b. is_letter b || eqb b 46) (drop n l)) (token a bad n) (token a NUMBER n)

-- "Words"
unfoldable pub word_token : ℕ → ℕ → List ℕ → Token
word_token edition a l =
    let n = leading is_word_byte l in
    token a (word_kind edition (take n l)) n

-- one byte more of a STRING's value
unfoldable pub with_byte : ℕ → Option (Parsed (List ℕ)) → Option (Parsed (List ℕ))
with_byte b none = none
with_byte b (some g) = parsed (b ∷ g.value) g.rest

-- the same where an escape spells a byte
unfoldable pub with_escape : Option ℕ → Option (Parsed (List ℕ)) → Option (Parsed (List ℕ))
with_escape none r = none
with_escape (some b) r = with_byte b r

-- the value of a STRING, from the byte after its first quote on, and the bytes after its last quote.
-- "String escapes: `\" \\ \/ \a \b \t \n \v \f \r`; any other is 3, as is a newline inside"
unfoldable pub read_string : Bool → List ℕ → Option (Parsed (List ℕ))
read_string escaped [] = none
read_string escaped (b ∷ l) =
    let escape = with_escape (lookup string_escapes b) (read_string false l) in
    let backslash = read_string true l in
    let plain = with_byte b (read_string false l) in
    cond escaped escape (cond (eqb b 34) (parsed [] l) (cond (eqb b 10) none (cond (eqb b 92) backslash plain)))

unfoldable pub string_token : ℕ → List ℕ → Option (Parsed (List ℕ)) → Token
string_token a l none = token a bad 1
string_token a l (some g) = token a STRING (suc (length l - length g.rest))

-- "operators (the longest that fits)": two bytes, or else one; a byte that begins no operator is bad, "as is .. a
-- backslash between tokens"
unfoldable pub operator_token : ℕ → ℕ → List ℕ → Token
operator_token edition a l =
    let two = operator_kind edition (take 2 l) in
    let one = operator_kind edition (take 1 l) in
    cond (same two bad) (token a one 1) (token a two (length (take 2 l)))

-- the token that starts at place a, where the text goes on with l
unfoldable pub token_of : ℕ → ℕ → List ℕ → Token
token_of edition a [] = token a text_end 0
token_of edition a (b ∷ l) =
    cond (eqb b 10) (token a newline 1)
    (cond (is_letter b) (word_token edition a (b ∷ l))
    (cond (is_digit b) (number_token a (b ∷ l))
    (cond (eqb b 34) (string_token a l (read_string false l)) (operator_token edition a (b ∷ l)))))

-- the first token at or after a place
unfoldable pub token_at : ℕ → List ℕ → ℕ → Token
token_at edition s p =
    let a = p + skipped false (drop p s) in
    token_of edition a (drop a s)

-- the token after a token. "A `(` at once after a user name is 4": it has a kind of its own
unfoldable pub token_after : ℕ → List ℕ → Token → Token
token_after edition s t =
    cond (is user_name t && begins_with (λ b. eqb b 40) (drop t.stop s))
    (token t.stop call_paren 1) (token_at edition s t.stop)

-- ---- EREs

unfoldable pub one_more : Option ℕ → Option ℕ
one_more none = none
one_more (some n) = some (suc n)

-- how many bytes come before the slash that ends an ERE. "The ERE ends at the next unescaped slash, in brackets too;
-- none on its line is 3."
unfoldable pub ere_length : Bool → List ℕ → Option ℕ
ere_length escaped [] = none
ere_length escaped (b ∷ l) =
    let more = one_more (ere_length (not escaped && eqb b 92) l) in
    cond (eqb b 10) none (cond (not escaped && eqb b 47) (some 0) more)

-- an ERE token of n bytes, by its tree: without one, "bad ERE or its sizes" (5)
unfoldable pub ere_read : ℕ → ℕ → Option (Ere Class) → Token
ere_read a n none = token a bad-ere n
ere_read a n (some e) = token a ERE n

-- an ERE token, by how many bytes are between its slashes
unfoldable pub ere_token : ℕ → ℕ → List ℕ → Option ℕ → Token
ere_token edition a l none = token a bad 1
ere_token edition a l (some n) = ere_read a (2 + n) (read_ere edition (take n l))

-- a token where the grammar allows an ERE: "`/` starts an ERE", also that of `/=`
unfoldable pub as_operand : ℕ → List ℕ → Token → Token
as_operand edition s t =
    let l = drop (suc t.start) s in
    cond (is_one_of (slash ∷ div_assign ∷ []) t) (ere_token edition t.start l (ere_length false l)) t

-- ---- what a token says

-- the bytes of a token
unfoldable pub spelling : List ℕ → Token → List ℕ
spelling s t = take (t.stop - t.start) (drop t.start s)

-- the value of a NUMBER
unfoldable pub number_in : List ℕ → Token → ℕ
number_in s t = digits_value (spelling s t)

unfoldable pub value_of : Option (Parsed (List ℕ)) → List ℕ
value_of none = []
value_of (some g) = g.value

-- the value of a STRING, its escapes taken
unfoldable pub string_in : List ℕ → Token → List ℕ
string_in s t = value_of (read_string false (drop (suc t.start) s))

-- "EREs, length and bytes as between the slashes"
unfoldable pub ere_in : List ℕ → Token → List ℕ
ere_in s t = take (t.stop - t.start - 2) (drop (suc t.start) s)
