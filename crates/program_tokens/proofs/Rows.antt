-- Texts and their tokens, by document 01: a row breaks where "Tokens and grammar" is read otherwise.
use mathlib.Core.Path.{◌≡◌, refl}
use mathlib.Core.Bool.{Bool, true, ◌&&◌}
use mathlib.Core.List.{List, [], ◌∷◌}
use Prim.Native.Nat.{ℕ}
use Prim.Native.String.{String}
use lib.Dec.{eqb}
use Rattle.lists.specs.Elements.{all, leading, one_of}
use Rattle.ere_meaning.specs.Tree.{in_some, accepts, places}
use Rattle.ere_grammar.specs.Bytes.{lookup, escape_of, is_plain}
use Rattle.ere_grammar.specs.Read.{begins, tail, escaped_byte, read_escape, read_member, joins, with_range, last_hyphen, range_to, after_byte, read_items, bracket_of, read_bracket, only_byte, read_atom, finished, repeated, after_atom, after_group, after_bar, read_group, read_rest, whole, read_ere}
use Rattle.numeral.specs.Judgement.{value_after}
use Rattle.program_tokens.specs.Kinds.{Kind, BEGIN, CONTINUE, DELETE, ERE, NUMBER, STRING, assign, at-least, bad, bad-ere, bar, call_paren, div_assign, fixed_variable, increment, newline, no_match, open_paren, or_or, other_variable, plus, slash, star, text_end, user_name, variable, same, rank, among}
use Rattle.program_tokens.specs.Words.{bytes, same_bytes, kind_in}
use Rattle.program_tokens.specs.Tokens.{Token, begins_with, skipped, number_token, word_token, with_byte, with_escape, read_string, string_token, operator_token, token_of, token_at, token_after, one_more, ere_length, ere_read, ere_token, as_operand, spelling, number_in, value_of, string_in, ere_in}

abbrev pub same_token : Token → Kind → ℕ → ℕ → Bool
same_token t k start stop = same t.kind k && (eqb t.start start && eqb t.stop stop)

-- the token at a place; it, read as an operand; and the one after it
abbrev pub at : String → ℕ → Kind → ℕ → ℕ → Bool
at s p k start stop = same_token (token_at 1 (bytes s) p) k start stop

abbrev pub operand : String → ℕ → Kind → ℕ → ℕ → Bool
operand s p k start stop = same_token (as_operand 1 (bytes s) (token_at 1 (bytes s) p)) k start stop

abbrev pub after : String → ℕ → Kind → ℕ → ℕ → Bool
after s p k start stop = same_token (token_after 1 (bytes s) (token_at 1 (bytes s) p)) k start stop

abbrev pub rows : List Bool
rows =
    -- "operators (the longest that fits)"
    at "a++b" 1 increment 1 3
    ∷ at "a+ +b" 1 plus 1 2
    ∷ at "a>=b" 1 at-least 1 3
    ∷ at "a= =b" 1 assign 1 2
    ∷ at "a**b" 1 star 1 2
    ∷ at "a|" 1 bar 1 2
    ∷ at "a||" 1 or_or 1 3
    ∷ at "a&" 1 bad 1 2
    ∷ at "a!~b" 1 no_match 1 3
    -- "comments and blanks as in 004": a comment ends before its newline
    ∷ at " \t#c\nx" 0 newline 4 5
    ∷ at "#c" 0 text_end 2 2
    ∷ at "\rx" 0 bad 0 1
    -- "NUMBER is digits alone; over 2^53, or with a letter, underscore or point right after, it is 3"
    ∷ at "9007199254740992" 0 NUMBER 0 16
    ∷ at "9007199254740993" 0 bad 0 16
    ∷ at "007;" 0 NUMBER 0 3
    ∷ at "12a" 0 bad 0 2
    ∷ at "1_" 0 bad 0 1
    ∷ at "1." 0 bad 0 1
    ∷ at ".5" 0 bad 0 1
    -- "String escapes: ..; any other is 3, as is a newline inside or a backslash between tokens"
    ∷ at "\"a\\\"b\" c" 0 STRING 0 6
    ∷ at "\"\\a\\b\\t\\n\\v\\f\\r\\/\\\\\"" 0 STRING 0 20
    ∷ at "\"\\0\"" 0 bad 0 1
    ∷ at "\"\\q\"" 0 bad 0 1
    ∷ at "\"a\n\"" 0 bad 0 1
    ∷ at "\"a" 0 bad 0 1
    ∷ at "\\\n" 0 bad 0 1
    -- words, and user names
    ∷ at "BEGIN{" 0 BEGIN 0 5
    ∷ at "BEGINS" 0 user_name 0 6
    ∷ at "delete" 0 DELETE 0 6
    ∷ at "continue" 0 CONTINUE 0 8
    ∷ at "continues" 0 user_name 0 9
    ∷ at "RS" 0 other_variable 0 2
    ∷ at "SRC" 0 user_name 0 3
    ∷ at "NF" 0 fixed_variable 0 2
    ∷ at "FS" 0 variable 0 2
    ∷ at "func" 0 user_name 0 4
    ∷ at "_a1 b" 0 user_name 0 3
    -- "`/` starts an ERE where the grammar below allows one, else it divides": as an operator, and as an operand
    ∷ at "/a/" 0 slash 0 1
    ∷ at "/=/" 0 div_assign 0 2
    ∷ operand "/a/" 0 ERE 0 3
    ∷ operand "/=/" 0 ERE 0 3
    ∷ operand "a" 0 user_name 0 1
    -- "The ERE ends at the next unescaped slash, in brackets too; none on its line is 3."
    ∷ operand "/[/]/" 0 bad-ere 0 3
    ∷ operand "/[\\/]/" 0 ERE 0 6
    ∷ operand "/a\\/b/c" 0 ERE 0 6
    ∷ operand "/\\\\/" 0 ERE 0 4
    ∷ operand "/a\n/" 0 bad 0 1
    ∷ operand "/a\\\n/" 0 bad 0 1
    ∷ operand "//" 0 bad-ere 0 2
    -- "A `(` at once after a user name is 4": it has a kind of its own
    ∷ after "x(" 0 call_paren 1 2
    ∷ after "x (" 0 open_paren 2 3
    ∷ after "NF(" 0 open_paren 2 3
    ∷ []

pub rows-hold : all (λ (b : Bool). b) rows ≡ true
unfolding leading one_of rank among same_bytes kind_in begins_with skipped number_token word_token with_byte with_escape read_string string_token operator_token token_of token_at token_after one_more ere_length ere_read ere_token as_operand spelling number_in value_of string_in ere_in in_some accepts places lookup escape_of is_plain begins tail escaped_byte read_escape read_member joins with_range last_hyphen range_to after_byte read_items bracket_of read_bracket only_byte read_atom finished repeated after_atom after_group after_bar read_group read_rest whole read_ere value_after
rows-hold = refl
