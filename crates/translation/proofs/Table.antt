-- Texts, and what document 01 makes of them: a row breaks where a rule is read otherwise. "Tokens and grammar",
-- "Outcomes" (Translating) and "The image", in 01's order. Refusals have their outcome and place, texts that are
-- accepted the length of their image, and the last table has images.
use mathlib.Core.Path.{◌≡◌, refl}
use mathlib.Core.Bool.{Bool, true, ◌&&◌}
use mathlib.Core.List.{List, [], ◌∷◌, ◌++◌}
use Prim.Native.Nat.{ℕ, zero, suc}
use Prim.Native.String.{String}
use lib.Dec.{eqb}
use lib.ListN.{length}
use Rattle.lists.specs.Elements.{all, one_of, leading}
use Rattle.program_tokens.specs.Words.{bytes, same_bytes, kind_in}
use Rattle.translation.specs.Translation.{Translation, stored, sized, of_program, translate_of}
use Rattle.ere_meaning.specs.Search.{best_from, best_of}
use Rattle.ere_meaning.specs.Tree.{in_some, accepts, places}
use Rattle.ere_grammar.specs.Bytes.{lookup, escape_of, is_plain}
use Rattle.ere_grammar.specs.Read.{begins, tail, escaped_byte, read_escape, read_member, joins, with_range, last_hyphen, range_to, after_byte, read_items, bracket_of, read_bracket, only_byte, read_atom, finished, repeated, after_atom, after_group, after_bar, read_group, read_rest, whole, read_ere}
use Rattle.numeral.specs.Judgement.{value_after}
use Rattle.image_format.specs.Numbers.{coded}
use Rattle.image_format.specs.Writing.{all as all-writing, written}
use Rattle.program_tokens.specs.Kinds.{rank, among}
use Rattle.program_tokens.specs.Tokens.{begins_with, skipped, number_token, word_token, with_byte, with_escape, read_string, string_token, operator_token, token_of, token_at, token_after, one_more, ere_length, ere_read, ere_token, as_operand, spelling, number_in, value_of, string_in, ere_in}
use Rattle.program_tree.specs.Functions.{function_in}
use Rattle.program_grammar.specs.Sets.{starts_joined, starts_expression, starts_statement}
use Rattle.program_reader.specs.Expressions.{assign_to, closed, right_of, more, match_with, matching, argument, arguments, call, calling, primary, field_form, prefix_form, assigned, assignment, step_tier, tier, inside}
use Rattle.program_reader.specs.Operators.{operator_in, tier_of, tree_of, prefix_of}
use Rattle.program_reader.specs.Programs.{action_at, after_pattern, item_at, items, read_program}
use Rattle.program_reader.specs.Read.{past_in}
use Rattle.program_reader.specs.Statements.{ended, no_body, listed, print_at, condition_at, else_after, if_at, while_at, statement_of, followed, statements, block_of, statement_at}
use Rattle.program_code.specs.Emitted.{arithmetic_code, comparison_code, action_code, flow_code, opcode}
use Rattle.program_code.specs.Expressions.{prefix_action, size, compile}
use Rattle.program_code.specs.Sections.{size_all, compile_all, size_print, compile_print, size_of, compile_statement, guarded, part_of, parts_of, section_code}
use Rattle.program_numbering.specs.Names.{names_in, names_in_all, names_in_statement, names_in_pattern, names_in_item, names_in_program, has, with_new, number_of, users_among, users_of}
use Rattle.program_numbering.specs.Numbering.{same_constant, operands_by, tables_of, numbers_of, instructions, image_by}
use Rattle.program_numbering.specs.Sizes.{fits}

-- n bytes that are all the same
pub copies : ℕ → ℕ → List ℕ
copies b zero = []
copies b (suc n) = b ∷ copies b n

-- an image room of n bytes
abbrev pub room_of : ℕ → List ℕ
room_of n = copies 255 n

-- a text, the size of the image room, and a test of what the text is translated to
pub record Row : Type 0 where
  pub text : List ℕ
  pub room : ℕ
  pub holds : Translation → Bool

-- outcome, place and the room afterwards
pub answers : ℕ → ℕ → List ℕ → Translation → Bool
answers outcome place room x = eqb x.outcome outcome && (eqb x.place place && same_bytes x.room room)

-- a refusal: the room is untouched
abbrev pub refused : String → ℕ → ℕ → Row
refused t outcome place = record { text = bytes t; room = 2; holds = answers outcome place (room_of 2) }

-- a program, and how long its image is
abbrev pub accepted : String → ℕ → Row
accepted t size = record { text = bytes t; room = 512; holds = λ x. eqb x.outcome 0 && eqb x.place size }

-- a program and its image, in a room with a byte more, which is untouched
abbrev pub image : String → List ℕ → Row
image t i = record { text = bytes t; room = suc (length i); holds = answers 0 (length i) (i ++ (255 ∷ [])) }

-- a program in a room of n bytes, which is too small
abbrev pub short : String → ℕ → Row
short t n = record { text = bytes t; room = n; holds = answers 7 (length (bytes t)) (room_of n) }

pub agrees : Row → Bool
agrees r = r.holds (translate_of 1 r.text (room_of r.room))

-- "Outcomes", Translating: which refusal, and its place
abbrev pub outcome-rows : List Row
outcome-rows =
    -- a text that ends too early is 4 at its end, blanks and comments included
    refused "{print   " 4 9
    ∷ refused "{x = #c" 4 7
    ∷ refused "a &&\n" 4 5
    ∷ refused "BEGIN" 4 5
    ∷ refused "{if(a)" 4 6
    ∷ refused "(" 4 1
    ∷ accepted "" 13
    -- 2: the first NUL, before any token is looked at
    ∷ refused "@\0" 2 1
    ∷ refused "{print}\0\0" 2 7
    -- at one token 3, 5, 4, 6; left to right the first
    ∷ refused "{@" 3 1
    ∷ refused "x ~ /[/" 5 4
    ∷ refused "{if(a)b;@" 3 8
    ∷ refused "{print /a" 3 7
    ∷ refused "a b=1@" 4 3
    ∷ refused "/[/ @" 5 0
    -- 6 at the token that opens level 17; the grammar is asked first
    ∷ refused "(((((((((((((((((a" 6 16
    ∷ refused "(((((((((((((((()" 4 16
    ∷ refused "{{{{{{{{{{{{{{{{if(a)b" 6 18
    ∷ refused "{{{{{{{{{{{{{{{if(a){" 6 20
    ∷ refused "- - - - - - - - - - - - - - - - - a" 6 32
    ∷ refused "$$$$$$$$$$$$$$$$$1" 6 16
    ∷ refused "a=a=a=a=a=a=a=a=a=a=a=a=a=a=a=a=a=1" 6 33
    ∷ refused "{if(1)if(1)if(1)if(1)if(1)if(1)if(1)if(1)if(1)if(1)if(1)if(1)if(1)if(1)if(1)if(1);" 6 78
    ∷ refused "{{{{{{{{{{{{{{{{x=1" 6 17
    ∷ refused "{{{{{{{{{{{{{{{if(1)@" 3 20
    ∷ refused "{{{{{{{{{{{{{{{if(1)-b" 6 20
    ∷ refused "{{{{{{{{{{{{{{{{{" 6 16
    -- 16 levels are taken
    ∷ accepted "((((((((((((((((a))))))))))))))))" 29
    ∷ accepted "{{{{{{{{{{{{{{{{a}}}}}}}}}}}}}}}}" 18
    -- the other sizes are 6 at the text's end: 25 user names, 16 EREs, 64 constants, an operand depth of 32
    ∷ accepted "{a;b;c;d;e;f;g;h;i;j;k;l;m;n;o;p;q;r;s;t;u;v;w;x;y}" 138
    ∷ refused "{a;b;c;d;e;f;g;h;i;j;k;l;m;n;o;p;q;r;s;t;u;v;w;x;y;z}" 6 53
    ∷ accepted "{/a/;/b/;/c/;/d/;/e/;/f/;/g/;/h/;/i/;/j/;/k/;/l/;/m/;/n/;/o/;/p/}" 207
    ∷ refused "{/a/;/b/;/c/;/d/;/e/;/f/;/g/;/h/;/i/;/j/;/k/;/l/;/m/;/n/;/o/;/p/;/q/}" 6 69
    ∷ accepted "{0;1;2;3;4;5;6;7;8;9;10;11;12;13;14;15;16;17;18;19;20;21;22;23;24;25;26;27;28;29;30;31;32;33;34;35;36;37;38;39;40;41;42;43;44;45;46;47;48;49;50;51;52;53;54;55;56;57;58;59;60;61;62;63}" 462
    ∷ refused "{0;1;2;3;4;5;6;7;8;9;10;11;12;13;14;15;16;17;18;19;20;21;22;23;24;25;26;27;28;29;30;31;32;33;34;35;36;37;38;39;40;41;42;43;44;45;46;47;48;49;50;51;52;53;54;55;56;57;58;59;60;61;62;63;64}" 6 186
    ∷ accepted "{print 1,1,1,1,1,1,1,1,1,1,1,1,1,1,1,1,1,1,1,1,1,1,1,1,1,1,1,1,1,1,1,1}" 114
    ∷ refused "{print 1,1,1,1,1,1,1,1,1,1,1,1,1,1,1,1,1,1,1,1,1,1,1,1,1,1,1,1,1,1,1,1,1}" 6 73
    -- 1, place 8,192, even with a NUL
    ∷ record { text = copies 32 8192; room = 512; holds = λ x. eqb x.outcome 0 }
    ∷ record { text = copies 0 8193; room = 2; holds = answers 1 8192 (room_of 2) }
    ∷ []

-- "Words, operators (the longest that fits), NUMBER, STRING, ERE, comments and blanks"
abbrev pub token-rows : List Row
token-rows =
    -- a comment ends before its newline
    accepted "{x #c\nprint}" 28
    ∷ accepted "{print #}\n}" 23
    ∷ accepted "x # \\" 29
    -- blanks are space and tab alone
    ∷ accepted "{\tprint }" 23
    ∷ refused "{\rprint}" 3 1
    ∷ refused "x\u{b}" 3 1
    ∷ refused "x\u{c}" 3 1
    -- NUMBER: digits alone, by value; over 2^53, or a letter, underscore or point right after: 3
    ∷ accepted "9007199254740992" 38
    ∷ refused "9007199254740993" 3 0
    ∷ accepted "00000000000000000007" 31
    ∷ refused "12a" 3 0
    ∷ refused "1_" 3 0
    ∷ refused "1.5" 3 0
    ∷ refused "1." 3 0
    ∷ accepted "1 a" 36
    ∷ refused ".5" 3 0
    -- STRING: the escapes of 01; any other, a newline or the text's end inside: 3 at the quote
    ∷ accepted "\"\\\"\\\\\\/\\a\\b\\t\\n\\v\\f\\r\"" 41
    ∷ refused "\"a\\qb\"" 3 0
    ∷ refused "\"\\0\"" 3 0
    ∷ refused "\"a\\\n\"" 3 0
    ∷ refused "\"abc" 3 0
    ∷ refused "\"abc\n\"" 3 0
    ∷ refused "\"a\\" 3 0
    ∷ refused "\"a\\\"" 3 0
    -- ERE: to the next unescaped slash, in brackets too; none on its line: 3
    ∷ accepted "/a\\/b/" 39
    ∷ refused "/[/]/" 5 0
    ∷ accepted "/[\\/]/" 39
    ∷ refused "/a\n/" 3 0
    ∷ refused "/a\\\n/" 3 0
    ∷ refused "/a\\" 3 0
    ∷ accepted "/\\\\/" 37
    ∷ refused "/" 3 0
    -- words that 01 leaves out are 4; words of no list of 004 are user names
    ∷ refused "{delete}" 4 1
    ∷ refused "{getline}" 4 1
    ∷ refused "{sub}" 4 1
    ∷ refused "{sprintf}" 4 1
    ∷ refused "{FNR}" 4 1
    ∷ accepted "{func}" 18
    ∷ accepted "{nextfile}" 18
    ∷ accepted "{SRC}" 18
    ∷ accepted "{printfx}" 18
    -- operators: the longest of all of 004
    ∷ refused "a++" 4 1
    ∷ refused "a--b" 4 1
    ∷ accepted "a+ +b" 36
    ∷ accepted "a- -b" 36
    ∷ refused "x /= 2" 4 2
    ∷ refused "a^2" 4 1
    ∷ refused "a>>b" 4 1
    ∷ refused "a[1]" 4 1
    ∷ refused "a ? b : c" 4 2
    ∷ refused "a | b" 4 2
    ∷ refused "2**3" 4 2
    ∷ accepted "a !~ /b/" 36
    ∷ accepted "a!=b" 34
    ∷ accepted "a<=b" 34
    ∷ accepted "{a >= b}" 23
    -- a byte that begins no token: 3
    ∷ refused "&" 3 0
    ∷ refused "a & b" 3 2
    ∷ refused "@" 3 0
    ∷ refused "'" 3 0
    ∷ refused "`" 3 0
    ∷ refused "\\" 3 0
    ∷ refused "{ \\\n print }" 3 2
    ∷ refused "\u{7f}" 3 0
    ∷ refused "\u{80}" 3 0
    -- a `(` at once after a user name is 4; after other names it is a concatenation
    ∷ refused "x(1)" 4 1
    ∷ accepted "x (1)" 36
    ∷ accepted "NF(1)" 36
    ∷ accepted "FS(1)" 36
    ∷ accepted "1(2)" 38
    -- `/` starts an ERE where the grammar allows one, else it divides, or is misplaced as it is
    ∷ refused "{exit /[/}" 4 6
    ∷ accepted "a /b/ c" 39
    ∷ accepted "x / 2 / 3" 43
    ∷ accepted "1 / /a/" 43
    ∷ accepted "/a/ / 2" 43
    ∷ accepted "{print /a/}" 28
    ∷ accepted "/=/" 36
    ∷ accepted "(a)/b/c" 39
    ∷ refused "x ~ /a/ /b/" 4 8
    ∷ refused "{if(a)b;/[/}" 5 8
    ∷ []

-- "Operators from loosest", and "Primaries"
abbrev pub expression-rows : List Row
expression-rows =
    -- `=`: the left side exactly a name or a `$` form; NF, NR, RSTART, RLENGTH can't be assigned
    accepted "a = b = c" 35
    ∷ refused "a b = 1" 4 4
    ∷ refused "a && b = 1" 4 7
    ∷ refused "!a = 1" 4 3
    ∷ refused "-$1 = 2" 4 4
    ∷ refused "(a) = 1" 4 4
    ∷ accepted "$1 = 2" 38
    ∷ accepted "$$1 = 2" 40
    ∷ refused "NF = 1" 4 3
    ∷ refused "NR = 1" 4 3
    ∷ refused "RSTART = 1" 4 7
    ∷ refused "RLENGTH = 1" 4 8
    ∷ accepted "FS = 1" 34
    ∷ refused "1 = 2" 4 2
    -- `~ !~`: no chaining, the right side an ERE token
    ∷ accepted "a ~ /b/" 34
    ∷ refused "a ~ \"b\"" 4 4
    ∷ refused "a ~ (/b/)" 4 4
    ∷ refused "a ~ /b/ ~ /c/" 4 8
    ∷ accepted "a ~ /b/ && c" 50
    ∷ refused "a ~ /b/ c" 4 8
    ∷ refused "a ~ /b/ < c" 4 8
    ∷ accepted "a b ~ /c/" 39
    ∷ accepted "a < b ~ /c/" 39
    -- comparisons do not chain
    ∷ accepted "a < b" 34
    ∷ refused "a < b < c" 4 6
    ∷ refused "a == b != c" 4 7
    ∷ accepted "(a < b) < c" 39
    -- a concatenation's right operand never starts with `! + -` or an ERE
    ∷ accepted "a b c" 39
    ∷ refused "a !b" 4 2
    ∷ accepted "a -b" 34
    ∷ accepted "a (b)" 34
    ∷ accepted "a \"b\" $c" 44
    ∷ accepted "/a/ b" 41
    ∷ refused "a = /b/ /c/" 4 11
    -- prefixes bind tighter than `*`; `$` takes a primary or `$`
    ∷ accepted "-a * b" 36
    ∷ accepted "!a + b" 36
    ∷ accepted "- - -a" 35
    ∷ accepted "!-+a" 35
    ∷ refused "$-1" 4 1
    ∷ refused "$!a" 4 1
    ∷ accepted "$$a" 33
    ∷ accepted "$(a)" 31
    ∷ accepted "$NF-1" 38
    ∷ accepted "$length(a)" 33
    -- primaries: what `length`, `index`, `substr` and `match` take
    ∷ accepted "length(a)" 31
    ∷ refused "length" 4 6
    ∷ refused "length()" 4 7
    ∷ refused "length a" 4 7
    ∷ refused "length(a,b)" 4 8
    ∷ accepted "index(a,b)" 34
    ∷ refused "index(a)" 4 7
    ∷ accepted "substr(a,b,c)" 37
    ∷ refused "substr(a,b)" 4 10
    ∷ accepted "match(a,/b/)" 34
    ∷ refused "match(a,\"b\")" 4 8
    ∷ refused "match(a,b)" 4 8
    ∷ accepted "length (a)" 31
    ∷ refused "length\n(a)" 4 6
    ∷ refused "()" 4 1
    ∷ refused "a, b" 4 1
    -- newlines may follow `&& || ,` and no other operator
    ∷ accepted "a &&\n\nb" 45
    ∷ accepted "a ||\nb" 47
    ∷ refused "a\n&& b" 4 2
    ∷ refused "a +\nb" 4 3
    ∷ refused "a =\nb" 4 3
    ∷ accepted "index(a,\nb)" 34
    ∷ refused "index(\na,b)" 4 6
    ∷ refused "!\na" 4 1
    ∷ refused "a ~\n/b/" 4 3
    -- in a print list `>` must be inside parentheses
    ∷ refused "{print a > b}" 4 9
    ∷ accepted "{print (a > b)}" 24
    ∷ accepted "{print $(a > b)}" 26
    ∷ accepted "{print length(a > b)}" 26
    ∷ accepted "{print a, (b > c)}" 27
    ∷ refused "{print x = a > b}" 4 13
    ∷ accepted "{print a >= b}" 24
    ∷ refused "{print (a) > b}" 4 11
    ∷ refused "{print(a,b)}" 4 8
    ∷ accepted "a > b" 34
    ∷ []

-- "Items" and "Statements"
abbrev pub statement-rows : List Row
statement-rows =
    -- only newlines may open the text; no items is a program
    accepted "\n\n{}" 13
    ∷ accepted "\n" 13
    ∷ refused ";" 4 0
    ∷ refused "\n;{}" 4 1
    ∷ accepted "# c" 13
    -- items: BEGIN and END have their `{` on the same line; nothing need follow a `}`; a pattern alone ends at newline,
    -- `;` or the text's end
    ∷ accepted "BEGIN{}END{}{}" 13
    ∷ refused "BEGIN\n{}" 4 5
    ∷ refused "END\n{}" 4 3
    ∷ refused "BEGIN x" 4 6
    ∷ accepted "x\n{}" 29
    ∷ accepted "x{}y" 35
    ∷ accepted "x;y" 43
    ∷ accepted "x y{}" 24
    ∷ accepted "{}{}" 13
    ∷ accepted "{};;\n{}" 13
    ∷ refused "x BEGIN{}" 4 2
    ∷ refused "x,y{}" 4 1
    ∷ accepted "{a}b" 34
    -- newline or `;` ends a statement; the last before a `}` needs no end
    ∷ accepted "{a;b}" 23
    ∷ accepted "{a\nb}" 23
    ∷ accepted "{a b;}" 23
    ∷ accepted "{;;}" 13
    ∷ refused "{a{b}}" 4 2
    ∷ accepted "{{a}b}" 23
    ∷ refused "{print print}" 4 7
    ∷ accepted "{print a,\nb}" 22
    ∷ refused "{print a,}" 4 9
    ∷ refused "{print ,a}" 4 7
    ∷ accepted "{while(a);b}" 27
    -- `next` not in BEGIN or END; `exit` alone
    ∷ accepted "{next}" 15
    ∷ refused "BEGIN{next}" 4 6
    ∷ refused "END{if(1)next}" 4 9
    ∷ accepted "BEGIN{exit}" 15
    ∷ refused "{exit 1}" 4 6
    ∷ accepted "x{next;exit}" 23
    -- newlines may follow the `)` of `if` and `while`
    ∷ accepted "{if(a)\n\nb}" 24
    ∷ accepted "{while(a)\nb}" 27
    ∷ refused "{if\n(a)b}" 4 3
    ∷ refused "{if(a\n)b}" 4 5
    ∷ refused "{if a}" 4 4
    ∷ refused "{while}" 4 6
    -- before `else`: newlines and at most one `;`, the end of the then-part among them
    ∷ refused "{if(a)b else c}" 4 8
    ∷ accepted "{if(a)b;else c}" 32
    ∷ accepted "{if(a)b\nelse c}" 32
    ∷ refused "{if(a)b;;else c}" 4 9
    ∷ accepted "{if(a){b};else c}" 32
    ∷ accepted "{if(a){b}else\n\nc}" 32
    ∷ accepted "{if(a)b\n;\nelse c}" 32
    ∷ accepted "{if(a);;else c}" 27
    ∷ accepted "{if(a);else c}" 27
    ∷ refused "{if(a){};;else{}}" 4 10
    ∷ refused "{else}" 4 1
    ∷ refused "{if(a)b;c;else d}" 4 10
    -- `else` goes to the nearest open `if`
    ∷ accepted "{if(a)if(b)c;else d;else e}" 46
    ∷ accepted "{if(a)while(b)c;else d}" 41
    ∷ accepted "{if(a)if(b){}else{}else c}" 36
    ∷ refused "{while(a)b;else c}" 4 11
    ∷ []

-- "The image": translation and numbering
abbrev pub image-rows : List Row
image-rows =
    -- "{ print }", the seventh of the eight cases
    image "{ print }"
    (0x01 ∷ 0x00 ∷ 0x01 ∷ 0x00 ∷ 0x00 ∷ 0x00 ∷ 0x01 ∷ 0x00 ∷ 0x00 ∷ 0x04 ∷ 0x01 ∷ 0x00 ∷ 0x00 ∷ 0x04 ∷ 0x01 ∷ 0x1d ∷
    0x01 ∷ 0x01 ∷ 0x00 ∷ 0x00 ∷ 0x01 ∷ 0x00 ∷ 0x00 ∷ [])
    -- no items: each section ends in 0
    ∷ image "" (0x01 ∷ 0x00 ∷ 0x00 ∷ 0x00 ∷ 0x01 ∷ 0x00 ∷ 0x00 ∷ 0x01 ∷ 0x00 ∷ 0x00 ∷ 0x01 ∷ 0x00 ∷ 0x00 ∷ [])
    -- users from 7 by first appearance in the text; equal constants are shared, by kind and value
    ∷ image "{b = 07; a = \"7\"; b = 7}"
    (0x01 ∷ 0x02 ∷ 0x02 ∷ 0x00 ∷ 0x07 ∷ 0x01 ∷ 0x01 ∷ 0x37 ∷ 0x00 ∷ 0x01 ∷ 0x00 ∷ 0x00 ∷ 0x0a ∷ 0x01 ∷ 0x00 ∷ 0x00 ∷
    0x03 ∷ 0x01 ∷ 0x07 ∷ 0x06 ∷ 0x01 ∷ 0x01 ∷ 0x00 ∷ 0x01 ∷ 0x03 ∷ 0x01 ∷ 0x08 ∷ 0x06 ∷ 0x01 ∷ 0x01 ∷ 0x00 ∷ 0x00 ∷
    0x03 ∷ 0x01 ∷ 0x07 ∷ 0x06 ∷ 0x01 ∷ 0x00 ∷ 0x00 ∷ 0x01 ∷ 0x00 ∷ 0x00 ∷ [])
    -- constants and EREs by first use in the image: BEGIN, the records, END
    ∷ image "END{print 2}/b/{print 1}BEGIN{print 2 ~ /a/}"
    (0x01 ∷ 0x00 ∷ 0x03 ∷ 0x00 ∷ 0x02 ∷ 0x00 ∷ 0x00 ∷ 0x00 ∷ 0x01 ∷ 0x02 ∷ 0x01 ∷ 0x61 ∷ 0x01 ∷ 0x62 ∷ 0x04 ∷ 0x01 ∷
    0x00 ∷ 0x00 ∷ 0x16 ∷ 0x01 ∷ 0x00 ∷ 0x1d ∷ 0x01 ∷ 0x01 ∷ 0x00 ∷ 0x00 ∷ 0x07 ∷ 0x01 ∷ 0x00 ∷ 0x01 ∷ 0x04 ∷ 0x01 ∷
    0x16 ∷ 0x01 ∷ 0x01 ∷ 0x1c ∷ 0x01 ∷ 0x06 ∷ 0x01 ∷ 0x00 ∷ 0x02 ∷ 0x1d ∷ 0x01 ∷ 0x01 ∷ 0x00 ∷ 0x00 ∷ 0x03 ∷ 0x01 ∷
    0x00 ∷ 0x00 ∷ 0x1d ∷ 0x01 ∷ 0x01 ∷ 0x00 ∷ 0x00 ∷ [])
    -- a bare ERE is constant 0, field, matches; `!~` adds not
    ∷ image "/a/{print $1 !~ /b/}"
    (0x01 ∷ 0x00 ∷ 0x02 ∷ 0x00 ∷ 0x00 ∷ 0x00 ∷ 0x01 ∷ 0x02 ∷ 0x01 ∷ 0x61 ∷ 0x01 ∷ 0x62 ∷ 0x01 ∷ 0x00 ∷ 0x00 ∷ 0x0a ∷
    0x01 ∷ 0x00 ∷ 0x00 ∷ 0x04 ∷ 0x01 ∷ 0x16 ∷ 0x01 ∷ 0x00 ∷ 0x1c ∷ 0x01 ∷ 0x09 ∷ 0x01 ∷ 0x00 ∷ 0x01 ∷ 0x04 ∷ 0x01 ∷
    0x16 ∷ 0x01 ∷ 0x01 ∷ 0x0e ∷ 0x01 ∷ 0x1d ∷ 0x01 ∷ 0x01 ∷ 0x00 ∷ 0x00 ∷ 0x01 ∷ 0x00 ∷ 0x00 ∷ [])
    -- "a && b", "a || b"
    ∷ image "a && b || c"
    (0x01 ∷ 0x03 ∷ 0x02 ∷ 0x00 ∷ 0x00 ∷ 0x00 ∷ 0x01 ∷ 0x00 ∷ 0x01 ∷ 0x00 ∷ 0x00 ∷ 0x12 ∷ 0x02 ∷ 0x00 ∷ 0x07 ∷ 0x1c ∷
    0x01 ∷ 0x06 ∷ 0x02 ∷ 0x00 ∷ 0x08 ∷ 0x0e ∷ 0x01 ∷ 0x0e ∷ 0x01 ∷ 0x1b ∷ 0x01 ∷ 0x07 ∷ 0x01 ∷ 0x00 ∷ 0x00 ∷ 0x1c ∷
    0x01 ∷ 0x0a ∷ 0x01 ∷ 0x00 ∷ 0x01 ∷ 0x1b ∷ 0x01 ∷ 0x0d ∷ 0x02 ∷ 0x00 ∷ 0x09 ∷ 0x0e ∷ 0x01 ∷ 0x0e ∷ 0x01 ∷ 0x1c ∷
    0x01 ∷ 0x11 ∷ 0x01 ∷ 0x00 ∷ 0x00 ∷ 0x04 ∷ 0x01 ∷ 0x1d ∷ 0x01 ∷ 0x01 ∷ 0x00 ∷ 0x00 ∷ 0x01 ∷ 0x00 ∷ 0x00 ∷ [])
    -- "if", "while"; a pattern is followed by 28 past its action
    ∷ image "x{if(a)b;else while(c)d}"
    (0x01 ∷ 0x05 ∷ 0x00 ∷ 0x00 ∷ 0x01 ∷ 0x00 ∷ 0x00 ∷ 0x0d ∷ 0x02 ∷ 0x00 ∷ 0x07 ∷ 0x1c ∷ 0x01 ∷ 0x0c ∷ 0x02 ∷ 0x00 ∷
    0x08 ∷ 0x1c ∷ 0x01 ∷ 0x07 ∷ 0x02 ∷ 0x00 ∷ 0x09 ∷ 0x06 ∷ 0x01 ∷ 0x1b ∷ 0x00 ∷ 0x0c ∷ 0x02 ∷ 0x00 ∷ 0x0a ∷ 0x1c ∷
    0x01 ∷ 0x0c ∷ 0x02 ∷ 0x00 ∷ 0x0b ∷ 0x06 ∷ 0x01 ∷ 0x1b ∷ 0x00 ∷ 0x07 ∷ 0x00 ∷ 0x00 ∷ 0x01 ∷ 0x00 ∷ 0x00 ∷ [])
    -- `if` with an empty `else` still has its 27; after `next` the code goes on at depth 0
    ∷ image "{if(a)next;else;print}"
    (0x01 ∷ 0x01 ∷ 0x01 ∷ 0x00 ∷ 0x00 ∷ 0x00 ∷ 0x01 ∷ 0x00 ∷ 0x00 ∷ 0x08 ∷ 0x02 ∷ 0x00 ∷ 0x07 ∷ 0x1c ∷ 0x01 ∷ 0x04 ∷
    0x1e ∷ 0x00 ∷ 0x1b ∷ 0x00 ∷ 0x04 ∷ 0x01 ∷ 0x00 ∷ 0x00 ∷ 0x04 ∷ 0x01 ∷ 0x1d ∷ 0x01 ∷ 0x01 ∷ 0x00 ∷ 0x00 ∷ 0x01 ∷
    0x00 ∷ 0x00 ∷ [])
    -- operators associate to the left; no folding
    ∷ image "{print a - b - -5}"
    (0x01 ∷ 0x02 ∷ 0x01 ∷ 0x00 ∷ 0x05 ∷ 0x00 ∷ 0x01 ∷ 0x00 ∷ 0x00 ∷ 0x08 ∷ 0x02 ∷ 0x00 ∷ 0x07 ∷ 0x02 ∷ 0x01 ∷ 0x08 ∷
    0x08 ∷ 0x02 ∷ 0x01 ∷ 0x01 ∷ 0x00 ∷ 0x0c ∷ 0x02 ∷ 0x08 ∷ 0x02 ∷ 0x1d ∷ 0x01 ∷ 0x01 ∷ 0x00 ∷ 0x00 ∷ 0x01 ∷ 0x00 ∷
    0x00 ∷ [])
    -- concatenation, comparison; left operand first
    ∷ image "{print a b < c % d}"
    (0x01 ∷ 0x04 ∷ 0x00 ∷ 0x00 ∷ 0x01 ∷ 0x00 ∷ 0x00 ∷ 0x09 ∷ 0x02 ∷ 0x00 ∷ 0x07 ∷ 0x02 ∷ 0x01 ∷ 0x08 ∷ 0x15 ∷ 0x02 ∷
    0x02 ∷ 0x01 ∷ 0x09 ∷ 0x02 ∷ 0x02 ∷ 0x0a ∷ 0x0b ∷ 0x03 ∷ 0x0f ∷ 0x02 ∷ 0x1d ∷ 0x01 ∷ 0x01 ∷ 0x00 ∷ 0x00 ∷ 0x01 ∷
    0x00 ∷ 0x00 ∷ [])
    -- assignments leave their value; an expression statement ends in drop
    ∷ image "{x = $1 = \"a\"}"
    (0x01 ∷ 0x01 ∷ 0x02 ∷ 0x00 ∷ 0x01 ∷ 0x01 ∷ 0x01 ∷ 0x61 ∷ 0x00 ∷ 0x01 ∷ 0x00 ∷ 0x00 ∷ 0x06 ∷ 0x01 ∷ 0x00 ∷ 0x00 ∷
    0x01 ∷ 0x01 ∷ 0x01 ∷ 0x05 ∷ 0x02 ∷ 0x03 ∷ 0x01 ∷ 0x07 ∷ 0x06 ∷ 0x01 ∷ 0x00 ∷ 0x00 ∷ 0x01 ∷ 0x00 ∷ 0x00 ∷ [])
    -- functions
    ∷ image "{print length(a), index(a, b), substr(a, 1, 2), match(a, /b/)}"
    (0x01 ∷ 0x02 ∷ 0x02 ∷ 0x00 ∷ 0x01 ∷ 0x00 ∷ 0x02 ∷ 0x01 ∷ 0x01 ∷ 0x62 ∷ 0x01 ∷ 0x00 ∷ 0x00 ∷ 0x0d ∷ 0x02 ∷ 0x00 ∷
    0x07 ∷ 0x18 ∷ 0x01 ∷ 0x02 ∷ 0x01 ∷ 0x07 ∷ 0x02 ∷ 0x02 ∷ 0x08 ∷ 0x19 ∷ 0x03 ∷ 0x02 ∷ 0x02 ∷ 0x07 ∷ 0x01 ∷ 0x03 ∷
    0x00 ∷ 0x01 ∷ 0x04 ∷ 0x01 ∷ 0x1a ∷ 0x05 ∷ 0x02 ∷ 0x03 ∷ 0x07 ∷ 0x17 ∷ 0x04 ∷ 0x00 ∷ 0x1d ∷ 0x04 ∷ 0x04 ∷ 0x00 ∷
    0x00 ∷ 0x01 ∷ 0x00 ∷ 0x00 ∷ [])
    -- special variables 0 to 6
    ∷ image "{FS = NF NR OFS ORS RSTART RLENGTH}"
    (0x01 ∷ 0x00 ∷ 0x00 ∷ 0x00 ∷ 0x01 ∷ 0x00 ∷ 0x00 ∷ 0x0e ∷ 0x02 ∷ 0x00 ∷ 0x00 ∷ 0x02 ∷ 0x01 ∷ 0x01 ∷ 0x15 ∷ 0x02 ∷
    0x02 ∷ 0x01 ∷ 0x03 ∷ 0x15 ∷ 0x02 ∷ 0x02 ∷ 0x01 ∷ 0x04 ∷ 0x15 ∷ 0x02 ∷ 0x02 ∷ 0x01 ∷ 0x05 ∷ 0x15 ∷ 0x02 ∷ 0x02 ∷
    0x01 ∷ 0x06 ∷ 0x15 ∷ 0x02 ∷ 0x03 ∷ 0x01 ∷ 0x02 ∷ 0x06 ∷ 0x01 ∷ 0x00 ∷ 0x00 ∷ 0x01 ∷ 0x00 ∷ 0x00 ∷ [])
    -- a text constant is stored by value, an ERE as spelled
    ∷ image "{print \"\\n\\\"\", a ~ /\\/\\./}"
    (0x01 ∷ 0x01 ∷ 0x01 ∷ 0x01 ∷ 0x02 ∷ 0x0a ∷ 0x22 ∷ 0x01 ∷ 0x04 ∷ 0x5c ∷ 0x2f ∷ 0x5c ∷ 0x2e ∷ 0x01 ∷ 0x00 ∷ 0x00 ∷
    0x05 ∷ 0x01 ∷ 0x00 ∷ 0x00 ∷ 0x02 ∷ 0x01 ∷ 0x07 ∷ 0x16 ∷ 0x02 ∷ 0x00 ∷ 0x1d ∷ 0x02 ∷ 0x02 ∷ 0x00 ∷ 0x00 ∷ 0x01 ∷
    0x00 ∷ 0x00 ∷ [])
    -- 7, place the text length
    ∷ short "{ print }" 22
    ∷ short "" 0
    -- a room of just its length is enough
    ∷ record { text = []; room = 13; holds = answers 0 13 (1 ∷ 0 ∷ 0 ∷ 0 ∷ 1 ∷ 0 ∷ 0 ∷ 1 ∷ 0 ∷ 0 ∷ 1 ∷ 0 ∷ 0 ∷ []) }
    ∷ []

pub rows_agree : all agrees (outcome-rows ++ (token-rows ++ (expression-rows ++ (statement-rows ++ (image-rows))))) ≡ true
unfolding agrees answers copies one_of leading best_from best_of in_some accepts places lookup escape_of is_plain begins tail escaped_byte read_escape read_member joins with_range last_hyphen range_to after_byte read_items bracket_of read_bracket only_byte read_atom finished repeated after_atom after_group after_bar read_group read_rest whole read_ere value_after coded all-writing written rank among begins_with skipped number_token word_token with_byte with_escape read_string string_token operator_token token_of token_at token_after one_more ere_length ere_read ere_token as_operand spelling number_in value_of string_in ere_in same_bytes kind_in function_in starts_joined starts_expression starts_statement assign_to closed right_of more match_with matching argument arguments call calling primary field_form prefix_form assigned assignment step_tier tier inside operator_in tier_of tree_of prefix_of action_at after_pattern item_at items read_program past_in ended no_body listed print_at condition_at else_after if_at while_at statement_of followed statements block_of statement_at arithmetic_code comparison_code action_code flow_code opcode prefix_action size compile size_all compile_all size_print compile_print size_of compile_statement guarded part_of parts_of section_code names_in names_in_all names_in_statement names_in_pattern names_in_item names_in_program has with_new number_of users_among users_of same_constant operands_by tables_of numbers_of instructions image_by fits stored sized of_program translate_of
rows_agree = refl
