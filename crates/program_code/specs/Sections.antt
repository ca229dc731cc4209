-- Document 01, "The image": "Translation", of statements, items and sections.
use Rattle.std.specs.Prelude.{List, [], ◌∷◌, ◌++◌, ℕ, ◌+◌, length}
use Rattle.std.proofs.Math.Option.{Option, some, none}
use Rattle.image_format.specs.Codes.{field, drop, print as print-action, section_end, jump, jump-if-false, next as next-flow, exit as exit-flow, flow, action}
use Rattle.program_tree.specs.Tree.{Expression, Statement, expression, print, if, if-else, while, block, next, exit, empty, sequence, Item, begin, end, main, Program}
use Rattle.semantics.specs.Moves.{Section, begin as begin-section, main as main-section, end as end-section}
use Rattle.program_code.specs.Emitted.{nothing, the_instruction, the_count, Emitted, emit, act}
use Rattle.program_code.specs.Expressions.{size, numeral, compile}

-- ---- lists of expressions, each one deeper than the one before

unfoldable pub size_all : List Expression → ℕ
size_all [] = 0
size_all (e ∷ l) = size e + size_all l

unfoldable pub compile_all : List Expression → ℕ → ℕ → List Emitted
compile_all [] n d = []
compile_all (e ∷ l) n d = compile e n d ++ compile_all l (n + size e) (d + 1)

-- "Bare `print` prints `$0`."
unfoldable pub size_print : List Expression → ℕ
size_print [] = 3
size_print (e ∷ l) = size_all (e ∷ l) + 1

unfoldable pub compile_print : List Expression → ℕ → List Emitted
compile_print [] n = numeral 0 0 ++ (act field 1 ++ emit (action print-action) 1 (the_count 1))
compile_print (e ∷ l) n =
    compile_all (e ∷ l) n 0 ++ emit (action print-action) (length (e ∷ l)) (the_count (length (e ∷ l)))

-- ---- statements; the depth before and after one is 0

-- how many instructions a statement has

unfoldable pub size_of : Statement → ℕ
size_of (expression e) = size e + 1
size_of (print es) = size_print es
size_of (if c a) = size c + 1 + size_of a
size_of (if-else c a b) = size c + 1 + size_of a + 1 + size_of b
size_of (while c a) = size c + 1 + size_of a + 1
size_of (block b) = size_of b
size_of next = 1
size_of exit = 1
size_of empty = 0
size_of (sequence a b) = size_of a + size_of b

-- the code of a statement from instruction n on
unfoldable pub compile_statement : Statement → ℕ → List Emitted
-- "An expression statement ends in drop."
compile_statement (expression e) n = compile e n 0 ++ act drop 1
compile_statement (print es) n = compile_print es n
-- "`if`: c, 28 to the else part (or past); then-part; with `else`, 27 past it"
compile_statement (if c a) n =
    compile c n 0 ++ (emit (flow jump-if-false) 1 (the_instruction (n + size c + 1 + size_of a))
    ++ compile_statement a (n + size c + 1))
compile_statement (if-else c a b) n =
    compile c n 0 ++ (emit (flow jump-if-false) 1 (the_instruction (n + size c + 1 + size_of a + 1))
    ++ (compile_statement a (n + size c + 1)
    ++ (emit (flow jump) 0 (the_instruction (n + size c + 1 + size_of a + 1 + size_of b))
    ++ compile_statement b (n + size c + 1 + size_of a + 1))))
-- "`while`: T: c, 28 past, body, 27 T"
compile_statement (while c a) n =
    compile c n 0 ++ (emit (flow jump-if-false) 1 (the_instruction (n + size c + 1 + size_of a + 1))
    ++ (compile_statement a (n + size c + 1) ++ emit (flow jump) 0 (the_instruction n)))
compile_statement (block b) n = compile_statement b n
compile_statement next n = emit (flow next-flow) 0 nothing
compile_statement exit n = emit (flow exit-flow) 0 nothing
compile_statement empty n = []
compile_statement (sequence a b) n = compile_statement a n ++ compile_statement b (n + size_of a)

-- ---- "Items in text order; a pattern is followed by 28 past its action"

-- an action with its pattern: the code is that of an `if`
unfoldable pub guarded : Option Expression → Statement → Statement
guarded none a = a
guarded (some e) a = if e a

-- what an item puts into a section
unfoldable pub part_of : Section → Item → Statement
part_of begin-section (begin a) = a
part_of begin-section (end a) = empty
part_of begin-section (main e a) = empty
part_of main-section (begin a) = empty
part_of main-section (end a) = empty
part_of main-section (main e a) = guarded e a
part_of end-section (begin a) = empty
part_of end-section (end a) = a
part_of end-section (main e a) = empty

-- the items of a section, as one statement
unfoldable pub parts_of : Section → Program → Statement
parts_of s [] = empty
parts_of s (i ∷ l) = sequence (part_of s i) (parts_of s l)

-- "Each section ends in 0."
unfoldable pub section_code : Section → Program → List Emitted
section_code s p = compile_statement (parts_of s p) 0 ++ emit (flow section_end) 0 nothing
