-- Document 01, "Tokens and grammar": the sets of kinds that the rules of the grammar name.
use Rattle.std.specs.Prelude.{Bool, true, false, ◌&&◌, ◌||◌, List, [], ◌∷◌, ℕ}
use Rattle.std.proofs.Math.Option.{Option, some, none}
use Rattle.program_tokens.specs.Kinds.{Kind, newline, NUMBER, STRING, ERE, user_name, variable, fixed_variable, IF, WHILE, PRINT, NEXT, EXIT, open_brace, open_paren, semicolon, plus, minus, bang, greater, less, dollar, equal, at-most, at-least, different, same, among}
use Rattle.program_tree.specs.Functions.{Function, function_of}

-- names that 01 has
abbrev pub names : List Kind
names = user_name ∷ variable ∷ fixed_variable ∷ []

-- "NF, NR, RSTART, RLENGTH can't be assigned."
abbrev pub targets : List Kind
targets = user_name ∷ variable ∷ []

-- "prefix `! + -`"
abbrev pub prefixes : List Kind
prefixes = bang ∷ plus ∷ minus ∷ []

-- "`< <= == != > >=`"
abbrev pub comparisons : List Kind
comparisons = less ∷ at-most ∷ equal ∷ different ∷ greater ∷ at-least ∷ []

-- "Newline or `;` ends a statement"
abbrev pub enders : List Kind
enders = newline ∷ semicolon ∷ []

abbrev pub is_function : Option Function → Bool
is_function none = false
is_function (some f) = true

-- what a concatenation's right operand begins with: "never .. with `! + -` or an ERE"
unfoldable pub starts_joined : ℕ → Kind → Bool
starts_joined edition k = among (NUMBER ∷ STRING ∷ open_paren ∷ dollar ∷ names) k || is_function (function_of edition k)

-- what an expression begins with
unfoldable pub starts_expression : ℕ → Kind → Bool
starts_expression edition k = starts_joined edition k || among (ERE ∷ prefixes) k

-- what a statement begins with: "Statements: .."; `next` "(not in BEGIN or END)"
unfoldable pub starts_statement : ℕ → Bool → Kind → Bool
starts_statement edition in_main k =
    starts_expression edition k
    || (among (semicolon ∷ open_brace ∷ IF ∷ WHILE ∷ PRINT ∷ EXIT ∷ []) k || (in_main && same k NEXT))
