-- Document 01, "The image": "Translation, operands left to right", of expressions.
use Rattle.std.specs.Prelude.{List, ◌++◌, ℕ, ◌+◌}
use Rattle.image_format.specs.Codes.{Action, constant, get, set, field, set-field, arithmetic, negate, to_number, negation, compare, join, matches, match, length-of, index, substr, jump, jump-if-false, flow, action}
use Rattle.image_format.specs.Image.{number}
use Rattle.program_tree.specs.Tree.{length-of as length-call, compare as compare-of, Prefix, negation as not_sign, to_number as plus_sign, negate as minus_sign, Expression, constant as constant_of, ere, variable, parentheses, index as index-call, substr as substr-call, match as match-call, field as field_of, prefix, arithmetic as arithmetic-of, join as join-of, matches as matches-ere, no_match, both, either, assign, assign_field}
use Rattle.program_code.specs.Emitted.{the_constant, the_variable, the_ere, the_instruction, Emitted, emit, act}

-- "prefix `! + -`": 14, 13, 12
unfoldable pub prefix_action : Prefix → Action
prefix_action not_sign = negation
prefix_action plus_sign = to_number
prefix_action minus_sign = negate

-- how many instructions an expression has
unfoldable pub size : Expression → ℕ
size (constant_of c) = 1
size (ere r) = 3
size (variable v) = 1
size (parentheses e) = size e
size (length-call e) = size e + 1
size (index-call a b) = size a + size b + 1
size (substr-call a b c) = size a + size b + size c + 1
size (match-call e r) = size e + 1
size (field_of e) = size e + 1
size (prefix o e) = size e + 1
size (arithmetic-of o a b) = size a + size b + 1
size (join-of a b) = size a + size b + 1
size (compare-of o a b) = size a + size b + 1
size (matches-ere e r) = size e + 1
size (no_match e r) = size e + 2
size (both a b) = size a + size b + 5
size (either a b) = size a + size b + 5
size (assign v e) = size e + 1
size (assign_field i e) = size i + size e + 1

-- "constant 0 (the number, here and below)"
abbrev pub numeral : ℕ → ℕ → List Emitted
numeral v d = emit (action constant) d (the_constant (number v))

-- "not, not"
abbrev pub double_not : ℕ → List Emitted
double_not d = act negation d ++ act negation d

-- the code of an expression from instruction n on, at the depth d; it leaves its value, so the depth after it is d + 1
unfoldable pub compile : Expression → ℕ → ℕ → List Emitted
compile (constant_of c) n d = emit (action constant) d (the_constant c)
-- "bare ERE is constant 0 .., field, matches"
compile (ere r) n d = numeral 0 d ++ (act field (d + 1) ++ emit (action matches) (d + 1) (the_ere r))
compile (variable v) n d = emit (action get) d (the_variable v)
compile (parentheses e) n d = compile e n d
compile (length-call e) n d = compile e n d ++ act length-of (d + 1)
compile (index-call a b) n d = compile a n d ++ (compile b (n + size a) (d + 1) ++ act index (d + 2))
compile (substr-call a b c) n d =
    compile a n d ++ (compile b (n + size a) (d + 1) ++ (compile c (n + size a + size b) (d + 2) ++ act substr (d + 3)))
compile (match-call e r) n d = compile e n d ++ emit (action match) (d + 1) (the_ere r)
compile (field_of e) n d = compile e n d ++ act field (d + 1)
compile (prefix o e) n d = compile e n d ++ act (prefix_action o) (d + 1)
compile (arithmetic-of o a b) n d = compile a n d ++ (compile b (n + size a) (d + 1) ++ act (arithmetic o) (d + 2))
compile (join-of a b) n d = compile a n d ++ (compile b (n + size a) (d + 1) ++ act join (d + 2))
compile (compare-of o a b) n d = compile a n d ++ (compile b (n + size a) (d + 1) ++ act (compare o) (d + 2))
compile (matches-ere e r) n d = compile e n d ++ emit (action matches) (d + 1) (the_ere r)
-- "`!~` adds not"
compile (no_match e r) n d = compile e n d ++ (emit (action matches) (d + 1) (the_ere r) ++ act negation (d + 1))
-- "`a && b`: a, 28 L, b, not, not, 27 E, L: constant 0, E"
compile (both a b) n d =
    compile a n d ++ (emit (flow jump-if-false) (d + 1) (the_instruction (n + size a + 1 + size b + 3))
    ++ (compile b (n + size a + 1) d
    ++ (double_not (d + 1)
    ++ (emit (flow jump) (d + 1) (the_instruction (n + size a + 1 + size b + 4)) ++ numeral 0 d))))
-- "`a || b`: a, 28 L, constant 1, 27 E, L: b, not, not, E"
compile (either a b) n d =
    compile a n d ++ (emit (flow jump-if-false) (d + 1) (the_instruction (n + size a + 3))
    ++ (numeral 1 d
    ++ (emit (flow jump) (d + 1) (the_instruction (n + size a + 3 + size b + 2))
    ++ (compile b (n + size a + 3) d ++ double_not (d + 1)))))
compile (assign v e) n d = compile e n d ++ emit (action set) (d + 1) (the_variable v)
-- "set field, index below value"
compile (assign_field i e) n d = compile i n d ++ (compile e (n + size i) (d + 1) ++ act set-field (d + 2))
