-- Internal: cited by private contracts only. Document 01, "Tokens and grammar": "Operators from loosest ..", computed:
-- a text's tokens are read from left to right. "Nesting": each level further in is a call of the reader of that level,
-- with the levels that are left. What a reader has to believe is the grammar (program_grammar), what its derivations
-- say (program_says) and the levels that they open (program_levels).
use Rattle.std.specs.Prelude.{Bool, true, false, cond, List, [], ◌∷◌, ℕ, zero, suc, length, eqb, leb}
use Rattle.std.proofs.Math.Option.{Option, some, none}
use Rattle.image_format.specs.Image.{number, text}
use Rattle.program_tokens.specs.Kinds.{NUMBER, STRING, ERE, fixed_variable, open_paren, close_paren, comma, tilde, dollar, assign as assign-sign, no_match as no-match-sign, same}
use Rattle.program_tokens.specs.Words.{word_kind}
use Rattle.program_tokens.specs.Tokens.{Token, is, is_one_of, token_after, spelling, number_in, string_in, ere_in}
use Rattle.program_tree.specs.Tree.{Expression, constant, ere, variable, parentheses, length-of, index, substr, match, field, prefix, arithmetic, join, compare, matches, no_match, both, either, assign, assign_field}
use Rattle.program_tree.specs.Functions.{Shape, an_expression, an_ere, Call, Function, function_of}
use Rattle.program_grammar.specs.Sets.{names, prefixes}
use Rattle.program_reader.specs.Read.{Read, ok, no, map, bind, refuse, too_deep, operand_after, past_newlines}
use Rattle.program_reader.specs.Operators.{fields, prefixed, concatenations, compared, matched, conjunctions, expressions, tier_of, tree_of, prefix_of}

-- a reader of the forms of a tier, one level further in: whether it is in a print list outside parentheses, the tier,
-- the token that opens the level, and the first token
abbrev pub Inner : Type 0
Inner = Bool → ℕ → Token → Token → Read Expression

-- the tree of an assignment to a tree: "left side exactly a name or a `$` form"; "NF, NR, RSTART, RLENGTH can't be
-- assigned"
unfoldable pub assign_to : ℕ → Expression → Option (Expression → Expression)
assign_to edition (variable n) = cond (same (word_kind edition n) fixed_variable) none (some (assign n))
assign_to edition (field i) = some (assign_field i)
assign_to edition (constant c) = none
assign_to edition (ere r) = none
assign_to edition (parentheses e) = none
assign_to edition (length-of e) = none
assign_to edition (index a b) = none
assign_to edition (substr a b c) = none
assign_to edition (match e r) = none
assign_to edition (prefix o e) = none
assign_to edition (arithmetic o a b) = none
assign_to edition (join a b) = none
assign_to edition (compare o a b) = none
assign_to edition (matches e r) = none
assign_to edition (no_match e r) = none
assign_to edition (both a b) = none
assign_to edition (either a b) = none
assign_to edition (assign n e) = none
assign_to edition (assign_field i e) = none

-- how many operators of a tier can follow: one that compares, "(no chaining)"; no text has more operators than bytes
abbrev pub turns : List ℕ → ℕ → ℕ
turns s tier = cond (eqb tier compared) 1 (length s)

module _ (edition : ℕ) (s : List ℕ) where
  -- what a `)` has to follow
  unfoldable pub closed : Read Expression → Read Expression
  closed (no outcome place) = no outcome place
  closed (ok e t) = cond (is close_paren t) (ok e (token_after edition s t)) (refuse t)

  -- ---- operators between two operands

  -- where the right operand starts: that of a concatenation at the token itself; "newlines may follow `{ && || ,`"
  unfoldable pub right_of : ℕ → Token → Token
  right_of tier t =
      cond (eqb tier concatenations) t
      (cond (leb conjunctions tier) (past_newlines edition s (token_after edition s t)) (operand_after edition s t))

  -- the operators of a tier that follow, with their right operands; at most n
  unfoldable pub more : Bool → ℕ → (Token → Read Expression) → ℕ → Read Expression → Read Expression
  more printed tier below zero r = r
  more printed tier below (suc n) (no outcome place) = no outcome place
  more printed tier below (suc n) (ok e t) =
      let r = more printed tier below n (map (tree_of t.kind e) (below (right_of tier t))) in
      cond (eqb (tier_of edition printed t.kind) tier) r (ok e t)

  -- "`~ !~` (no chaining; right side an ERE token)"
  unfoldable pub match_with : Expression → Token → Token → Read Expression
  match_with e t u =
      let tree = cond (is tilde t) (matches e (ere_in s u)) (no_match e (ere_in s u)) in
      cond (is ERE u) (ok tree (token_after edition s u)) (refuse u)

  unfoldable pub matching : Read Expression → Read Expression
  matching (no outcome place) = no outcome place
  matching (ok e t) =
      cond (is_one_of (tilde ∷ no-match-sign ∷ []) t) (match_with e t (operand_after edition s t)) (ok e t)

  module _ (inner : Inner) where
    -- ---- "Primaries"

    -- an argument at t, and what is read after it; u is the `(`
    unfoldable pub argument : Token → (x : Shape) (l : List Shape) → Call (x ∷ l) → Token
        → (Call l → Token → Read Expression) → Read Expression
    argument u an_expression l f t rest = bind (inner false expressions u t) (λ e v. rest (f e) v)
    argument u an_ere l f t rest = cond (is ERE t) (rest (f (ere_in s t)) (token_after edition s t)) (refuse t)

    -- the arguments that are left, after the token t: the `(`, or a `,`, which "newlines may follow"
    unfoldable pub arguments : Token → Bool → (l : List Shape) → Call l → Token → Read Expression
    arguments u first [] e t = ok e t
    arguments u first (x ∷ l) f t =
        let opening = argument u x l f (operand_after edition s t) (arguments u false l) in
        let following = argument u x l f (past_newlines edition s (token_after edition s t)) (arguments u false l) in
        cond first opening (cond (is comma t) following (refuse t))

    -- a call of a function, at its `(`
    unfoldable pub call : Function → Token → Read Expression
    call f u =
        let r = closed (arguments u true f.shapes f.tree u) in
        cond (is open_paren u) r (refuse u)

    unfoldable pub calling : Token → Option Function → Read Expression
    calling t none = refuse t
    calling t (some f) = call f (token_after edition s t)

    unfoldable pub primary : Token → Read Expression
    primary t =
        let group = map parentheses (closed (inner false expressions t (operand_after edition s t))) in
        let function = calling t (function_of edition t.kind) in
        cond (is NUMBER t) (ok (constant (number (number_in s t))) (token_after edition s t))
        (cond (is STRING t) (ok (constant (text (string_in s t))) (token_after edition s t))
        (cond (is ERE t) (ok (ere (ere_in s t)) (token_after edition s t))
        (cond (is_one_of names t) (ok (variable (spelling s t)) (token_after edition s t))
        (cond (is open_paren t) group function))))

    -- "`$` before a primary or another `$`"
    unfoldable pub field_form : Token → Read Expression
    field_form t =
        let r = map field (inner false fields t (operand_after edition s t)) in
        cond (is dollar t) r (primary t)

    -- "prefix `! + -`"
    unfoldable pub prefix_form : (Token → Read Expression) → Token → Read Expression
    prefix_form below t =
        let r = map (prefix (prefix_of t.kind)) (inner false prefixed t (operand_after edition s t)) in
        let b = below t in
        cond (is_one_of prefixes t) r b

    -- ---- "`=`"

    -- "`=` (right ..)"; "a right side's [level opens] with the `=`"
    unfoldable pub assigned : Bool → Expression → Token → Option (Expression → Expression) → Read Expression
    assigned printed e t none = ok e t
    assigned printed e t (some f) = map f (inner printed expressions t (operand_after edition s t))

    unfoldable pub assignment : Bool → Read Expression → Read Expression
    assignment printed (no outcome place) = no outcome place
    assignment printed (ok e t) = cond (is assign-sign t) (assigned printed e t (assign_to edition e)) (ok e t)

    -- ---- a form of a tier, from its first token on

    unfoldable pub step_tier : Bool → ℕ → (Token → Read Expression) → Token → Read Expression
    step_tier printed tier below t =
        let b = below t in
        let p = prefix_form below t in
        let m = matching b in
        let a = assignment printed b in
        let o = more printed tier below (turns s tier) b in
        cond (eqb tier prefixed) p (cond (eqb tier matched) m (cond (eqb tier expressions) a o))

    unfoldable pub tier : Bool → ℕ → Token → Read Expression
    tier printed zero t = field_form t
    tier printed (suc k) t = step_tier printed (suc k) (tier printed k) t

  -- one level further in, by the levels that are left: "opens level 17 (6)"
  unfoldable pub inside : ℕ → Inner
  inside zero printed k opener t = too_deep opener
  inside (suc levels) printed k opener t = tier (inside levels) printed k t

  -- an expression, by the levels that are left
  abbrev pub expression_at : ℕ → Bool → Token → Read Expression
  expression_at levels printed t = tier (inside levels) printed expressions t
