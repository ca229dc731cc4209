-- Internal: cited by private contracts only. The options that words give, read from left to right. "`--` ends
-- options"; `-` is an operand; the first operand ends them too.
use Rattle.std.specs.Prelude.{cond, List, [], ◌∷◌, ℕ, ◌+◌, eqb, ltb, get_or, set}
use Rattle.front_options.specs.Kinds.{kind_of}
use Rattle.front_options.specs.declared.options.Kind.{Kind}
use Rattle.front_options.specs.declared.options.Kind.TheVariants.{Known, Operand, Unknown}
use Rattle.front_options.specs.declared.options.Options.{Options}
use Rattle.front_options.specs.declared.options.Stage.{Stage}
use Rattle.front_options.specs.declared.options.Stage.TheVariants.{Ready, Argument, Operands, Refused}

abbrev pub WITH_ARGUMENT : ℕ
WITH_ARGUMENT = 4

abbrev pub options : Stage → ℕ → List ℕ → Options
options stage operand given = record { stage = stage; operand = operand; given = given }

abbrev pub started : Options
started = options Ready 0 (0 ∷ 0 ∷ 0 ∷ 0 ∷ 0 ∷ 0 ∷ 0 ∷ 0 ∷ 0 ∷ 0 ∷ [])

-- word k is that of an option
abbrev pub taken : Options → ℕ → ℕ → Options
taken o k option = options Ready o.operand (set o.given option k)

abbrev pub refused : Options → ℕ → Options
refused o k = options Refused k o.given

-- word k is an operand: the first one counts
abbrev pub with_operand : Options → ℕ → Options
with_operand o k = cond (eqb o.operand 0) (options Operands k o.given) o

-- word k is an option: given twice it is refused; else its word is its argument, which comes next, or it itself
abbrev pub with_option : Options → ℕ → ℕ → Options
with_option o k option =
    cond (eqb (get_or o.given option 0) 0)
    (cond (ltb option WITH_ARGUMENT) (taken o k option) (options (Argument option) o.operand o.given))
    (refused o k)

-- word k, of a kind, where an option may be
unfoldable pub option_in : Options → ℕ → Kind → Options
option_in o k Operand = with_operand o k
option_in o k Unknown = refused o k
option_in o k (Known option) = cond (eqb option 0) (options Operands o.operand o.given) (with_option o k option)

-- word k, by the stage
unfoldable pub step_at : Stage → Options → ℕ → List ℕ → Options
step_at (Argument option) o k word = taken o k option
step_at Ready o k word = option_in o k (kind_of word)
step_at Operands o k word = with_operand o k
step_at Refused o k word = o

-- word k
abbrev pub step_of : Options → ℕ → List ℕ → Options
step_of o k word = step_at o.stage o k word

-- the words after k others
unfoldable pub read_from : Options → ℕ → List (List ℕ) → Options
read_from o k [] = o
read_from o k (w ∷ ws) = read_from (step_of o (k + 1) w) (k + 1) ws

abbrev pub options_of : List (List ℕ) → Options
options_of words = read_from started 0 words
