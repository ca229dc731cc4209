-- Internal: cited by private contracts only. What follows from the words of a command line once its action is chosen.
use Rattle.std.specs.Prelude.{cond, List, [], ℕ, zero, suc, ◌+◌, eqb, ltb}
use Rattle.front_words.specs.Words.{word_in}
use Rattle.front_options.specs.Budgets.{MOST, budget_of}
use Rattle.front_actions.specs.declared.actions.Action.{Action}
use Rattle.front_actions.specs.declared.actions.Action.TheVariants.{Usage, Help, Version, Check, Content, TranslateText, TranslateFile, RunText, RunFile, RunImage}
use Rattle.std.proofs.Math.Option.{Option, some}

-- word k, counted from 1; 0 numbers none
unfoldable pub word_number : List (List ℕ) → ℕ → List ℕ
word_number words zero = []
word_number words (suc k) = word_in words k

-- "Budget: 10^9 steps unless `-b`": the number that word k spells
unfoldable pub budget_for : List (List ℕ) → ℕ → Option ℕ
budget_for words k = cond (eqb k 0) (some 1000000000) (budget_of (word_number words k))

-- the number after k, where it is a word of 64 bits
abbrev pub after : ℕ → ℕ
after k = cond (ltb k MOST) (k + 1) 0

-- where a filter is the first operand, the files come after it
unfoldable pub first_file : Action → ℕ → ℕ
first_file RunText operand = after operand
first_file Usage operand = operand
first_file Help operand = operand
first_file Version operand = operand
first_file Check operand = operand
first_file Content operand = operand
first_file TranslateText operand = operand
first_file TranslateFile operand = operand
first_file RunFile operand = operand
first_file RunImage operand = operand
