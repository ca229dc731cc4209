-- Internal: cited by private contracts only. What options ask for.      flowawk [-b N] [-s] 'FILTER' [FILE..]
-- flowawk [-b N] [-s] -f FILTERFILE [FILE..]     flowawk [-b N] [-s] -i IMAGE [FILE..]          flowawk -o IMAGE
-- 'FILTER' | -o IMAGE -f FILTERFILE     flowawk --check IMAGE | --content IMAGE        flowawk -h | -V
use Rattle.std.specs.Prelude.{cond, ℕ, eqb, get_or}
use Rattle.front_options.specs.Given.{given_count}
use Rattle.front_options.specs.declared.options.Options.{Options}
use Rattle.front_options.specs.declared.options.Stage.{Stage}
use Rattle.front_options.specs.declared.options.Stage.TheVariants.{Ready, Argument, Operands, Refused}
use Rattle.front_actions.specs.declared.actions.Action.{Action}
use Rattle.front_actions.specs.declared.actions.Action.TheVariants.{Usage, Help, Version, Check, Content, TranslateText, TranslateFile, RunText, RunFile, RunImage}

-- --check and --content stand alone
abbrev pub image_action : ℕ → ℕ → Action → Action
image_action count operand asked = cond (eqb count 1) (cond (eqb operand 0) asked Usage) Usage

-- -o is with -f and no operand, or with one operand, which is then the last word
abbrev pub write_action : ℕ → ℕ → ℕ → ℕ → Action
write_action count operand words filter =
    cond (eqb filter 0)
    (cond (eqb count 1) (cond (eqb operand 0) Usage (cond (eqb operand words) TranslateText Usage)) Usage)
    (cond (eqb count 2) (cond (eqb operand 0) TranslateFile Usage) Usage)

-- -i, or -f, or the first operand as a filter
abbrev pub run_action : ℕ → ℕ → ℕ → Action
run_action operand filter image =
    cond (eqb image 0) (cond (eqb filter 0) (cond (eqb operand 0) Usage RunText) RunFile)
    (cond (eqb filter 0) RunImage Usage)

-- those of so many words
unfoldable pub given_action : Options → ℕ → Action
given_action o words =
    cond (eqb (get_or o.given 2 0) 0)
    (cond (eqb (get_or o.given 3 0) 0)
    (cond (eqb (get_or o.given 8 0) 0)
    (cond (eqb (get_or o.given 9 0) 0)
    (cond (eqb (get_or o.given 7 0) 0) (run_action o.operand (get_or o.given 5 0) (get_or o.given 6 0))
    (write_action (given_count o.given) o.operand words (get_or o.given 5 0)))
    (image_action (given_count o.given) o.operand Content))
    (image_action (given_count o.given) o.operand Check))
    Version)
    Help

-- an argument that is missing and a word that is refused ask for nothing
unfoldable pub action_at : Stage → Action → Action
action_at (Argument option) asked = Usage
action_at Refused asked = Usage
action_at Ready asked = asked
action_at Operands asked = asked

abbrev pub action_of : Options → ℕ → Action
action_of o words = action_at o.stage (given_action o words)
