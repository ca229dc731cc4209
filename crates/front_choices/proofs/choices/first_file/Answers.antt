-- `first_file`, by the action.
use borrow.Author.Rules.{rules}
use mathlib.Core.Path.{◌≡◌, refl}
use Rattle.std.specs.Prelude.{◌≢◌}
use Prim.Native.Nat.{ℕ}
use Rattle.front_actions.specs.declared.actions.Action.{Action}
use Rattle.front_actions.specs.declared.actions.Action.TheVariants.{Usage, Help, Version, Check, Content, TranslateText, TranslateFile, RunText, RunFile, RunImage}
use Rattle.front_choices.specs.Choices.{first_file}
use Rattle.front_choices.proofs.choices.first_file.Goals as goal

-- the match has come to the arm of the actions that take no filter from a word
elsewhere : (a : Action) (k : ℕ) → a ≢ RunText → k ≡ first_file a k
unfolding first_file
elsewhere RunText k h = absurd (h refl)
elsewhere Usage k h = refl
elsewhere Help k h = refl
elsewhere Version k h = refl
elsewhere Check k h = refl
elsewhere Content k h = refl
elsewhere TranslateText k h = refl
elsewhere TranslateFile k h = refl
elsewhere RunFile k h = refl
elsewhere RunImage k h = refl

pub returns-in-RunText : goal.returns-in-RunText
unfolding first_file
returns-in-RunText c = search (rules, c.in-RunText.is)

pub returns-in_default : goal.returns-in_default
returns-in_default c = elsewhere c.args.a _ c.in_default.not-RunText
