-- Document 01, "Promises": "Demand 3 is one claim about whole runs", here from bytes. What the public checker, runner
-- and translator answer is `check_of`, `run_of` and `translate_of`, by their contracts; the definition's run, which has no
-- budget, is `after`.
use Rattle.std.specs.Prelude.{◌≡◌, true, ◌↔◌, ◌⊎◌, List, ◌++◌, ℕ, ◌≤◌, ◌<◌, length, take, drop}
use Rattle.std.proofs.Math.Option.{some, none}
use Rattle.lists.specs.Elements.{nth, Every}
use Rattle.edition.specs.Limits.{working_room}
use Rattle.edition.specs.Outcomes.{done, image_malformed, image_fails_check, budget_spent, number_out_of_range, bad_separator}
use Rattle.image_format.specs.Image.{Instruction, Image}
use Rattle.image_format.specs.Reading.{read_image, from_bytes}
use Rattle.image_format.specs.Writing.{bytes_of}
use Rattle.values.specs.Value.{Stop}
use Rattle.semantics.specs.Feed.{Feed}
use Rattle.semantics.specs.Moves.{Section, at, Config, starts_at, continues, finishes, stops_at, stuck, section_of}
use Rattle.semantics.specs.Run.{after, Comes}
use Rattle.semantics.specs.Checked.{Checked}
use Rattle.semantics.specs.Stuck.{Stuck}
use Rattle.image_check.specs.Verdict.{check_of}
use Rattle.runner.specs.Report.{Result, run_of}
use Rattle.program_tokens.specs.Tokens.{Token}
use Rattle.program_tree.specs.Tree.{Program}
use Rattle.program_reader.specs.Read.{ok}
use Rattle.program_reader.specs.Programs.{read_program}
use Rattle.program_numbering.specs.Numbering.{image_of}
use Rattle.translation.specs.Translation.{Translation, translate_of}

-- ---- "Checker: 8, then 9."

pub record Verdicts (bytes : List ℕ) : Type 0 where
  -- 0 exactly for bytes that read to an image for which the clauses of "The check" hold
  pub passes : (check_of bytes ≡ done) ↔ ((i : Image) × (read_image from_bytes bytes ≡ some i) × (Checked i))
  -- 8 exactly if they read to none
  pub malformed : (check_of bytes ≡ image_malformed) ↔ (read_image from_bytes bytes ≡ none)
  -- else 9
  pub fails : (check_of bytes ≡ done → ⊥) → (check_of bytes ≡ image_malformed → ⊥) → check_of bytes ≡ image_fails_check

-- ---- "The definition's result is stuck where .."

-- the definition's run of an image from a start on, after n moves
pub record Sound (i : Image) (start : Config) (n : ℕ) : Type 0 where
  -- it isn't stuck
  pub goes : after i n start ≡ stuck → ⊥
  -- and where it is nothing is missing: no operand, no instruction and nothing that a number names, every ERE reads and
  -- a rule fits
  pub complete : (c : Config) → after i n start ≡ continues c → Stuck i c → ⊥
  -- at an instruction it has as many operands as the depth that is written there
  pub depth : (c : Config) (s : Section) (m : ℕ) → after i n start ≡ continues c → c.control.location ≡ at s m
      → (j : Instruction) × (nth (section_of i s) m ≡ some j) × (length c.control.operands ≡ j.depth)

-- ---- "A run answers its outcome, steps, records begun and output bytes."

-- "Named stops: 11 to 18."
abbrev pub Named : ℕ → Type 0
Named outcome = (number_out_of_range ≤ outcome) × (outcome ≤ bad_separator)

-- how the definition's run ends with a budget, and at which configuration
module _ (i : Image) (budget : ℕ) (start : Config) where
  -- after as many steps as the budget, before another record is read, it has neither finished nor stopped: "Budget is
  -- tested before each instruction and each record read."
  abbrev pub Spends : Config → Type 0
  Spends c = (Comes i budget start (continues c)) × (c.control.steps ≡ budget)

  -- it has finished, with no such configuration before
  abbrev pub Finishes : Config → Type 0
  Finishes c = Comes i budget start (finishes c)

  -- it has stopped, alike
  abbrev pub Stops : Stop → Config → Type 0
  Stops x c = Comes i budget start (stops_at x c)

  -- one of these
  abbrev pub EndsAt : Config → Type 0
  EndsAt c = (Spends c) ⊎ ((Finishes c) ⊎ ((x : Stop) × (Stops x c)))

  -- what is answered, with the output room afterwards
  pub record Answered (room : List ℕ) (r : Result) : Type 0 where
    -- 10 exactly when after as many steps as the budget, before another record is read, the definition has neither
    -- finished nor stopped
    pub spent : (r.outcome ≡ budget_spent) ↔ ((c : Config) × (Spends c))
    -- otherwise the definition's finish
    pub finished : (r.outcome ≡ done) ↔ ((c : Config) × (Finishes c))
    -- or named stop
    pub stopped : (outcome : ℕ) → Named outcome
        → (r.outcome ≡ outcome) ↔ ((x : Stop) × (c : Config) × (Stops x c) × (x.outcome ≡ outcome))
    pub nothing_else : (r.outcome ≡ budget_spent) ⊎ ((r.outcome ≡ done) ⊎ (Named r.outcome))
    -- steps, records and output bytes are the definition's at that point
    pub steps : (c : Config) → EndsAt c → r.steps ≡ c.control.steps
    pub records : (c : Config) → EndsAt c → r.records ≡ c.world.feed.count
    pub bytes : (c : Config) → EndsAt c → r.bytes ≡ length c.world.output.bytes
    -- "Output beyond the reported bytes is untouched."
    pub output : (c : Config) → EndsAt c → r.room ≡ c.world.output.bytes ++ drop r.bytes room

-- from bytes: the image that they read to, its run by the definition, and what the runner answers
pub record WholeRun (bytes : List ℕ) (feed : Feed) (room : List ℕ) (size budget : ℕ) : Type 0 where
  pub image : Image
  pub reads : read_image from_bytes bytes ≡ some image
  pub sound : (n : ℕ) → Sound image (starts_at image feed (length room)) n
  pub answer : Result
  pub answers : (run_of bytes feed room size budget).told ≡ some answer
  pub answered : Answered image budget (starts_at image feed (length room)) room answer

-- ---- "On 0 the place is the image's length, the room beyond untouched."

pub record Writes (text room : List ℕ) (x : Translation) : Type 0 where
  pub program : Program
  pub last : Token
  pub reads : read_program 1 text ≡ ok program last
  -- the bytes are the coding of the definition's image
  pub place : x.place ≡ length (bytes_of (image_of 1 program))
  pub bytes : take x.place x.room ≡ bytes_of (image_of 1 program)
  pub beyond : drop x.place x.room ≡ drop x.place room
  -- so that reading them gives that image again
  pub image : read_image from_bytes (take x.place x.room) ≡ some (image_of 1 program)
  -- and they pass
  pub passes : check_of (take x.place x.room) ≡ done

-- ---- the whole

pub record Demand3 : Type 0 where
  -- what the public checker answers for any bytes
  pub checker : (bytes : List ℕ) → Verdicts bytes
  -- for any bytes that it passes, any lines (`one_feed lines`, or what is left of them), output room, budget and at
  -- least 49,152 bytes of working room: the definition is never stuck, and the runner answers what it comes to
  pub runner : (bytes : List ℕ) → check_of bytes ≡ done → (feed : Feed) (room : List ℕ) (size budget : ℕ)
      → working_room ≤ size → WholeRun bytes feed room size budget
  -- every image that the translator writes, of any text of bytes, passes
  pub translator : (text room : List ℕ) → Every (λ b. b < 256) text → (translate_of 1 text room).outcome ≡ done
      → Writes text room (translate_of 1 text room)
