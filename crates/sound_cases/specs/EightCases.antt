-- Document 01, "Eight cases": the table, row by row, and what each row claims. Texts are quoted, bytes of an image
-- are numbers.
use Rattle.std.specs.Prelude.{◌≡◌, true, List, [], ◌∷◌, ◌++◌, map, ℕ, ◌≤◌, ℤ, pos, length, drop}
use Rattle.std.proofs.Math.Option.{Option, some, none}
use Prim.Native.String.{String}
use Rattle.edition.specs.Outcomes.{done, budget_spent, number_out_of_range}
use Rattle.ere_grammar.specs.Read.{read_ere}
use Rattle.splitting.specs.Splitting.{Split, fields, long_record, bad-separator, many_fields, split_of}
use Rattle.splitting.specs.Splitting.{text_of as span_text}
use Rattle.splitting.specs.Field.{Span}
use Rattle.image_format.specs.Codes.{add, remainder}
use Rattle.image_format.specs.Image.{Image}
use Rattle.image_format.specs.Reading.{from_bytes, read_image}
use Rattle.image_format.specs.Writing.{bytes_of}
use Rattle.values.specs.Value.{Value, number, text, stop, Result, gives, stops}
use Rattle.values.specs.Operations.{arithmetic_of}
use Rattle.semantics.specs.Feed.{one_feed}
use Rattle.semantics.specs.Variables.{RSTART, RLENGTH}
use Rattle.semantics.specs.World.{start_of, value_at}
use Rattle.semantics.specs.Operations.{Effect, by_ere, match_marked}
use Rattle.semantics.specs.Check.{check}
use Rattle.semantics.specs.Run.{Answer, answer_of, run}
use Rattle.translation.specs.Translation.{translate_of}
use Rattle.sound_cases.specs.Text.{bytes, minus}
use Rattle.sound_cases.specs.Assembler.{constant, field, print, whole, image}

-- ---- what the rows speak of

-- the texts of a record's fields, if it is split
abbrev pub field_texts : List ℕ → Split → Option (List (List ℕ))
field_texts line (fields fs) = some (map (λ (f : Span). span_text line f) fs)
field_texts line long_record = none
field_texts line bad-separator = none
field_texts line many_fields = none

-- what RSTART and RLENGTH are after `match`
pub record Marks : Type 0 where
  pub start : Option Value
  pub size : Option Value

abbrev pub marks_after : Option (Result Effect) → Option Marks
marks_after none = none
marks_after (some (stops s)) = none
marks_after (some (gives e)) = some (record { start = value_at 1 e.world RSTART; size = value_at 1 e.world RLENGTH })

abbrev pub marks_of : List ℕ → List ℕ → Option Marks
marks_of ere line =
    let start = start_of (image 0 [] [] [] [] []) (one_feed []) 0 in
    marks_after (by_ere match_marked (read_ere 1 ere) (text line) start)

-- a run of an image that reads, in a room of 100 bytes
abbrev pub ran_of : Option Image → List ℕ → ℕ → Option Answer
ran_of none input budget = none
ran_of (some i) input budget = answer_of (run i budget (one_feed input) 100)

-- ---- the rows

pub data Case : Type 0 where
  -- FS, record; its fields
  splits : String → String → List String → Case
  -- ERE, text; RSTART and RLENGTH
  matches : String → String → ℕ → ℕ → Case
  -- left, right; the remainder
  remains : ℤ → ℤ → ℤ → Case
  -- text, number; the sum
  adds : String → ℕ → Result Value → Case
  -- filter; its image's bytes, and the image
  translates : String → List ℕ → Image → Case
  -- the image's bytes, input, budget; outcome, steps, records, output
  runs : List ℕ → String → ℕ → ℕ → ℕ → ℕ → String → Case
  -- two cases of one row
  both : Case → Case → Case

-- The filter is translated to these bytes, in any room that has as many: "On 0 the place is the image's length, the
-- room beyond untouched." They are those of the image, read and written, and the image passes the check.
abbrev pub Translates : String → List ℕ → Image → Type 0
Translates filter hex i =
    ((room : List ℕ) → length hex ≤ length room
    → translate_of 1 (bytes filter) room
    ≡ record { outcome = done; place = length hex; room = hex ++ drop (length hex) room })
    × (read_image from_bytes hex ≡ some i)
    × (bytes_of i ≡ hex)
    × (check i ≡ true)

abbrev pub Claim : Case → Type 0
Claim (splits fs line texts) = field_texts (bytes line) (split_of 1 (bytes fs) (bytes line)) ≡ some (map bytes texts)
Claim (matches ere line start size) =
    marks_of (bytes ere) (bytes line)
    ≡ some (record { start = some (number (pos start)); size = some (number (pos size)) })
Claim (remains x y r) = arithmetic_of remainder (number x) (number y) ≡ gives (number r)
Claim (adds t n r) = arithmetic_of add (text (bytes t)) (number (pos n)) ≡ r
Claim (translates filter hex i) = Translates filter hex i
Claim (runs hex input budget outcome steps records output) =
    ran_of (read_image from_bytes hex) (bytes input) budget
    ≡ some (record { outcome = outcome; steps = steps; records = records; output = bytes output })
Claim (both c d) = (Claim c) × (Claim d)

-- "`{ print }`"
abbrev pub print_filter : String
print_filter = "{ print }"

-- "01 00 01 00 00 00 01 00 00 04 01 00 00 04 01 1D 01 01 00 00 01 00 00"
abbrev pub print_image : List ℕ
print_image =
    0x01 ∷ 0x00 ∷ 0x01 ∷ 0x00 ∷ 0x00 ∷ 0x00 ∷ 0x01 ∷ 0x00 ∷ 0x00 ∷ 0x04 ∷ 0x01 ∷ 0x00
    ∷ 0x00 ∷ 0x04 ∷ 0x01 ∷ 0x1D ∷ 0x01 ∷ 0x01 ∷ 0x00 ∷ 0x00 ∷ 0x01 ∷ 0x00 ∷ 0x00 ∷ []

-- the table: input, and result
abbrev pub eight_cases : List Case
eight_cases =
    splits " " "  a \tb " ("a" ∷ "b" ∷ [])
    ∷ splits "," ",a," ("" ∷ "a" ∷ "" ∷ [])
    ∷ splits ", *" "a,  b,c" ("a" ∷ "b" ∷ "c" ∷ [])
    ∷ matches "ab|abc" "xabcd" 2 3
    ∷ both (remains (minus 7) (pos 3) (minus 1)) (remains (pos 7) (minus 3) (pos 1))
    ∷ both
    (adds "9007199254740992" 0 (gives (number (pos 9007199254740992))))
    (adds "9007199254740992" 1 (stops (stop number_out_of_range)))
    ∷ translates print_filter print_image
    (image 0 (whole 0 ∷ []) [] [] (constant 0 ∷ field ∷ print 1 ∷ []) [])
    ∷ both
    (runs print_image "a\nb\n" 10 done 10 2 "a\nb\n")
    (runs print_image "a\nb\n" 9 budget_spent 9 2 "a\nb\n")
    ∷ []
