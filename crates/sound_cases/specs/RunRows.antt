-- Document 01, "Running", and those sentences of "Values", "Splitting" and "Outcomes" that show in runs: a table of
-- runs, to be read beside them. The rows that follow a
-- sentence break where it is read in another way.
use Rattle.std.specs.Prelude.{◌≡◌, Bool, true, false, List, [], ◌∷◌, ℕ, replicate}
use Rattle.std.proofs.Math.Option.{Option, some, none}
use Prim.Native.String.{String}
use Rattle.image_format.specs.Image.{Image}
use Rattle.semantics.specs.Feed.{feed}
use Rattle.semantics.specs.Check.{check}
use Rattle.semantics.specs.Run.{Answer, answer_of, run}
use Rattle.sound_cases.specs.Text.{bytes}
use Rattle.sound_cases.specs.Assembler.{whole, quoted, image}
use Rattle.sound_cases.specs.Assembler.{constant, get, set, field, set-field, drop, plus, minus, times, divide}
use Rattle.sound_cases.specs.Assembler.{remainder, negate, to_number, not}
use Rattle.sound_cases.specs.Assembler.{less, at-most, equal, different, greater, at-least, join, matches, match}
use Rattle.sound_cases.specs.Assembler.{length, index, substr}
use Rattle.sound_cases.specs.Assembler.{jump, jump-if-false, print, next, exit, NF, NR, FS, OFS, ORS, RSTART, RLENGTH}

-- ---- rows

pub record Row : Type 0 where
  -- the filter whose image this is, or what no filter has
  pub filter : String
  pub image : Image
  -- whether the image passes the check
  pub checks : Bool
  pub budget : ℕ
  pub room : ℕ
  -- how many records are begun before
  pub begun : ℕ
  pub input : List ℕ
  -- what the run answers; none where it is stuck
  pub answer : Option Answer

-- outcome, steps, records begun, output
abbrev pub ends : ℕ → ℕ → ℕ → String → Option Answer
ends outcome steps records output =
    some (record { outcome = outcome; steps = steps; records = records; output = bytes output })

abbrev pub stuck : Option Answer
stuck = none

-- whether it checks, budget, output room, records begun, filter, image, input, answer
abbrev pub row : Bool → ℕ → ℕ → ℕ → String → Image → List ℕ → Option Answer → Row
row checks budget room begun filter i input answer =
    record {
      filter = filter;
      image = i;
      checks = checks;
      budget = budget;
      room = room;
      begun = begun;
      input = input;
      answer = answer;
    }

-- budget, output room, filter, image, input, answer
abbrev pub runs_in : ℕ → ℕ → String → Image → List ℕ → Option Answer → Row
runs_in budget room = row true budget room 0

-- a budget of 100 steps and a room of 100 bytes
abbrev pub runs : String → Image → List ℕ → Option Answer → Row
runs = runs_in 100 100

-- after that number of records
abbrev pub runs_from : ℕ → String → Image → List ℕ → Option Answer → Row
runs_from = row true 100 100

-- an image that fails the check
abbrev pub unchecked : String → Image → List ℕ → Option Answer → Row
unchecked = row false 100 100 0

-- whether the image passes the check, and the answer
abbrev pub seen : Row → Bool × (Option Answer)
seen r = (check r.image, answer_of (run r.image r.budget (feed r.input r.begun) r.room))

abbrev pub Claim : Row → Type 0
Claim r = seen r ≡ (r.checks, r.answer)

-- n bytes, all the same
abbrev pub repeated : ℕ → ℕ → List ℕ
repeated n b = replicate n b

-- an image without its BEGIN section
abbrev pub without_begin : Image → Image
without_begin i =
    record {
      edition = i.edition;
      users = i.users;
      constants = i.constants;
      eres = i.eres;
      begin = [];
      main = i.main;
      end = i.end;
    }

-- "`$0` always, and split fields, are field text": 10 is above 9, where the text 10 would be before 9
abbrev pub record_kinds : List Row
record_kinds =
    runs "{ print $0 < 9, $1 < 9 }"
    (image 0 (whole 0 ∷ whole 9 ∷ whole 1 ∷ []) [] []
    (constant 0 ∷ field ∷ constant 1 ∷ less ∷ constant 2 ∷ field ∷ constant 1 ∷ less ∷ print 2 ∷ [])
    [])
    (bytes "10\n") (ends 0 12 1 "0 0\n")
    ∷ runs "{ $0 = \"10\"; print $0 < 9, $1 < 9 }"
    (image 0 (whole 0 ∷ quoted "10" ∷ whole 9 ∷ whole 1 ∷ []) [] []
    (constant 0 ∷ constant 1 ∷ set-field ∷ drop ∷ constant 0 ∷ field ∷ constant 2 ∷ less ∷ constant 3 ∷ field
    ∷ constant 2 ∷ less ∷ print 2 ∷ [])
    [])
    (bytes "5\n") (ends 0 16 1 "0 0\n")
    ∷ runs "{ x = $1; print x < 9 }"
    (image 1 (whole 1 ∷ whole 9 ∷ []) [] []
    (constant 0 ∷ field ∷ set 7 ∷ drop ∷ get 7 ∷ constant 1 ∷ less ∷ print 1 ∷ [])
    [])
    (bytes "10\n") (ends 0 11 1 "0\n")
    ∷ runs "BEGIN { FS = \",\" } { print $2 == 0 }"
    (image 0 (quoted "," ∷ whole 2 ∷ whole 0 ∷ []) []
    (constant 0 ∷ set FS ∷ drop ∷ [])
    (constant 1 ∷ field ∷ constant 2 ∷ equal ∷ print 1 ∷ [])
    [])
    (bytes "a,,b\n") (ends 0 11 1 "0\n")
    ∷ []

-- "an assigned field keeps its value's kind": the text 10 is before 9, the record is field text
abbrev pub assigned_kinds : List Row
assigned_kinds =
    runs "{ print ($1 = \"10\") < 9; print $1 < 9, $0 < 9 }"
    (image 0 (whole 1 ∷ quoted "10" ∷ whole 9 ∷ whole 0 ∷ []) [] []
    (constant 0 ∷ constant 1 ∷ set-field ∷ constant 2 ∷ less ∷ print 1 ∷ constant 0 ∷ field ∷ constant 2 ∷ less
    ∷ constant 3 ∷ field ∷ constant 2 ∷ less ∷ print 2 ∷ [])
    [])
    (bytes "5\n") (ends 0 18 1 "1\n1 0\n")
    ∷ []

-- "Fields above NF, and gaps filled by growth, are unset."
abbrev pub unset_fields : List Row
unset_fields =
    runs "{ print $3 == 0, $3 == \"\", NF }"
    (image 0 (whole 3 ∷ whole 0 ∷ quoted "" ∷ []) [] []
    (constant 0 ∷ field ∷ constant 1 ∷ equal ∷ constant 0 ∷ field ∷ constant 2 ∷ equal ∷ get NF ∷ print 3 ∷ [])
    [])
    (bytes "a\n") (ends 0 13 1 "1 1 1\n")
    ∷ runs "{ $3 = 1; print $2 == 0, $2 == \"\", NF }"
    (image 0 (whole 3 ∷ whole 1 ∷ whole 2 ∷ whole 0 ∷ quoted "" ∷ []) [] []
    (constant 0 ∷ constant 1 ∷ set-field ∷ drop ∷ constant 2 ∷ field ∷ constant 3 ∷ equal ∷ constant 2 ∷ field
    ∷ constant 4 ∷ equal ∷ get NF ∷ print 3 ∷ [])
    [])
    (bytes "a\n") (ends 0 17 1 "1 1 3\n")
    ∷ []

-- field numbers: 11, 12, then 16
abbrev pub field_numbers : List Row
field_numbers =
    runs "{ print $128 == 0; print $129 }"
    (image 0 (whole 128 ∷ whole 0 ∷ whole 129 ∷ []) [] []
    (constant 0 ∷ field ∷ constant 1 ∷ equal ∷ print 1 ∷ constant 2 ∷ field ∷ print 1 ∷ [])
    [])
    (bytes "a\n") (ends 16 8 1 "1\n")
    ∷ runs "{ print $\"1.5\" }"
    (image 0 (quoted "1.5" ∷ []) [] [] (constant 0 ∷ field ∷ print 1 ∷ []) [])
    (bytes "a\n") (ends 12 3 1 "")
    ∷ runs "{ $(0 - 1) = 1 }"
    (image 0 (whole 0 ∷ whole 1 ∷ []) [] []
    (constant 0 ∷ constant 1 ∷ minus ∷ constant 1 ∷ set-field ∷ drop ∷ [])
    [])
    (bytes "a\n") (ends 16 6 1 "")
    ∷ []

-- "`match` sets RSTART (from 1) and RLENGTH, 0 and -1 if none, and answers RSTART."
abbrev pub match_marks : List Row
match_marks =
    runs "{ print match($0, /b+/), RSTART, RLENGTH }"
    (image 0 (whole 0 ∷ []) (bytes "b+" ∷ []) []
    (constant 0 ∷ field ∷ match 0 ∷ get RSTART ∷ get RLENGTH ∷ print 3 ∷ [])
    [])
    (bytes "abbb\n") (ends 0 9 1 "2 2 3\n")
    ∷ runs "{ match($0, /b/); print match($0, /z/), RSTART, RLENGTH }"
    (image 0 (whole 0 ∷ []) (bytes "b" ∷ bytes "z" ∷ []) []
    (constant 0 ∷ field ∷ match 0 ∷ drop ∷ constant 0 ∷ field ∷ match 1 ∷ get RSTART ∷ get RLENGTH ∷ print 3
    ∷ [])
    [])
    (bytes "abbb\n") (ends 0 13 1 "0 0 -1\n")
    ∷ runs "{ print $0 ~ /b+/, $0 !~ /b/, RSTART, RLENGTH }"
    (image 0 (whole 0 ∷ []) (bytes "b+" ∷ bytes "b" ∷ []) []
    (constant 0 ∷ field ∷ matches 0 ∷ constant 0 ∷ field ∷ matches 1 ∷ not ∷ get RSTART ∷ get RLENGTH ∷ print 4
    ∷ [])
    [])
    (bytes "abbb\n") (ends 0 13 1 "1 0 0 -1\n")
    ∷ []

-- "Assigning `$k`, k >= 1, grows NF if needed and joins all fields with the present OFS into `$0`, without splitting
-- again."
abbrev pub joined_records : List Row
joined_records =
    runs "{ OFS = \"-\"; $3 = \"p q\"; print $0; print NF }"
    (image 0 (quoted "-" ∷ whole 3 ∷ quoted "p q" ∷ whole 0 ∷ []) [] []
    (constant 0 ∷ set OFS ∷ drop ∷ constant 1 ∷ constant 2 ∷ set-field ∷ drop ∷ constant 3 ∷ field ∷ print 1
    ∷ get NF ∷ print 1 ∷ [])
    [])
    (bytes "a b\n") (ends 0 15 1 "a-b-p q\n3\n")
    ∷ runs "{ $2 = $1; print length($0) }"
    (image 0 (whole 2 ∷ whole 1 ∷ whole 0 ∷ []) [] []
    (constant 0 ∷ constant 1 ∷ field ∷ set-field ∷ drop ∷ constant 2 ∷ field ∷ length ∷ print 1 ∷ [])
    [])
    (repeated 255 120) (ends 0 12 1 "511\n")
    ∷ runs "{ $2 = $1; print length($0) }"
    (image 0 (whole 2 ∷ whole 1 ∷ whole 0 ∷ []) [] []
    (constant 0 ∷ constant 1 ∷ field ∷ set-field ∷ drop ∷ constant 2 ∷ field ∷ length ∷ print 1 ∷ [])
    [])
    (repeated 256 120) (ends 14 5 1 "")
    ∷ runs "{ x = $0 $0; x = x \"y\" }"
    (image 1 (whole 0 ∷ quoted "y" ∷ []) [] []
    (constant 0 ∷ field ∷ constant 0 ∷ field ∷ join ∷ set 7 ∷ drop ∷ get 7 ∷ constant 1 ∷ join ∷ set 7 ∷ drop
    ∷ [])
    [])
    (repeated 256 120) (ends 14 11 1 "")
    ∷ []

-- "The FS in force when a record is read, or when `$0` is assigned, splits it."
abbrev pub separators_in_force : List Row
separators_in_force =
    runs "{ FS = \",\"; print $1 }"
    (image 0 (quoted "," ∷ whole 1 ∷ []) [] [] (constant 0 ∷ set FS ∷ drop ∷ constant 1 ∷ field ∷ print 1 ∷ []) [])
    (bytes "a,b c\nd,e f\n") (ends 0 16 2 "a,b\nd\n")
    ∷ runs "{ FS = \",\"; $0 = \"x,y z\"; print $1, NF }"
    (image 0 (quoted "," ∷ whole 0 ∷ quoted "x,y z" ∷ whole 1 ∷ []) [] []
    (constant 0 ∷ set FS ∷ drop ∷ constant 1 ∷ constant 2 ∷ set-field ∷ drop ∷ constant 3 ∷ field ∷ get NF
    ∷ print 2 ∷ [])
    [])
    (bytes "a b\n") (ends 0 14 1 "x 2\n")
    ∷ []

-- "BEGIN sees an empty record; END the last one as left."
abbrev pub first_and_last_records : List Row
first_and_last_records =
    runs "BEGIN { print NF, NR, length($0), $1 == 0 }"
    (image 0 (whole 0 ∷ whole 1 ∷ []) []
    (get NF ∷ get NR ∷ constant 0 ∷ field ∷ length ∷ constant 1 ∷ field ∷ constant 0 ∷ equal ∷ print 4 ∷ [])
    []
    [])
    (bytes "a\n") (ends 0 12 0 "0 0 0 1\n")
    ∷ runs "{ $2 = \"z\" } END { print $0, NF, NR }"
    (image 0 (whole 2 ∷ quoted "z" ∷ whole 0 ∷ []) [] []
    (constant 0 ∷ constant 1 ∷ set-field ∷ drop ∷ [])
    (constant 2 ∷ field ∷ get NF ∷ get NR ∷ print 3 ∷ []))
    (bytes "a\nb c\n") (ends 0 17 2 "b z 2 2\n")
    ∷ []

-- "FS, OFS start as space, ORS newline, RSTART 0, RLENGTH -1."
abbrev pub first_values : List Row
first_values =
    runs "BEGIN { print FS \"|\" OFS \"|\" ORS \"|\" RSTART \"|\" RLENGTH }"
    (image 0 (quoted "|" ∷ []) []
    (get FS ∷ constant 0 ∷ join ∷ get OFS ∷ join ∷ constant 0 ∷ join ∷ get ORS ∷ join ∷ constant 0 ∷ join
    ∷ get RSTART ∷ join ∷ constant 0 ∷ join ∷ get RLENGTH ∷ join ∷ print 1 ∷ [])
    []
    [])
    (bytes "") (ends 0 20 0 " | |\n|0|-1\n")
    ∷ []

-- "variables (users unset)"; NF, NR and RSTART are numbers
abbrev pub unset_users : List Row
unset_users =
    runs "BEGIN { print x == 0, x == \"\", !NF, !NR, !RSTART }"
    (image 1 (whole 0 ∷ quoted "" ∷ []) []
    (get 7 ∷ constant 0 ∷ equal ∷ get 7 ∷ constant 1 ∷ equal ∷ get NF ∷ not ∷ get NR ∷ not ∷ get RSTART ∷ not
    ∷ print 5 ∷ [])
    []
    [])
    (bytes "") (ends 0 15 0 "1 1 1 1 1\n")
    ∷ []

-- "Records end at newline; a last one without it counts; no input, no records." "An empty record has no fields."
abbrev pub record_ends : List Row
record_ends =
    runs "{ print NR, length($0), NF }"
    (image 0 (whole 0 ∷ []) [] [] (get NR ∷ constant 0 ∷ field ∷ length ∷ get NF ∷ print 3 ∷ []) [])
    (bytes "a b\r\n\nc") (ends 0 23 3 "1 4 2\n2 0 0\n3 1 1\n")
    ∷ runs "END { print NR }"
    (image 0 [] [] [] [] (get NR ∷ print 1 ∷ []))
    (bytes "") (ends 0 4 0 "0\n")
    ∷ []

-- "A record read that stops takes no step and isn't begun; order 11 (NR would pass 2^53), 15, 18, 16."
abbrev pub read_stops : List Row
read_stops =
    runs_from 9007199254740991 "{ print NR }"
    (image 0 [] [] [] (get NR ∷ print 1 ∷ []) [])
    (bytes "a\n") (ends 0 5 9007199254740992 "9007199254740992\n")
    ∷ runs_from 9007199254740992 "{ print NR }"
    (image 0 [] [] [] (get NR ∷ print 1 ∷ []) [])
    (repeated 513 32) (ends 11 1 9007199254740992 "")
    ∷ runs "BEGIN { FS = \"\" } { print }"
    (image 0 (quoted "" ∷ whole 0 ∷ []) [] (constant 0 ∷ set FS ∷ drop ∷ []) (constant 1 ∷ field ∷ print 1 ∷ []) [])
    (repeated 513 32) (ends 15 4 0 "")
    ∷ runs "{ FS = \"\" }"
    (image 0 (quoted "" ∷ []) [] [] (constant 0 ∷ set FS ∷ drop ∷ []) [])
    (bytes "a\nb\n") (ends 18 5 1 "")
    ∷ runs "BEGIN { FS = \"((\" } { print }"
    (image 0 (quoted "((" ∷ whole 0 ∷ []) []
    (constant 0 ∷ set FS ∷ drop ∷ [])
    (constant 1 ∷ field ∷ print 1 ∷ [])
    [])
    (repeated 129 40) (ends 18 4 0 "")
    ∷ runs "BEGIN { FS = \"(\" } { print }"
    (image 0 (quoted "(" ∷ whole 0 ∷ []) []
    (constant 0 ∷ set FS ∷ drop ∷ [])
    (constant 1 ∷ field ∷ print 1 ∷ [])
    [])
    (repeated 128 40) (ends 16 4 0 "")
    ∷ runs "BEGIN { FS = \"(\" } { print NF }"
    (image 0 (quoted "(" ∷ []) [] (constant 0 ∷ set FS ∷ drop ∷ []) (get NF ∷ print 1 ∷ []) [])
    (repeated 127 40) (ends 0 8 1 "128\n")
    ∷ runs "{ print length($0) }"
    (image 0 (whole 0 ∷ []) [] [] (constant 0 ∷ field ∷ length ∷ print 1 ∷ []) [])
    (repeated 512 32) (ends 0 7 1 "512\n")
    ∷ []

-- "An instruction that stops counts as a step but changes nothing."
abbrev pub stopped_steps : List Row
stopped_steps =
    runs "{ print 1; x = 1 / 0 }"
    (image 1 (whole 1 ∷ whole 0 ∷ []) [] []
    (constant 0 ∷ print 1 ∷ constant 0 ∷ constant 1 ∷ divide ∷ set 7 ∷ drop ∷ [])
    [])
    (bytes "a\n") (ends 13 6 1 "1\n")
    ∷ runs "{ $1 = \"b\"; FS = \"\"; $0 = \"c\" } END { print }"
    (image 0 (whole 1 ∷ quoted "b" ∷ quoted "" ∷ whole 0 ∷ quoted "c" ∷ []) [] []
    (constant 0 ∷ constant 1 ∷ set-field ∷ drop ∷ constant 2 ∷ set FS ∷ drop ∷ constant 3 ∷ constant 4
    ∷ set-field ∷ drop ∷ [])
    (constant 3 ∷ field ∷ print 1 ∷ []))
    (bytes "a\n") (ends 18 11 1 "")
    ∷ []

-- "BEGIN, then each record, then always END." "No input is read if the record and END sections are both a lone 0."
abbrev pub section_order : List Row
section_order =
    runs "BEGIN { print 1 } { print 2 } END { print 3 }"
    (image 0 (whole 1 ∷ whole 2 ∷ whole 3 ∷ []) []
    (constant 0 ∷ print 1 ∷ [])
    (constant 1 ∷ print 1 ∷ [])
    (constant 2 ∷ print 1 ∷ []))
    (bytes "a\nb\n") (ends 0 12 2 "1\n2\n2\n3\n")
    ∷ runs "BEGIN { print NR }"
    (image 0 [] [] (get NR ∷ print 1 ∷ []) [] [])
    (repeated 513 32) (ends 0 4 0 "0\n")
    ∷ runs "END { print NR }"
    (image 0 [] [] [] [] (get NR ∷ print 1 ∷ []))
    (bytes "a\nb\n") (ends 0 6 2 "2\n")
    ∷ runs "NR == 0"
    (image 0 (whole 0 ∷ []) [] []
    (get NR ∷ constant 0 ∷ equal ∷ jump-if-false 7 ∷ constant 0 ∷ field ∷ print 1 ∷ [])
    [])
    (bytes "a\nb\n") (ends 0 12 2 "")
    ∷ []

-- "Exit goes to END, in END it finishes."; next
abbrev pub exits : List Row
exits =
    runs "NR == 2 { exit } { print } END { print \"e\" }"
    (image 0 (whole 2 ∷ whole 0 ∷ quoted "e" ∷ []) [] []
    (get NR ∷ constant 0 ∷ equal ∷ jump-if-false 5 ∷ exit ∷ constant 1 ∷ field ∷ print 1 ∷ [])
    (constant 2 ∷ print 1 ∷ []))
    (bytes "a\nb\nc\n") (ends 0 17 2 "a\ne\n")
    ∷ runs "BEGIN { exit } { print } END { print NR; exit; print \"no\" }"
    (image 0 (whole 0 ∷ quoted "no" ∷ []) []
    (exit ∷ [])
    (constant 0 ∷ field ∷ print 1 ∷ [])
    (get NR ∷ print 1 ∷ exit ∷ constant 1 ∷ print 1 ∷ []))
    (bytes "a\n") (ends 0 4 0 "0\n")
    ∷ runs "NR == 1 { next } { print }"
    (image 0 (whole 1 ∷ whole 0 ∷ []) [] []
    (get NR ∷ constant 0 ∷ equal ∷ jump-if-false 5 ∷ next ∷ constant 1 ∷ field ∷ print 1 ∷ [])
    [])
    (bytes "a\nb\n") (ends 0 15 2 "b\n")
    ∷ []

-- "One instruction is one step. Budget is tested before each instruction and each record read."
abbrev pub budgets : List Row
budgets =
    runs_in 0 100 "{ print }"
    (image 0 (whole 0 ∷ []) [] [] (constant 0 ∷ field ∷ print 1 ∷ []) [])
    (bytes "a\n") (ends 10 0 0 "")
    ∷ runs_in 1 100 "{ print }"
    (image 0 (whole 0 ∷ []) [] [] (constant 0 ∷ field ∷ print 1 ∷ []) [])
    (bytes "a\n") (ends 10 1 0 "")
    ∷ runs_in 2 100 "{ print }"
    (image 0 (whole 0 ∷ []) [] [] (constant 0 ∷ field ∷ print 1 ∷ []) [])
    (bytes "a\n") (ends 10 2 1 "")
    ∷ runs_in 5 100 "{ print }"
    (image 0 (whole 0 ∷ []) [] [] (constant 0 ∷ field ∷ print 1 ∷ []) [])
    (bytes "a\n") (ends 10 5 1 "a\n")
    ∷ runs_in 6 100 "{ print }"
    (image 0 (whole 0 ∷ []) [] [] (constant 0 ∷ field ∷ print 1 ∷ []) [])
    (bytes "a\n") (ends 0 6 1 "a\n")
    ∷ runs_in 1 100 "{ print }"
    (image 0 (whole 0 ∷ []) [] [] (constant 0 ∷ field ∷ print 1 ∷ []) [])
    (repeated 513 32) (ends 10 1 0 "")
    ∷ runs_in 2 100 "{ print }"
    (image 0 (whole 0 ∷ []) [] [] (constant 0 ∷ field ∷ print 1 ∷ []) [])
    (repeated 513 32) (ends 15 1 0 "")
    ∷ []

-- "Print writes its values, OFS between, then ORS, whole or not at all."
abbrev pub prints : List Row
prints =
    runs "BEGIN { OFS = \"-\"; ORS = \";\"; print 1, \"b\", 3; print 4 }"
    (image 0 (quoted "-" ∷ quoted ";" ∷ whole 1 ∷ quoted "b" ∷ whole 3 ∷ whole 4 ∷ []) []
    (constant 0 ∷ set OFS ∷ drop ∷ constant 1 ∷ set ORS ∷ drop ∷ constant 2 ∷ constant 3 ∷ constant 4 ∷ print 3
    ∷ constant 5 ∷ print 1 ∷ [])
    []
    [])
    (bytes "") (ends 0 14 0 "1-b-3;4;")
    ∷ runs_in 100 5 "{ print \"ab\", \"c\" }"
    (image 0 (quoted "ab" ∷ quoted "c" ∷ []) [] [] (constant 0 ∷ constant 1 ∷ print 2 ∷ []) [])
    (bytes "a\n") (ends 0 6 1 "ab c\n")
    ∷ runs_in 100 5 "{ print \"ab\"; print \"cd\" }"
    (image 0 (quoted "ab" ∷ quoted "cd" ∷ []) [] [] (constant 0 ∷ print 1 ∷ constant 1 ∷ print 1 ∷ []) [])
    (bytes "a\n") (ends 17 5 1 "ab\n")
    ∷ []

-- codes 7 to 14
abbrev pub arithmetic_codes : List Row
arithmetic_codes =
    runs "BEGIN { print 8 + 4, 8 - 4, 8 * 4, 8 / 4, 9 % 5, -3, +\"4x\", !7 }"
    (image 0 (whole 8 ∷ whole 4 ∷ whole 9 ∷ whole 5 ∷ whole 3 ∷ quoted "4x" ∷ whole 7 ∷ []) []
    (constant 0 ∷ constant 1 ∷ plus ∷ constant 0 ∷ constant 1 ∷ minus ∷ constant 0 ∷ constant 1 ∷ times
    ∷ constant 0 ∷ constant 1 ∷ divide ∷ constant 2 ∷ constant 3 ∷ remainder ∷ constant 4 ∷ negate ∷ constant 5
    ∷ to_number ∷ constant 6 ∷ not ∷ print 8 ∷ [])
    []
    [])
    (bytes "") (ends 0 24 0 "12 4 32 2 4 -3 4 0\n")
    ∷ []

-- codes 15 to 20
abbrev pub comparison_codes : List Row
comparison_codes =
    runs "BEGIN { print 1 < 2, 1 <= 2, 1 == 2, 1 != 2, (1 > 2), 1 >= 2 }"
    (image 0 (whole 1 ∷ whole 2 ∷ []) []
    (constant 0 ∷ constant 1 ∷ less ∷ constant 0 ∷ constant 1 ∷ at-most ∷ constant 0 ∷ constant 1 ∷ equal
    ∷ constant 0 ∷ constant 1 ∷ different ∷ constant 0 ∷ constant 1 ∷ greater ∷ constant 0 ∷ constant 1
    ∷ at-least ∷ print 6 ∷ [])
    []
    [])
    (bytes "") (ends 0 21 0 "1 1 0 1 0 0\n")
    ∷ []

-- codes 21, 24, 25, 26
abbrev pub text_codes : List Row
text_codes =
    runs "BEGIN { print \"ab\" \"c\", length(\"abc\"), index(\"abc\", \"c\"), substr(\"abcd\", 2, 1) }"
    (image 0 (quoted "ab" ∷ quoted "c" ∷ quoted "abc" ∷ quoted "abcd" ∷ whole 2 ∷ whole 1 ∷ []) []
    (constant 0 ∷ constant 1 ∷ join ∷ constant 2 ∷ length ∷ constant 2 ∷ constant 1 ∷ index ∷ constant 3
    ∷ constant 4 ∷ constant 5 ∷ substr ∷ print 4 ∷ [])
    []
    [])
    (bytes "") (ends 0 15 0 "abc 3 3 b\n")
    ∷ []

-- codes 27 and 28
abbrev pub jumps : List Row
jumps =
    runs "BEGIN { while (i < 2) { i = i + 1; if (i == 1) print \"one\"; else print i } }"
    (image 1 (whole 2 ∷ whole 1 ∷ quoted "one" ∷ []) []
    (get 7 ∷ constant 0 ∷ less ∷ jump-if-false 19 ∷ get 7 ∷ constant 1 ∷ plus ∷ set 7 ∷ drop ∷ get 7 ∷ constant 1
    ∷ equal ∷ jump-if-false 16 ∷ constant 2 ∷ print 1 ∷ jump 18 ∷ get 7 ∷ print 1 ∷ jump 0 ∷ [])
    []
    [])
    (bytes "") (ends 0 39 0 "one\n2\n")
    ∷ runs "{ if ($1) print \"yes\" }"
    (image 0 (whole 1 ∷ quoted "yes" ∷ []) [] []
    (constant 0 ∷ field ∷ jump-if-false 5 ∷ constant 1 ∷ print 1 ∷ [])
    [])
    (bytes "0.0\n1\n1.5\n") (ends 12 14 3 "yes\n")
    ∷ []

-- "operands (none at first, kept between sections)"
abbrev pub kept_operands : List Row
kept_operands =
    unchecked "BEGIN leaves an operand, END prints it"
    (image 0 (whole 7 ∷ []) [] (constant 0 ∷ []) [] (print 1 ∷ []))
    (bytes "") (ends 0 4 0 "7\n")
    ∷ unchecked "drop, at first"
    (image 0 [] [] (drop ∷ []) [] [])
    (bytes "") stuck
    ∷ []

-- "stuck where an operand, an instruction or what a number names is missing, an ERE doesn't read"
abbrev pub missing_things : List Row
missing_things =
    unchecked "one operand for `+`, which would stop"
    (image 0 (quoted "1.5" ∷ []) [] (constant 0 ∷ plus ∷ []) [] [])
    (bytes "") stuck
    ∷ unchecked "no instruction"
    (without_begin (image 0 [] [] [] [] []))
    (bytes "") stuck
    ∷ unchecked "a jump to no instruction"
    (image 0 [] [] (jump 9 ∷ []) [] [])
    (bytes "") stuck
    ∷ unchecked "a jump to no instruction, not taken"
    (image 0 (whole 1 ∷ []) [] (constant 0 ∷ jump-if-false 9 ∷ []) [] [])
    (bytes "") (ends 0 4 0 "")
    ∷ unchecked "no constant 1"
    (image 0 (whole 1 ∷ []) [] (constant 1 ∷ drop ∷ []) [] [])
    (bytes "") stuck
    ∷ unchecked "no variable 7"
    (image 0 [] [] (get 7 ∷ drop ∷ []) [] [])
    (bytes "") stuck
    ∷ unchecked "no ERE 0"
    (image 0 (whole 1 ∷ []) [] (constant 0 ∷ matches 0 ∷ drop ∷ []) [] [])
    (bytes "") stuck
    ∷ unchecked "an ERE that doesn't read"
    (image 0 (whole 1 ∷ []) (bytes "(" ∷ []) (constant 0 ∷ match 0 ∷ drop ∷ []) [] [])
    (bytes "") stuck
    ∷ []

-- "or no rule fits (print 0, `next` outside the record section, setting what can't be assigned)"
abbrev pub no_rules : List Row
no_rules =
    unchecked "print 0"
    (image 0 [] [] (print 0 ∷ []) [] [])
    (bytes "") stuck
    ∷ unchecked "next in END"
    (image 0 [] [] [] [] (next ∷ []))
    (bytes "") stuck
    ∷ unchecked "a set of NF"
    (image 0 (whole 1 ∷ []) [] (constant 0 ∷ set NF ∷ drop ∷ []) [] [])
    (bytes "") stuck
    ∷ unchecked "a set of NR"
    (image 0 (whole 1 ∷ []) [] (constant 0 ∷ set NR ∷ drop ∷ []) [] [])
    (bytes "") stuck
    ∷ unchecked "a set of RSTART"
    (image 0 (whole 1 ∷ []) [] (constant 0 ∷ set RSTART ∷ drop ∷ []) [] [])
    (bytes "") stuck
    ∷ unchecked "a set of RLENGTH"
    (image 0 (whole 1 ∷ []) [] (constant 0 ∷ set RLENGTH ∷ drop ∷ []) [] [])
    (bytes "") stuck
    ∷ []
