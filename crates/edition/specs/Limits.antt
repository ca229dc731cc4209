-- Document 01, "Sizes": "The limits belong to the edition and have one home". Each is named once, under its words.
use Rattle.std.specs.Prelude.{ℕ, ◌^◌}
use Rattle.edition.specs.declared.Limits.{Limits}

-- "Exact rules, edition 1": its number
abbrev pub first_edition : ℕ
first_edition = 1

-- "filter text 8,192 bytes"
abbrev pub filter_text : ℕ
filter_text = 8192

-- "any text value 512"
abbrev pub text_bytes : ℕ
text_bytes = 512

-- "record 512 (without newline)"
abbrev pub record_bytes : ℕ
record_bytes = 512

-- "fields 128"
abbrev pub field_count : ℕ
field_count = 128

-- "numbers -2^53 to 2^53"
abbrev pub number_bound : ℕ
number_bound = 2 ^ 53

-- "user names 25"
abbrev pub user_names : ℕ
user_names = 25

-- "constants 64"
abbrev pub constant_count : ℕ
constant_count = 64

-- "EREs 16"
abbrev pub ere_count : ℕ
ere_count = 16

-- "instructions per section 1,024"
abbrev pub instruction_count : ℕ
instruction_count = 1024

-- "operand depth 32"
abbrev pub operand_depth : ℕ
operand_depth = 32

-- "nesting 16"
abbrev pub nesting_depth : ℕ
nesting_depth = 16

-- "working room 49,152 bytes"
abbrev pub working_room : ℕ
working_room = 49152

-- "an ERE has at most 512 bytes"
abbrev pub ere_bytes : ℕ
ere_bytes = 512

-- "128 places"
abbrev pub ere_places : ℕ
ere_places = 128

-- "16 nested groups"
abbrev pub ere_groups : ℕ
ere_groups = 16

-- all of them with the edition that they belong to, under the names that the code has
abbrev pub limits : Limits
limits =
    record {
      edition = first_edition;
      filter_text = filter_text;
      text = text_bytes;
      «record» = record_bytes;
      fields = field_count;
      number = number_bound;
      users = user_names;
      constants = constant_count;
      eres = ere_count;
      instructions = instruction_count;
      depth = operand_depth;
      nesting = nesting_depth;
      working_room = working_room;
      ere_bytes = ere_bytes;
      ere_places = ere_places;
      ere_groups = ere_groups;
    }
