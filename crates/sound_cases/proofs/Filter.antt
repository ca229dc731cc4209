-- The filter of the eight cases is translated, by computing: every definition that its translation comes to is opened.
use mathlib.Core.Path.{◌≡◌, ap}
use mathlib.Core.Bool.{Bool, cond}
use mathlib.Core.List.{List, ◌++◌}
use Prim.Native.Nat.{ℕ, ◌≤◌}
use lib.ListN.{length, drop}
use borrow.Author.Tests.{le-leb}
use Rattle.edition.specs.Outcomes.{done, room_too_small}
use Rattle.lists.specs.Elements.{leading}
use Rattle.image_format.specs.Numbers.{coded}
use Rattle.image_format.specs.Writing.{all, written}
use Rattle.program_tokens.specs.Kinds.{rank, among}
use Rattle.program_tokens.specs.Words.{kind_in, same_bytes}
use Rattle.program_tokens.specs.Tokens.{begins_with, skipped, word_token, operator_token, token_of, token_at, token_after}
use Rattle.program_tokens.specs.Tokens.{as_operand}
use Rattle.program_tree.specs.Functions.{function_in}
use Rattle.program_grammar.specs.Sets.{starts_joined, starts_expression}
use Rattle.program_reader.specs.Read.{past_in}
use Rattle.program_reader.specs.Statements.{ended, print_at, statement_of, followed, statements, block_of, statement_at}
use Rattle.program_reader.specs.Programs.{action_at, item_at, items, read_program}
use Rattle.program_code.specs.Emitted.{action_code, flow_code, opcode}
use Rattle.program_code.specs.Sections.{compile_print, size_print, size_of, compile_statement, guarded, part_of, parts_of}
use Rattle.program_code.specs.Sections.{section_code}
use Rattle.program_numbering.specs.Names.{names_in_all, names_in_statement, names_in_pattern, names_in_item, names_in_program}
use Rattle.program_numbering.specs.Names.{has, with_new, number_of, users_among, users_of}
use Rattle.program_numbering.specs.Numbering.{same_constant, operands_by, tables_of, numbers_of, instructions, image_by}
use Rattle.program_numbering.specs.Sizes.{fits}
use Rattle.translation.specs.Translation.{Translation, refused, stored, sized, of_program, translate_of}
use Rattle.sound_cases.specs.Text.{bytes}
use Rattle.sound_cases.specs.EightCases.{print_filter, print_image}

-- in any room that has as many bytes
pub print-translates : (room : List ℕ) → length print_image ≤ length room
    → translate_of 1 (bytes print_filter) room
    ≡ record { outcome = done; place = length print_image; room = print_image ++ drop (length print_image) room }
unfolding leading coded all written rank among kind_in same_bytes begins_with skipped word_token operator_token
    token_of token_at token_after as_operand function_in starts_joined starts_expression past_in ended print_at statement_of
    followed statements block_of statement_at action_at item_at items read_program action_code flow_code opcode
    compile_print size_print size_of compile_statement guarded part_of parts_of section_code names_in_all names_in_statement
    names_in_pattern names_in_item names_in_program has with_new number_of users_among users_of same_constant operands_by
    tables_of numbers_of instructions image_by fits stored sized of_program translate_of
print-translates room h =
    ap (λ (b : Bool). cond b (written-to room) (refused room room_too_small (length (bytes print_filter))))
    (le-leb (length print_image) (length room) h)
  where
    written-to : List ℕ → Translation
    written-to room =
        record { outcome = done; place = length print_image; room = print_image ++ drop (length print_image) room }
