-- The tables hold, by computing: every definition that the rows come to is opened.
use mathlib.Core.Path.{refl}
use Rattle.lists.specs.Elements.{nth as lists-nth, one_of as lists-one_of, leading as lists-leading}
use Rattle.lists.specs.Parsing.{many as lists-many}
use Rattle.buffer.specs.First.{first_byte as buffer-first_byte, starts_with as buffer-starts_with}
use Rattle.buffer.specs.First.{first_part as buffer-first_part}
use Rattle.buffer.specs.Order.{ordering as buffer-ordering, equal_bytes as buffer-equal_bytes}
use Rattle.buffer.specs.Parts.{part as buffer-part}
use Rattle.number.specs.Arithmetic.{sum_of as number-sum_of, difference_of as number-difference_of}
use Rattle.number.specs.Arithmetic.{product_of as number-product_of, quotient_of as number-quotient_of}
use Rattle.number.specs.Arithmetic.{remainder_of as number-remainder_of, negation_of as number-negation_of}
use Rattle.number.specs.Range.{ranged as number-ranged}
use Rattle.decimals.specs.Decimal.{digits_within as numeral-digits_within, decimal_digits as numeral-decimal_digits}
use Rattle.decimals.specs.Decimal.{decimal_text as numeral-decimal_text}
use Rattle.numeral.specs.Form.{digits_from as numeral-digits_from, sign_length as numeral-sign_length}
use Rattle.numeral.specs.Form.{whole_digits as numeral-whole_digits, point_at as numeral-point_at}
use Rattle.numeral.specs.Form.{has_point as numeral-has_point, fraction_digits as numeral-fraction_digits}
use Rattle.numeral.specs.Form.{prefix_length as numeral-prefix_length, after_blanks as numeral-after_blanks}
use Rattle.numeral.specs.Form.{blank_after as numeral-blank_after, looks_numeric as numeral-looks_numeric}
use Rattle.numeral.specs.Judgement.{value_after as numeral-value_after, nonzero_digit as numeral-nonzero_digit}
use Rattle.numeral.specs.Judgement.{judged as numeral-judged, prefix_number as numeral-prefix_number}
use Rattle.numeral.specs.Judgement.{number_of as numeral-number_of}
use Rattle.ere_meaning.specs.Search.{best_from as ere_meaning-best_from, best_of as ere_meaning-best_of}
use Rattle.ere_meaning.specs.Tree.{in_some as ere_meaning-in_some, accepts as ere_meaning-accepts}
use Rattle.ere_meaning.specs.Tree.{places as ere_meaning-places}
use Rattle.ere_grammar.specs.Bytes.{lookup as ere_grammar-lookup, escape_of as ere_grammar-escape_of}
use Rattle.ere_grammar.specs.Bytes.{is_plain as ere_grammar-is_plain}
use Rattle.ere_grammar.specs.Read.{begins as ere_grammar-begins, tail as ere_grammar-tail}
use Rattle.ere_grammar.specs.Read.{escaped_byte as ere_grammar-escaped_byte, read_escape as ere_grammar-read_escape}
use Rattle.ere_grammar.specs.Read.{read_member as ere_grammar-read_member, joins as ere_grammar-joins}
use Rattle.ere_grammar.specs.Read.{with_range as ere_grammar-with_range, last_hyphen as ere_grammar-last_hyphen}
use Rattle.ere_grammar.specs.Read.{range_to as ere_grammar-range_to, after_byte as ere_grammar-after_byte}
use Rattle.ere_grammar.specs.Read.{read_items as ere_grammar-read_items, bracket_of as ere_grammar-bracket_of}
use Rattle.ere_grammar.specs.Read.{read_bracket as ere_grammar-read_bracket, only_byte as ere_grammar-only_byte}
use Rattle.ere_grammar.specs.Read.{read_atom as ere_grammar-read_atom, finished as ere_grammar-finished}
use Rattle.ere_grammar.specs.Read.{repeated as ere_grammar-repeated, after_atom as ere_grammar-after_atom}
use Rattle.ere_grammar.specs.Read.{after_group as ere_grammar-after_group, after_bar as ere_grammar-after_bar}
use Rattle.ere_grammar.specs.Read.{read_group as ere_grammar-read_group, read_rest as ere_grammar-read_rest}
use Rattle.ere_grammar.specs.Read.{whole as ere_grammar-whole, read_ere as ere_grammar-read_ere}
use Rattle.splitting.specs.Field.{next_field as splitting-next_field, fields_in as splitting-fields_in}
use Rattle.splitting.specs.Field.{fields_from as splitting-fields_from, fields_of as splitting-fields_of}
use Rattle.splitting.specs.Separator.{blanks as splitting-blanks, separator_of as splitting-separator_of}
use Rattle.splitting.specs.Splitting.{split_of as splitting-split_of}
use Rattle.image_format.specs.Codes.{codes as image_format-codes, code_count as image_format-code_count}
use Rattle.image_format.specs.Codes.{code_of as image_format-code_of}
use Rattle.image_format.specs.Numbers.{coded as image_format-coded, take_groups as image_format-take_groups}
use Rattle.image_format.specs.Numbers.{take_number as image_format-take_number}
use Rattle.image_format.specs.Reading.{read_image as image_format-read_image}
use Rattle.image_format.specs.Writing.{all as image_format-all, written as image_format-written}
use Rattle.values.specs.Operations.{arithmetic_of as values-arithmetic_of, negate_of as values-negate_of}
use Rattle.values.specs.Operations.{to_number_of as values-to_number_of, not_of as values-not_of}
use Rattle.values.specs.Operations.{compare_of as values-compare_of, join_of as values-join_of, length_of as values-length_of}
use Rattle.values.specs.Operations.{index_of as values-index_of, between as values-between, substr_of as values-substr_of}
use Rattle.values.specs.Operations.{field_number as values-field_number}
use Rattle.values.specs.Value.{text_of as values-text_of, number_of as values-number_of, numeric as values-numeric}
use Rattle.values.specs.Value.{truth_of as values-truth_of}
use Rattle.semantics.specs.Check.{holds_for as semantics-holds_for, check as semantics-check}
use Rattle.semantics.specs.Feed.{over as semantics-over, line_of as semantics-line_of, passed as semantics-passed}
use Rattle.semantics.specs.Feed.{full as semantics-full}
use Rattle.semantics.specs.Moves.{execute as semantics-execute, from_between as semantics-from_between}
use Rattle.semantics.specs.Moves.{move as semantics-move}
use Rattle.semantics.specs.Run.{run_for as semantics-run_for, run as semantics-run}
use Rattle.semantics.specs.Variables.{specials as semantics-specials, special_count as semantics-special_count}
use Rattle.semantics.specs.Variables.{special_of as semantics-special_of, assignable as semantics-assignable}
use Rattle.semantics.specs.World.{value_at as semantics-value_at, split_by as semantics-split_by}
use Rattle.semantics.specs.World.{read_record as semantics-read_record}
use Rattle.sound_cases.specs.Text.{Each}
use Rattle.sound_cases.specs.EightCases.{Claim as OfCase, eight_cases}
use Rattle.sound_cases.specs.ValueRows.{Claim as OfValues}
use Rattle.sound_cases.specs.ValueRows.{looks, text_numbers, number_stops, number_orders, byte_orders, comparison_stops}
use Rattle.sound_cases.specs.ValueRows.{nonzero_truths, nonempty_truths, truth_stops, negations, plain_decimals}
use Rattle.sound_cases.specs.ValueRows.{operand_numbers, quotients, remainders, ranges, substrings, places}
use Rattle.sound_cases.specs.RunRows.{Claim as OfRun}
use Rattle.sound_cases.specs.RunRows.{record_kinds, assigned_kinds, unset_fields, field_numbers, match_marks}
use Rattle.sound_cases.specs.RunRows.{joined_records, separators_in_force, first_and_last_records, first_values}
use Rattle.sound_cases.specs.RunRows.{unset_users, record_ends, read_stops, stopped_steps, section_order, exits}
use Rattle.sound_cases.specs.RunRows.{budgets}
use Rattle.sound_cases.specs.RunRows.{prints, arithmetic_codes, comparison_codes, text_codes, jumps, kept_operands}
use Rattle.sound_cases.specs.RunRows.{missing_things, no_rules}
use Rattle.sound_cases.proofs.Filter.{print-translates as translates}

-- document 01's eight cases; the tables of values; the tables of runs
pub computed : (Each OfCase eight_cases)
    × (Each OfValues looks)
    × (Each OfValues text_numbers)
    × (Each OfValues number_stops)
    × (Each OfValues number_orders)
    × (Each OfValues byte_orders)
    × (Each OfValues comparison_stops)
    × (Each OfValues nonzero_truths)
    × (Each OfValues nonempty_truths)
    × (Each OfValues truth_stops)
    × (Each OfValues negations)
    × (Each OfValues plain_decimals)
    × (Each OfValues operand_numbers)
    × (Each OfValues quotients)
    × (Each OfValues remainders)
    × (Each OfValues ranges)
    × (Each OfValues substrings)
    × (Each OfValues places)
    × (Each OfRun record_kinds)
    × (Each OfRun assigned_kinds)
    × (Each OfRun unset_fields)
    × (Each OfRun field_numbers)
    × (Each OfRun match_marks)
    × (Each OfRun joined_records)
    × (Each OfRun separators_in_force)
    × (Each OfRun first_and_last_records)
    × (Each OfRun first_values)
    × (Each OfRun unset_users)
    × (Each OfRun record_ends)
    × (Each OfRun read_stops)
    × (Each OfRun stopped_steps)
    × (Each OfRun section_order)
    × (Each OfRun exits)
    × (Each OfRun budgets)
    × (Each OfRun prints)
    × (Each OfRun arithmetic_codes)
    × (Each OfRun comparison_codes)
    × (Each OfRun text_codes)
    × (Each OfRun jumps)
    × (Each OfRun kept_operands)
    × (Each OfRun missing_things)
    × (Each OfRun no_rules)
unfolding lists-nth lists-one_of lists-leading lists-many buffer-first_byte buffer-starts_with buffer-first_part
    buffer-ordering buffer-equal_bytes buffer-part number-sum_of number-difference_of number-product_of
    number-quotient_of number-remainder_of number-negation_of number-ranged numeral-digits_within
    numeral-decimal_digits numeral-decimal_text numeral-digits_from numeral-sign_length numeral-whole_digits
    numeral-point_at numeral-has_point numeral-fraction_digits numeral-prefix_length numeral-after_blanks
    numeral-blank_after numeral-looks_numeric numeral-value_after numeral-nonzero_digit numeral-judged
    numeral-prefix_number numeral-number_of ere_meaning-best_from ere_meaning-best_of ere_meaning-in_some
    ere_meaning-accepts ere_meaning-places ere_grammar-lookup ere_grammar-escape_of ere_grammar-is_plain
    ere_grammar-begins ere_grammar-tail ere_grammar-escaped_byte ere_grammar-read_escape ere_grammar-read_member
    ere_grammar-joins ere_grammar-with_range ere_grammar-last_hyphen ere_grammar-range_to ere_grammar-after_byte
    ere_grammar-read_items ere_grammar-bracket_of ere_grammar-read_bracket ere_grammar-only_byte
    ere_grammar-read_atom ere_grammar-finished ere_grammar-repeated ere_grammar-after_atom ere_grammar-after_group
    ere_grammar-after_bar ere_grammar-read_group ere_grammar-read_rest ere_grammar-whole ere_grammar-read_ere
    splitting-next_field splitting-fields_in splitting-fields_from splitting-fields_of splitting-blanks
    splitting-separator_of splitting-split_of image_format-codes image_format-code_count image_format-code_of
    image_format-coded image_format-take_groups image_format-take_number image_format-read_image image_format-all
    image_format-written values-arithmetic_of values-negate_of values-to_number_of values-not_of values-compare_of
    values-join_of values-length_of values-index_of values-between values-substr_of values-field_number values-text_of
    values-number_of values-numeric values-truth_of semantics-holds_for semantics-check semantics-over
    semantics-line_of semantics-passed semantics-full semantics-execute semantics-from_between semantics-move
    semantics-run_for semantics-run semantics-specials semantics-special_count semantics-special_of
    semantics-assignable semantics-value_at semantics-split_by semantics-read_record
computed = (
  (refl, (refl, (refl, (refl, ((refl, refl), ((refl, refl), ((translates, refl, refl, refl), ((refl, refl), tt)))))))),
  (refl, (refl, (refl, (refl, (refl, (refl, (refl, tt))))))),
  (refl, (refl, (refl, (refl, tt)))),
  (refl, (refl, (refl, (refl, tt)))),
  (refl, (refl, (refl, (refl, (refl, (refl, (refl, (refl, tt)))))))),
  (refl, (refl, (refl, (refl, (refl, (refl, (refl, (refl, tt)))))))),
  (refl, (refl, (refl, (refl, tt)))),
  (refl, (refl, (refl, (refl, tt)))),
  (refl, (refl, (refl, (refl, (refl, (refl, tt)))))),
  (refl, (refl, tt)),
  (refl, (refl, (refl, tt))),
  (refl, (refl, (refl, (refl, (refl, (refl, (refl, tt))))))),
  (refl, (refl, (refl, (refl, (refl, (refl, (refl, (refl, (refl, (refl, (refl, (refl, tt)))))))))))),
  (refl, (refl, (refl, (refl, tt)))),
  (refl, (refl, (refl, (refl, tt)))),
  (refl, (refl, (refl, (refl, (refl, (refl, tt)))))),
  (refl, (refl, (refl, (refl, (refl, (refl, (refl, tt))))))),
  (refl, (refl, (refl, (refl, (refl, tt))))),
  (refl, (refl, (refl, (refl, tt)))),
  (refl, tt),
  (refl, (refl, tt)),
  (refl, (refl, (refl, tt))),
  (refl, (refl, (refl, tt))),
  (refl, (refl, (refl, (refl, tt)))),
  (refl, (refl, tt)),
  (refl, (refl, tt)),
  (refl, tt),
  (refl, tt),
  (refl, (refl, tt)),
  (refl, (refl, (refl, (refl, (refl, (refl, (refl, (refl, tt)))))))),
  (refl, (refl, tt)),
  (refl, (refl, (refl, (refl, tt)))),
  (refl, (refl, (refl, tt))),
  (refl, (refl, (refl, (refl, (refl, (refl, (refl, tt))))))),
  (refl, (refl, (refl, tt))),
  (refl, tt),
  (refl, tt),
  (refl, tt),
  (refl, (refl, tt)),
  (refl, (refl, tt)),
  (refl, (refl, (refl, (refl, (refl, (refl, (refl, (refl, tt)))))))),
  (refl, (refl, (refl, (refl, (refl, (refl, tt)))))),
)

-- document 01's eight cases, one statement over their table
pub eight-cases : Each OfCase eight_cases
eight-cases = computed.0
