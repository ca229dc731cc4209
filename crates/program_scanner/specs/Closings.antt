-- Internal: cited by private contracts only. What the searches for a closing quote or slash answer.
use Rattle.std.specs.Prelude.{Bool, cond, List, ℕ, ◌+◌, ◌-◌, length, eqb, Option, Some, None}
use Rattle.std.proofs.Math.Option as maybe
use Rattle.lists.specs.Elements.{is_some}
use Rattle.lists.specs.Parsing.{Parsed}
use Rattle.ere_grammar.specs.Bytes.{lookup, string_escapes}
use Rattle.program_scanner.specs.declared.closings.Turn.{Turn}
use Rattle.program_scanner.specs.declared.closings.Turn.TheVariants.{Plain, Backslash, Quote, Refused}

-- what a byte of a STRING is, after a backslash or not
unfoldable pub string_turn : Bool → ℕ → Turn
string_turn escaped b =
    cond escaped (cond (is_some (lookup string_escapes b)) Plain Refused)
    (cond (eqb b 34) Quote (cond (eqb b 10) Refused (cond (eqb b 92) Backslash Plain)))

-- the place after the closing quote of a STRING that was read
unfoldable pub string_close : List ℕ → maybe.Option (Parsed (List ℕ)) → Option ℕ
string_close s maybe.none = None
string_close s (maybe.some g) = Some (length s - length g.rest)

-- the place of the closing slash, n bytes after the place `at`
unfoldable pub ere_close : ℕ → maybe.Option ℕ → Option ℕ
ere_close at maybe.none = None
ere_close at (maybe.some n) = Some (at + n)
