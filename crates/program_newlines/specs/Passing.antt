-- Internal: cited by private contracts only. The kinds that a reader passes, and how far it is.
use Rattle.std.specs.Prelude.{◌≡◌, Bool, cond, List, [], ◌∷◌, ℕ, ◌+◌, ◌≤◌, ◌<◌, length}
use Rattle.program_tokens.specs.Kinds.{Kind, newline}
use Rattle.program_grammar.specs.Sets.{enders}
use Rattle.program_reader.specs.Read.{past_in}
use Rattle.program_lexer.specs.Coded.{decoded, kind_count}
use Rattle.program_lexer.specs.declared.tokens.Token.{Token as Coded}
use Rattle.program_parser.specs.Reading.{Good}

-- newlines, and `;` where they may be passed too
abbrev pub passing : Bool → List Kind
passing semicolons = cond semicolons enders (newline ∷ [])

-- what is left to pass from u on is what was from t on
pub record Passes (edition : ℕ) (s : List ℕ) (ks : List Kind) (t u : Coded) : Type 0 where
  pub good : Good edition s 0 (decoded u)
  pub known : u.kind < kind_count
  pub left : ℕ
  pub enough : length s ≤ left + u.start
  pub same : past_in edition s ks left (decoded u) ≡ past_in edition s ks (length s) (decoded t)
