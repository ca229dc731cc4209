-- Internal: cited by private contracts only. The tokens of the code: a kind is its number.
use Rattle.std.specs.Prelude.{ℕ, get_or}
use Rattle.program_tokens.specs.Kinds.{Kind, bad, kinds, rank}
use Rattle.program_tokens.specs.Tokens.{Token}
use Rattle.program_lexer.specs.declared.tokens.Token.{Token as Coded}

-- how many kinds there are
abbrev pub kind_count : ℕ
kind_count = 76

abbrev pub coded : Token → Coded
coded t = record { start = t.start; kind = rank t.kind; stop = t.stop }

-- the kind of a number; a number that no kind has counts as `bad`
unfoldable pub kind_of : ℕ → Kind
kind_of n = get_or kinds n bad

abbrev pub decoded : Coded → Token
decoded t = record { start = t.start; kind = kind_of t.kind; stop = t.stop }
