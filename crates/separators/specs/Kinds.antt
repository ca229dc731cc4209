-- Internal: cited by private contracts only. What the code's own values stand for: the kind of a separator, and the
-- next field.
use Rattle.std.specs.Prelude.{◌≡◌, List, ℕ, length, Option, Some, None}
use Rattle.std.proofs.Math.Option.{some, none}
use Rattle.ere_meaning.specs.Tree.{Class, Ere}
use Rattle.ere_table.specs.Table.{table_words}
use Rattle.ere.specs.Answer.{Serves}
use Rattle.splitting.specs.Separator.{Separator, blanks, blank, byte, ere, separator_of}
use Rattle.splitting.specs.Field.{span, Next, field, none as nothing}
use Rattle.separators.specs.declared.kinds.Kind.{Kind}
use Rattle.separators.specs.declared.kinds.Kind.TheVariants.{Blank, Byte, Pattern, Refused}
use Rattle.separators.specs.declared.steps.Step.{Step}

-- a table goes with a pattern
abbrev pub Sized : Kind → List ℕ → Type 0
Sized Blank t = Unit
Sized (Byte b) t = Unit
Sized Pattern t = length t ≡ table_words
Sized Refused t = Unit

-- the separator s is of this kind, and, if it is an ERE, the table serves it
abbrev pub Means : ℕ → List ℕ → Kind → Separator → Type 0
Means edition t Blank s = s ≡ blank (blanks edition)
Means edition t (Byte b) s = s ≡ byte b
Means edition t Pattern s = (e : Ere Class) × (s ≡ ere e) × (Serves t e)
Means edition t Refused s = ⊥

-- the kind that a separator's bytes are found to be
abbrev pub Told : ℕ → List ℕ → List ℕ → Kind → Type 0
Told edition bytes t k = (s : Separator) × (separator_of edition bytes ≡ some s) × (Means edition t k s)

abbrev pub Tells : ℕ → List ℕ → List ℕ → Kind → Type 0
Tells edition bytes t Blank = Told edition bytes t Blank
Tells edition bytes t (Byte b) = Told edition bytes t (Byte b)
Tells edition bytes t Pattern = Told edition bytes t Pattern
Tells edition bytes t Refused = separator_of edition bytes ≡ none

-- a step's answer
abbrev pub next_of : Option Step → Next
next_of (Some r) = field (span r.start r.size) r.after
next_of None = nothing
