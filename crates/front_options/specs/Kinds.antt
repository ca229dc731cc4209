-- Internal: cited by private contracts only. The words that are options.
use Rattle.std.specs.Prelude.{cond, List, [], ◌∷◌, ℕ, suc, ◌<◌, eqb, ltb, length, get_or}
use Prim.Native.Char.{code}
use Prim.Native.String.{String, [] as end-of-text, ◌∷◌ as ◌before◌}
use Rattle.buffer.specs.Order.{equal_bytes}
use Rattle.front_options.specs.declared.options.Kind.{Kind}
use Rattle.front_options.specs.declared.options.Kind.TheVariants.{Known, Operand, Unknown}

-- the bytes of a text
abbrev pub says : String → List ℕ
says end-of-text = []
says (c before t) = code c ∷ says t

-- the options, by number from 0; those from 4 on take an argument
abbrev pub option_words : List (List ℕ)
option_words =
    says "--" ∷ says "-s" ∷ says "-h" ∷ says "-V" ∷ says "-b" ∷ says "-f" ∷ says "-i" ∷ says "-o" ∷ says "--check"
    ∷ says "--content" ∷ []

-- the number of the first word that is equal to w, or how many there are
unfoldable pub number_in : List (List ℕ) → List ℕ → ℕ
number_in [] w = 0
number_in (x ∷ ws) w = cond (equal_bytes x w) 0 (suc (number_in ws w))

-- how many options there are
abbrev pub OPTIONS : ℕ
OPTIONS = 10

-- a word is an option by number, no option, as `-` and the empty word, or one that there is not
unfoldable pub kind_of : List ℕ → Kind
kind_of w =
    let n = number_in option_words w in
    cond (ltb n OPTIONS) (Known n) (cond (ltb (length w) 2) Operand (cond (eqb (get_or w 0 0) 45) Unknown Operand))

-- a number of an option is that of a word of the table
abbrev pub Listed : Kind → Type 0
Listed (Known n) = n < OPTIONS
Listed Operand = Unit
Listed Unknown = Unit
