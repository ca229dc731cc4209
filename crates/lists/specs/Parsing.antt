-- Parsers: what is read off the front of a list, and what is left of it.
use Rattle.std.specs.Prelude.{List, [], ◌∷◌, ℕ, zero, suc}
use Rattle.std.proofs.Math.Option.{Option, some, none}

-- what was read, and what is left after it
pub record Parsed (A : Type 0) : Type 0 where
  pub value : A
  pub rest : List ℕ

abbrev pub parsed : {A : Type 0} → A → List ℕ → Option (Parsed A)
parsed a l = some (record { value = a; rest = l })

-- a parser reads something off the front of a list, or refuses
abbrev pub Parser : Type 0 → Type 0
Parser A = List ℕ → Option (Parsed A)

-- one parser, and then another that goes by what the first read
abbrev pub bind : {A B : Type 0} → Option (Parsed A) → (A → Parser B) → Option (Parsed B)
bind none f = none
bind (some g) f = f g.value g.rest

-- the parser that reads nothing
abbrev pub succeed : {A : Type 0} → A → Parser A
succeed a l = parsed a l

-- n items, one after the other
unfoldable pub many : {A : Type 0} → Parser A → ℕ → Parser (List A)
many one zero l = parsed [] l
many one (suc n) l = bind (one l) (λ a l. bind (many one n l) (λ rest. succeed (a ∷ rest)))
