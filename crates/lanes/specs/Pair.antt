-- Internal: cited by private contracts only. Bytes that are none of two.
use Rattle.std.specs.Prelude.{ℕ, Bool, not, [], ◌∷◌}
use Rattle.lists.specs.Elements.{one_of}

-- x is neither a nor b
abbrev pub neither : ℕ → ℕ → ℕ → Bool
neither a b x = not (one_of (a ∷ b ∷ []) x)
