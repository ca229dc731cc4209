-- Which variables are counted.
use mathlib.Core.Path.{◌≡◌, refl}
use Prim.Native.Nat.{ℕ, zero, suc}
use Rattle.lists.specs.Elements.{nth}
use Rattle.semantics.specs.Variables.{specials, special_count, special_of}
use Rattle.opcodes.specs.Sources.{source_in}

pub counts-fields : (edition : ℕ) → 1 ≡ source_in (special_of edition 0)
unfolding special_of nth special_count specials
counts-fields edition = refl

pub counts-records : (edition : ℕ) → 2 ≡ source_in (special_of edition 1)
unfolding special_of nth special_count specials
counts-records edition = refl

pub counts-none : (edition v : ℕ) → (v ≡ 0 → ⊥) → (v ≡ 1 → ⊥) → 0 ≡ source_in (special_of edition v)
unfolding special_of nth special_count specials
counts-none edition zero h g = absurd (h refl)
counts-none edition (suc zero) h g = absurd (g refl)
counts-none edition (suc (suc zero)) h g = refl
counts-none edition (suc (suc (suc zero))) h g = refl
counts-none edition (suc (suc (suc (suc zero)))) h g = refl
counts-none edition (suc (suc (suc (suc (suc zero))))) h g = refl
counts-none edition (suc (suc (suc (suc (suc (suc zero)))))) h g = refl
counts-none edition (suc (suc (suc (suc (suc (suc (suc v))))))) h g = refl
