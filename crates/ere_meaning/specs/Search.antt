-- Internal: cited by private contracts only. The same, computed: whether there is a span, by trying each place between,
-- and the leftmost longest one, by trying each start and each end.
use Rattle.std.specs.Prelude.{Bool, true, false, cond, ◌&&◌, ◌||◌, List, ℕ, zero, suc, ◌+◌, ◌-◌, length, get_or, eqb, ltb}
use Rattle.ere_meaning.specs.Tree.{Ere, place, bol, eol, cat, alt, star, plus, opt}
use Rattle.ere_meaning.specs.Meaning.{Match, found, nowhere}

-- f holds of a number below n
abbrev pub any : ℕ → (ℕ → Bool) → Bool
any zero f = false
any (suc n) f = f n || any n f

-- up to n spans of r, none of them empty, lead from i to j; len is the text's length
abbrev pub loops : ℕ → (ℕ → ℕ → Bool) → ℕ → ℕ → ℕ → Bool
loops len r zero i j = eqb i j
loops len r (suc n) i j = eqb i j || any (suc len) (λ k. ltb i k && (r i k && loops len r n k j))

module _ {A : Type 0} (ok : A → ℕ → Bool) (text : List ℕ) where
  abbrev pub leads : Ere A → ℕ → ℕ → Bool
  leads (place a) i j = eqb j (suc i) && (ltb i (length text) && ok a (get_or text i 0))
  leads bol i j = eqb j i && eqb i 0
  leads eol i j = eqb j i && eqb i (length text)
  leads (cat a b) i j = any (suc (length text)) (λ k. leads a i k && leads b k j)
  leads (alt a b) i j = leads a i j || leads b i j
  leads (star a) i j = loops (length text) (leads a) (length text) i j
  leads (plus a) i j = any (suc (length text)) (λ k. leads a i k && loops (length text) (leads a) (length text) k j)
  leads (opt a) i j = eqb j i || leads a i j

  -- the longest span from s of at least `least` bytes and fewer than `least` and n more, else what another search gives
  abbrev pub longest : Ere A → ℕ → ℕ → ℕ → Match → Match
  longest e s least zero other = other
  longest e s least (suc n) other = cond (leads e s (s + (least + n))) (found s (least + n)) (longest e s least n other)

  -- the leftmost of d starts from s on
  abbrev pub leftmost : Ere A → ℕ → ℕ → ℕ → Match
  leftmost e least s zero = nowhere
  leftmost e least s (suc d) = longest e s least (suc (length text) - (s + least)) (leftmost e least (suc s) d)

  -- of the spans that start at `from` or later and have at least `least` bytes
  unfoldable pub best_from : Ere A → ℕ → ℕ → Match
  best_from e from least = leftmost e least from (suc (length text) - from)

  -- of all spans
  unfoldable pub best_of : Ere A → Match
  best_of e = best_from e 0 0
