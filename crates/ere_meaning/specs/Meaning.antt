-- Document 01, "EREs": "A match is a span in the ERE's language, anchors judged against the whole text; the answer has
-- the smallest start, then greatest length."
use Rattle.std.specs.Prelude.{◌≡◌, Bool, true, ◌⊎◌, List, ℕ, suc, ◌+◌, ◌≤◌, ◌<◌, length, get_or}
use Rattle.ere_meaning.specs.Tree.{Ere, place, bol, eol, cat, alt, star, plus, opt}

-- any number of spans, one after the other
pub data Repeated (R : ℕ → ℕ → Type 0) : ℕ → ℕ → Type 0 where
  done : {i : ℕ} → Repeated R i i
  more : {i k j : ℕ} → R i k → Repeated R k j → Repeated R i j

-- `ok a b`: what is at a place takes the byte b
module _ {A : Type 0} (ok : A → ℕ → Bool) (text : List ℕ) where
  -- the ERE leads from i to j
  abbrev pub Leads : Ere A → ℕ → ℕ → Type 0
  Leads (place a) i j = (j ≡ suc i) × (i < length text) × (ok a (get_or text i 0) ≡ true)
  Leads bol i j = (j ≡ i) × (i ≡ 0)
  Leads eol i j = (j ≡ i) × (i ≡ length text)
  Leads (cat a b) i j = (k : ℕ) × (Leads a i k) × (Leads b k j)
  Leads (alt a b) i j = (Leads a i j) ⊎ (Leads b i j)
  Leads (star a) i j = Repeated (Leads a) i j
  Leads (plus a) i j = (k : ℕ) × (Leads a i k) × (Repeated (Leads a) k j)
  Leads (opt a) i j = (j ≡ i) ⊎ (Leads a i j)

  -- the text from i up to j is a span of the ERE
  abbrev pub Spans : Ere A → ℕ → ℕ → Type 0
  Spans e i j = (j ≤ length text) × (Leads e i j)

-- an answer: a start and a length, or none
pub data Match : Type 0 where
  found : ℕ → ℕ → Match
  nowhere : Match

module _ {A : Type 0} (ok : A → ℕ → Bool) (text : List ℕ) (e : Ere A) where
  -- Of the spans that start at `from` or later and have at least `least` bytes, the answer has the smallest start, then
  -- the greatest length; there is none exactly if there is no such span.
  abbrev pub BestFrom : ℕ → ℕ → Match → Type 0
  BestFrom from least (found s n) =
      (Spans ok text e s (s + n)) × (from ≤ s) × (least ≤ n)
      × ((k j : ℕ) → from ≤ k → k + least ≤ j → Spans ok text e k j → s ≤ k)
      × ((j : ℕ) → s + least ≤ j → Spans ok text e s j → j ≤ s + n)
  BestFrom from least nowhere = (k j : ℕ) → from ≤ k → k + least ≤ j → Spans ok text e k j → ⊥

  -- of all spans
  abbrev pub Best : Match → Type 0
  Best r = BestFrom 0 0 r
