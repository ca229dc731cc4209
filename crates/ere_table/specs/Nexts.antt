-- Internal: cited by private contracts only. What may come next in a walk over the places of an ERE: the end of the
-- walk, or a place. No sets of last places are needed, nor that places differ: what follows an ERE is a parameter.
use Rattle.std.specs.Prelude.{◌≡◌, Bool, true, false, ◌⊎◌, ◌↔◌, ℕ}
use Rattle.ere_meaning.specs.Tree.{Ere, place, bol, eol, cat, alt, star, plus, opt}

pub data Next : Type 0 where
  stop : Next
  go : ℕ → Next

-- What may come next, where the text starts (s) and where it ends (f), or not.
abbrev pub Nexts : Type 1
Nexts = Bool → Bool → Next → Type 0

-- e has an empty span there
abbrev pub Null : Ere ℕ → Bool → Bool → Type 0
Null (place p) s f = ⊥
Null bol s f = s ≡ true
Null eol s f = f ≡ true
Null (cat a b) s f = (Null a s f) × (Null b s f)
Null (alt a b) s f = (Null a s f) ⊎ (Null b s f)
Null (star a) s f = Unit
Null (plus a) s f = Null a s f
Null (opt a) s f = Unit

-- a span of e that starts there may start with the place; at the text's end there is no byte for it
abbrev pub First : Ere ℕ → Nexts
First (place p) s f r = (f ≡ false) × (r ≡ go p)
First bol s f r = ⊥
First eol s f r = ⊥
First (cat a b) s f r = (First a s f r) ⊎ ((Null a s f) × (First b s f r))
First (alt a b) s f r = (First a s f r) ⊎ (First b s f r)
First (star a) s f r = First a s f r
First (plus a) s f r = First a s f r
First (opt a) s f r = First a s f r

-- what may come next before e, where K may come next after it
abbrev pub Enter : Ere ℕ → Nexts → Nexts
Enter e K s f r = (First e s f r) ⊎ ((Null e s f) × (K s f r))

-- what may come next before a, and after it, where a may be repeated
abbrev pub Again : Ere ℕ → Nexts → Nexts
Again a K s f r = (First a s f r) ⊎ (K s f r)

-- N, what may come next after each place, is what e asks for where K may come next after e
abbrev pub Wired : (ℕ → Bool → Next → Type 0) → Ere ℕ → Nexts → Type 0
Wired N (place p) K = (f : Bool) (r : Next) → (N p f r) ↔ (K false f r)
Wired N bol K = Unit
Wired N eol K = Unit
Wired N (cat a b) K = (Wired N a (Enter b K)) × (Wired N b K)
Wired N (alt a b) K = (Wired N a K) × (Wired N b K)
Wired N (star a) K = Wired N a (Again a K)
Wired N (plus a) K = Wired N a (Again a K)
Wired N (opt a) K = Wired N a K

-- after the whole ERE a walk may only stop
abbrev pub Last : Nexts
Last s f r = r ≡ stop
