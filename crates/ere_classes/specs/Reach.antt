-- Internal: cited by private contracts only. How far matches reach that end at the text's end.
use Rattle.std.specs.Prelude.{◌≡◌, List, ℕ, suc, ◌<◌, get_or}
use Rattle.ere_table.specs.Table.{row, join}
use Rattle.ere_search.specs.Walk.{step}
use Rattle.ere_automaton.specs.Sets.{spent}

-- all of the set a is in the set b
abbrev pub Inside : List ℕ → List ℕ → Type 0
Inside a b = join a b ≡ b

-- what comes next after the set s and a byte of one of k classes is in the set r
abbrev pub Nexts : List ℕ → List ℕ → ℕ → List ℕ → List ℕ → Type 0
Nexts t bytes k s r = (c : ℕ) → c < k → Inside (step t s (get_or bytes c 0)) r

-- after n bytes nothing is left of a set in u
abbrev pub Ends : List ℕ → ℕ → List ℕ → Type 0
Ends t n u = (s : List ℕ) → Inside s u → spent t n s

-- the word r of a reach is right
abbrev pub Reaches : List ℕ → ℕ → Type 0
Reaches t r = (n : ℕ) → r ≡ suc n → (spent t (suc n) (row t 0)) × (spent t (suc n) (row t 1))
