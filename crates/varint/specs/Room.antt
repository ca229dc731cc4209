-- Internal: cited by private contracts only. A room that a walk writes to, as far as the room goes.
use Rattle.std.specs.Prelude.{cond, List, [], ◌∷◌, ℕ, suc, length, set, ltb}

-- the room with an element at an index, if it has one there
abbrev pub with_one : List ℕ → ℕ → ℕ → List ℕ
with_one room k x = cond (ltb k (length room)) (set room k x) room

-- with elements from an index on
unfoldable pub with_all : List ℕ → ℕ → List ℕ → List ℕ
with_all room k [] = room
with_all room k (x ∷ l) = with_all (with_one room k x) (suc k) l
