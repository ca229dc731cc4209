-- Parts of a list of bytes, and a list with a part replaced.
use Rattle.std.specs.Prelude.{ℕ, ◌+◌, List, ◌++◌, length, take, drop}

-- the n elements from index a
unfoldable pub part : ℕ → ℕ → List ℕ → List ℕ
part a n l = take n (drop a l)

-- the list with b from index a on
unfoldable pub put : List ℕ → ℕ → List ℕ → List ℕ
put l a b = take a l ++ b ++ drop (a + length b) l
