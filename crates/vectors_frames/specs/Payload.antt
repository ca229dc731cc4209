-- Internal: cited by private contracts only. Numbers of a payload, and the room of a case.
use Rattle.std.specs.Prelude.{ℕ, ◌+◌, cond, List, leb, length, take}
use Rattle.buffer.specs.Parts.{part, put}
use Rattle.little_endian.specs.Words.{le_value}

-- the number in the k bytes from index a on, the low byte first; 0 where there are no such bytes
unfoldable pub number_at : ℕ → ℕ → List ℕ → ℕ
number_at k a p = cond (leb (a + k) (length p)) (le_value (part a k p)) 0

-- a room with bytes at its front, as many as it has room for
unfoldable pub loaded : List ℕ → List ℕ → List ℕ
loaded room bytes = put room 0 (take (length room) bytes)
