-- Internal: cited by private contracts only. What a function that writes to a room does: the bytes stand from an index
-- on, as far as the room goes.
use Rattle.std.specs.Prelude.{◌≡◌, List, ℕ, ◌+◌, length}
use Rattle.varint.specs.Room.{with_all}

-- the room `before` with bytes from index k on is the room `after`, and r is the index after them
pub record Puts (before : List ℕ) (k : ℕ) (bytes : List ℕ) (r : ℕ) (after : List ℕ) : Type 0 where
  pub count : r ≡ k + length bytes
  pub same : after ≡ with_all before k bytes
