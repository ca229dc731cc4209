-- Bytes since the last newline, counted from the front of a text.
use mathlib.Core.Path.{◌≡◌, sym, ap, ◌∙◌}
use mathlib.Core.Bool.{cond}
use mathlib.Core.List.{List}
use Prim.Native.Nat.{ℕ, ◌+◌, ◌≤◌, ◌<◌}
use lib.ListN.{length, drop, get_or, drop_of_length-le}
use lib.Dec.{eqb}
use Rattle.buffer.proofs.Parts.{drop-next}
use Rattle.front_places.specs.Places.{NEWLINE, since_newline}

pub since-next : (s : List ℕ) (i n r : ℕ) → i < length s → since_newline 0 s ≡ since_newline n (drop i s)
    → r ≡ cond (eqb (get_or s i 0) NEWLINE) 0 (n + 1) → since_newline 0 s ≡ since_newline r (drop (i + 1) s)
unfolding since_newline
since-next s i n r h e f =
    e ∙ ap (since_newline n) (drop-next s i h) ∙ ap (λ (m : ℕ). since_newline m (drop (i + 1) s)) (sym f)

pub since-end : (s : List ℕ) (i n : ℕ) → length s ≤ i → since_newline n (drop i s) ≡ n
unfolding since_newline
since-end s i n h = ap (since_newline n) (drop_of_length-le s {i = i} h)
