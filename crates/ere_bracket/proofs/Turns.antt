-- The items of a bracket do not depend on the turns, once there are more of them than bytes; so each way in which they
-- go on is an equation.
use mathlib.Core.Path.{◌≡◌, refl, sym, ap, ap₂}
use mathlib.Core.Bool.{Bool, true, false, not, cond, ◌&&◌}
use mathlib.Core.List.{List, [], ◌∷◌}
use mathlib.Core.Option.{Option, some, none}
use Prim.Native.Nat.{ℕ, zero, suc, ◌≤◌, ◌<◌}
use native.Mathlib.Nat.{le_refl}
use native.Mathlib.Omega.{arith}
use lib.ListN.{length}
use lib.Dec.{eqb, leb}
use Rattle.lists.specs.Parsing.{Parsed, parsed}
use Rattle.ere_grammar.specs.Bytes.{escape_of}
use Rattle.ere_grammar.specs.Grammar.{range}
use Rattle.ere_grammar.specs.Read.{begins, tail, escaped_byte, read_escape, read_member, joins, Items, with_range, last_hyphen, range_to, after_byte, read_items}
use Rattle.ere_bracket.specs.Items.{items_of}

-- ---- what a byte leaves is shorter than what it was read from

-- fewer than k bytes are left, if anything was read
abbrev Left : ℕ → Option (Parsed ℕ) → Type 0
Left k none = Unit
Left k (some g) = length g.rest < k

cond-left : (k : ℕ) (x : Bool) (o p : Option (Parsed ℕ)) → Left k o → Left k p → Left k (cond x o p)
cond-left k true o p h g = h
cond-left k false o p h g = g

escaped-left : (k : ℕ) (t : List ℕ) (o : Option ℕ) → length t < k → Left k (escaped_byte t o)
unfolding escaped_byte
escaped-left k t none h = tt
escaped-left k t (some c) h = h

escape_left : (k : ℕ) (t : List ℕ) → length t ≤ k → Left k (read_escape t)
unfolding read_escape
escape_left k [] h = tt
escape_left k (b ∷ t) h = escaped-left k t (escape_of b) h

member-left : (k : ℕ) (t : List ℕ) → length t ≤ k → Left k (read_member t)
unfolding read_member
member-left k [] h = tt
member-left k (b ∷ t) h =
    cond-left k (eqb b 92) (read_escape t) _ (escape_left k t (omega arith))
    (cond-left k (eqb b 91 && begins (58 ∷ 61 ∷ 46 ∷ []) t) none (parsed b t) tt h)

tail-short : (t : List ℕ) → length (tail t) ≤ length t
unfolding tail
tail-short [] = omega arith
tail-short (b ∷ t) = omega arith

-- ---- what comes after a byte depends only on shorter rests

module _ (f g : List ℕ → Items) (k : ℕ) (same : (t : List ℕ) → length t < k → f t ≡ g t) where
  up-to-same : (a : ℕ) (o : Option (Parsed ℕ)) → Left k o → range_to f a o ≡ range_to g a o
  unfolding range_to
  up-to-same a none h = refl
  up-to-same a (some m) h = ap (λ (i : Items). cond (leb a m.value) (with_range (range a m.value) i) none) (same m.rest h)

  after_same : (o : Option (Parsed ℕ)) → Left k o → after_byte f o ≡ after_byte g o
  unfolding after_byte
  after_same none h = refl
  after_same (some m) h =
      ap₂ (λ (i j : Items). cond (joins m.rest) i (with_range (range m.value m.value) j))
      (up-to-same m.value (read_member (tail m.rest)) (member-left k (tail m.rest) (omega (arith, tail-short m.rest))))
      (same m.rest h)

-- ---- turns

turns_same : (m n : ℕ) (first : Bool) (t : List ℕ) → length t < m → length t < n → read_items m first t ≡ read_items n first t
unfolding read_items
turns_same zero n first t h k = absurd (omega arith)
turns_same (suc m) zero first t h k = absurd (omega arith)
turns_same (suc m) (suc n) first [] h k = refl
turns_same (suc m) (suc n) first (b ∷ t) h k =
    ap (λ (i : Items). cond (not first && eqb b 93) (parsed [] t) (cond (not first && eqb b 45) (last_hyphen t) i))
    (after_same (read_items m false) (read_items n false) (length (b ∷ t)) (λ u s. turns_same m n false u (omega arith) (omega arith))
    (read_member (b ∷ t)) (member-left (length (b ∷ t)) (b ∷ t) (le_refl (length (b ∷ t)))))

-- with more turns than bytes, the items are the same
pub items-turns : (n : ℕ) (first : Bool) (t : List ℕ) → length t < n → read_items n first t ≡ items_of first t
unfolding items_of
items-turns n first t h = turns_same n (suc (length t)) first t h (omega arith)

-- ---- how the items go on

pub items-end : (first : Bool) → none ≡ items_of first []
unfolding items_of read_items
items-end first = refl

-- a turn of the items
items-turn : (first : Bool) (b : ℕ) (t : List ℕ)
    → items_of first (b ∷ t)
    ≡ cond (not first && eqb b 93) (parsed [] t) (cond (not first && eqb b 45) (last_hyphen t) (after_byte (items_of false) (read_member (b ∷ t))))
unfolding items_of read_items
items-turn first b t =
    ap (λ (i : Items). cond (not first && eqb b 93) (parsed [] t) (cond (not first && eqb b 45) (last_hyphen t) i))
    (after_same (read_items (suc (length t)) false) (items_of false) (length (b ∷ t)) (λ u s. items-turns (suc (length t)) false u s)
    (read_member (b ∷ t)) (member-left (length (b ∷ t)) (b ∷ t) (le_refl (length (b ∷ t)))))

-- first, no byte ends the bracket or makes a range
pub items-first : (t : List ℕ) → after_byte (items_of false) (read_member t) ≡ items_of true t
unfolding read_member after_byte
items-first [] = items-end true
items-first (b ∷ t) = sym (items-turn true b t)

pub items-later : (b : ℕ) (t : List ℕ)
    → items_of false (b ∷ t) ≡ cond (eqb b 93) (parsed [] t) (cond (eqb b 45) (last_hyphen t) (after_byte (items_of false) (read_member (b ∷ t))))
items-later b t = items-turn false b t
