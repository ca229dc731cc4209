-- Laws on the values of texts between two places.
use mathlib.Core.Path.{◌≡◌, refl, sym, ◌∙◌}
use mathlib.Core.Bool.{Bool, true, false, cond, ◌&&◌}
use mathlib.Core.List.{List, [], ◌∷◌}
use Prim.Native.Nat.{ℕ, zero, suc, ◌+◌, ◌≤◌, ◌<◌}
use native.Mathlib.Numerals.{add-one}
use native.Mathlib.Omega.{arith}
use lib.Dec.{eqb, ltb, leb}
use borrow.Author.Tests.{ltb-true, ltb-false, eqb-true, eq-eqb, ne_eqb, le-leb, lt-leb}
use lib.ListN.{length, get_or, take, drop_of_length-le}
use lib.Seq.{drop-cons, get_or-take, length-take-le}
use Rattle.lists.proofs.Tests.{clash, and-true}
use Rattle.ere_grammar.specs.Bytes.{lookup, string_escapes}
use Rattle.varint.specs.Room.{with_one, with_all}
use Rattle.program_tokens.specs.Words.{same_bytes}
use Rattle.program_tables.specs.Texts.{byte_or, unescape, between, value_of, value_in}

-- the bytes between two places: one more, and none
taken-le : (s : List ℕ) (n : ℕ) → length (take n s) ≤ n
taken-le [] zero = omega arith
taken-le [] (suc n) = omega arith
taken-le (b ∷ s) zero = omega arith
taken-le (b ∷ s) (suc n) = omega (arith, taken-le s n)

module _ (s : List ℕ) (i stop : ℕ) where
  pub between_more : i < stop → stop ≤ length s → between s i stop ≡ get_or s i 0 ∷ between s (i + 1) stop
  between_more h g =
      drop-cons (take stop s) i 0 (omega (arith, length-take-le stop s g))
      ∙ rw (get_or-take stop s i 0 h, add-one i)

  pub between-end : stop ≤ i → between s i stop ≡ []
  between-end h = drop_of_length-le (take stop s) {i = i} (omega (arith, taken-le s stop))

  pub value-end : (escapes : Bool) → stop ≤ i → value_in s escapes i stop ≡ []
  unfolding value_of unescape
  value-end true h = rw (between-end h)
  value-end false h = rw (between-end h)

-- ---- a byte of a value, by what the code tests

module _ (s : List ℕ) (i stop : ℕ) (inside : i < stop) (small : stop ≤ length s) where
  abbrev Byte : ℕ
  Byte = get_or s i 0

  -- an escape: a backslash, and a byte after it
  pub value-escape : (escapes : Bool) → (escapes && (eqb Byte 92 && ltb (i + 1) stop)) ≡ true
      → value_in s escapes i stop
      ≡ byte_or (get_or s (i + 1) 0) (lookup string_escapes (get_or s (i + 1) 0)) ∷ value_in s escapes (i + 1 + 1) stop
  unfolding value_of unescape
  value-escape false e = absurd (clash (sym e))
  value-escape true e =
      let t = and-true (eqb Byte 92) (ltb (i + 1) stop) e in
      rw (between_more s i stop inside small, t.0, between_more s (i + 1) stop (ltb-true (i + 1) stop t.1) small)

  -- any other byte
  pub value-plain : (escapes : Bool) → (escapes && (eqb Byte 92 && ltb (i + 1) stop)) ≡ false
      → value_in s escapes i stop ≡ Byte ∷ value_in s escapes (i + 1) stop
  unfolding value_of unescape
  value-plain false e = between_more s i stop inside small
  value-plain true e = rw (between_more s i stop inside small) (go (eqb Byte 92) refl (ltb (i + 1) stop) refl e)
    where
      go : (x : Bool) → eqb Byte 92 ≡ x → (y : Bool) → ltb (i + 1) stop ≡ y → (x && y) ≡ false
          → cond x (unescape true (between s (i + 1) stop)) (Byte ∷ unescape false (between s (i + 1) stop))
          ≡ Byte ∷ unescape false (between s (i + 1) stop)
      go false f y g e = refl
      go true f true g e = absurd (clash e)
      go true f false g e =
          rw (between-end s (i + 1) stop (ltb-false (i + 1) stop g), eqb-true Byte 92 f)

pub escape-inside : (s : List ℕ) (i stop : ℕ) (escapes : Bool)
    → (escapes && (eqb (get_or s i 0) 92 && ltb (i + 1) stop)) ≡ true → i + 1 < stop
escape-inside s i stop escapes e =
    ltb-true (i + 1) stop
    (and-true (eqb (get_or s i 0) 92) (ltb (i + 1) stop)
    (and-true escapes (eqb (get_or s i 0) 92 && ltb (i + 1) stop) e).1).1

-- ---- two values, byte by byte

pub both-inside : (i p j q : ℕ) → (ltb i p && ltb j q) ≡ true → (i < p) × (j < q)
both-inside i p j q e =
    let t = and-true (ltb i p) (ltb j q) e in
    (ltb-true i p t.0, ltb-true j q t.1)

module _ {l m l' m' : List ℕ} {x y : ℕ} where
  pub same_differs : l ≡ x ∷ l' → m ≡ y ∷ m' → (x ≡ y → ⊥) → same_bytes l m ≡ false
  unfolding same_bytes
  same_differs f g d = rw (f, g, ne_eqb x y d)

  pub same_next : l ≡ x ∷ l' → m ≡ y ∷ m' → x ≡ y → same_bytes l m ≡ same_bytes l' m'
  unfolding same_bytes
  same_next f g d = rw (f, g, eq-eqb x y d)

-- a value of a text that is not empty has a byte
value-some : (s : List ℕ) (escapes : Bool) (i stop : ℕ) → i < stop → stop ≤ length s
    → (x : ℕ) × (m : List ℕ) × (value_in s escapes i stop ≡ x ∷ m)
value-some s escapes i stop h g = go (escapes && (eqb (get_or s i 0) 92 && ltb (i + 1) stop)) refl
  where
    go : (t : Bool) → (escapes && (eqb (get_or s i 0) 92 && ltb (i + 1) stop)) ≡ t
        → (x : ℕ) × (m : List ℕ) × (value_in s escapes i stop ≡ x ∷ m)
    go true e = (_, _, value-escape s i stop h g escapes e)
    go false e = (_, _, value-plain s i stop h g escapes e)

module _ (s : List ℕ) (escapes : Bool) (i p j q : ℕ) (first : i < p → p ≤ length s)
    (second : j < q → q ≤ length s) where
  pub same_ends : (ltb i p && ltb j q) ≡ false
      → same_bytes (value_in s escapes i p) (value_in s escapes j q) ≡ (leb p i && leb q j)
  unfolding same_bytes
  same_ends e = go (ltb i p) refl (ltb j q) refl e
    where
      go : (x : Bool) → ltb i p ≡ x → (y : Bool) → ltb j q ≡ y → (x && y) ≡ false
          → same_bytes (value_in s escapes i p) (value_in s escapes j q) ≡ (leb p i && leb q j)
      go true f true g e = absurd (clash e)
      go true f false g e =
          let v = value-some s escapes i p (ltb-true i p f) (first (ltb-true i p f)) in
          rw (v.2, value-end s j q escapes (ltb-false j q g), lt-leb p i (ltb-true i p f))
      go false f true g e =
          let v = value-some s escapes j q (ltb-true j q g) (second (ltb-true j q g)) in
          rw (
            v.2,
            value-end s i p escapes (ltb-false i p f),
            lt-leb q j (ltb-true j q g),
            le-leb p i (ltb-false i p f),
          )
      go false f false g e =
          rw (
            value-end s i p escapes (ltb-false i p f),
            value-end s j q escapes (ltb-false j q g),
            le-leb p i (ltb-false i p f),
            le-leb q j (ltb-false j q g),
          )

-- ---- a value written byte by byte

module _ (room : List ℕ) (n : ℕ) {room' v v' : List ℕ} {b : ℕ} where
  pub put_next : v ≡ b ∷ v' → room' ≡ with_one room n b → with_all room n v ≡ with_all room' (n + 1) v'
  unfolding with_all
  put_next f g = rw (f, g, add-one n)

pub put-none : (room : List ℕ) (n : ℕ) {v : List ℕ} → v ≡ [] → with_all room n v ≡ room
unfolding with_all
put-none room n f = rw f
