-- Bytes written to a room, one list after the other.
use mathlib.Core.Path.{◌≡◌, refl, sym, ap, ap₂, ◌∙◌}
use mathlib.Core.List.{List, [], ◌∷◌, ◌++◌}
use Prim.Native.Nat.{ℕ, suc, ◌+◌, ◌/◌, ◌%◌, ◌≤◌, ◌<◌, ◌^◌}
use native.Mathlib.Omega.{arith}
use lib.ListN.{length, take, drop, get_or, length-append, length-take, drop_of_length-le}
use Rattle.buffer.proofs.Parts.{drop-next}
use Rattle.decimals.specs.Decimal.{decimal_digits}
use Rattle.decimals.proofs.Decimals.{digits-small, digits_step, length-within}
use Rattle.varint.specs.Room.{with_one, with_all}
use Rattle.varint.proofs.Words.{all_append}
use Rattle.front_places.specs.Shown.{spelled}
use Rattle.front_lines.specs.Puts.{Puts}

-- one list, and then another
pub follow : {x y z : List ℕ} {k r t : ℕ} {a b : List ℕ} → Puts x k a r y → Puts y r b t z → Puts x k (a ++ b) t z
follow {x} {y} {z} {k} {r} {t} {a} {b} p q = record {
  count = omega (arith, p.count, q.count, length-append a b);
  same =
      q.same
      ∙ ap₂ (λ (l : List ℕ) (n : ℕ). with_all l n b) p.same p.count
      ∙ sym (all_append x k a b);
}

pub puts_of : {x y : List ℕ} {k r : ℕ} {a b : List ℕ} → a ≡ b → Puts x k a r y → Puts x k b r y
puts_of {x} {y} {k} {r} {a} {b} e p = record {
  count = omega (arith, p.count, ap length e);
  same = p.same ∙ ap (with_all x k) e;
}

-- how long a part is
pub span-few : (text : List ℕ) (n p : ℕ) → length (take n (drop p text)) ≤ n
span-few text n p = omega (arith, length-take n (drop p text))

-- ---- a text, byte by byte

module _ (room₀ : List ℕ) (k : ℕ) (text : List ℕ) where
  pub put_next : (room room' : List ℕ) (i : ℕ) → i < length text → with_all room₀ k text ≡ with_all room (k + i) (drop i text)
      → room' ≡ with_one room (k + i) (get_or text i 0) → with_all room₀ k text ≡ with_all room' (k + (i + 1)) (drop (i + 1) text)
  unfolding with_all
  put_next room room' i h e f =
      let z : suc (k + i) ≡ k + (i + 1) = omega arith in
      e
      ∙ ap (with_all room (k + i)) (drop-next text i h)
      ∙ ap₂ (λ (l : List ℕ) (n : ℕ). with_all l n (drop (i + 1) text)) (sym f) z

  pub put-end : (room : List ℕ) (i : ℕ) → length text ≤ i → with_all room₀ k text ≡ with_all room (k + i) (drop i text)
      → Puts room₀ k text (k + length text) room
  unfolding with_all
  put-end room i h e = record {
    count = refl;
    same = sym (e ∙ ap (with_all room (k + i)) (drop_of_length-le text {i = i} h));
  }

pub put_one : {room room' : List ℕ} {k b : ℕ} → room' ≡ with_one room k b → Puts room k (b ∷ []) (k + 1) room'
unfolding with_all
put_one e = record { count = refl; same = e }

-- ---- a number, digit by digit

pub digits-few : (n : ℕ) → n < 2 ^ 64 → length (decimal_digits n) ≤ 20
digits-few n h = length-within 19 n (omega arith)

-- those of a tenth are one fewer
pub tenth-few : (n : ℕ) → n < 2 ^ 64 → length (decimal_digits (n / 10)) ≤ 19
tenth-few n h = length-within 18 (n / 10) (omega arith)

pub put-digit : {room room' : List ℕ} {k : ℕ} (n : ℕ) → n < 10 → room' ≡ with_one room k (48 + n) → Puts room k (decimal_digits n) (k + 1) room'
put-digit {room} {room'} {k} n h e = rw (digits-small n h) (put_one e)

pub put-digits : {room room' room'' : List ℕ} {k r : ℕ} (n : ℕ) → 10 ≤ n → Puts room k (decimal_digits (n / 10)) r room'
    → room'' ≡ with_one room' r (48 + n % 10) → Puts room k (decimal_digits n) (r + 1) room''
put-digits {room} {room'} {room''} {k} {r} n h p e = rw (digits_step n h) (follow p (put_one e))

-- ---- bytes, each spelled in its way

module _ (spell : ℕ → List ℕ) (room₀ : List ℕ) (k : ℕ) (s : List ℕ) where
  -- the first i bytes are written
  pub record Spelling (room : List ℕ) (n i : ℕ) : Type 0 where
    pub count : n + length (spelled spell (drop i s)) ≡ k + length (spelled spell s)
    pub same : with_all room₀ k (spelled spell s) ≡ with_all room n (spelled spell (drop i s))

  pub spell-start : Spelling room₀ k 0
  spell-start = record { count = refl; same = refl }

  pub spell_next : (room room' : List ℕ) (n r i : ℕ) → i < length s → Spelling room n i → Puts room n (spell (get_or s i 0)) r room'
      → Spelling room' r (i + 1)
  unfolding spelled
  spell_next room room' n r i h p q =
      let b = spell (get_or s i 0) in
      let l = spelled spell (drop (i + 1) s) in
      let e : spelled spell (drop i s) ≡ b ++ l = ap (spelled spell) (drop-next s i h) in
      record {
        count = omega (arith, p.count, q.count, ap length e, length-append b l);
        same =
            p.same
            ∙ ap (with_all room n) e
            ∙ all_append room n b l
            ∙ ap₂ (λ (x : List ℕ) (m : ℕ). with_all x m l) (sym q.same) (sym q.count);
      }

  pub spell-end : (room : List ℕ) (n i : ℕ) → length s ≤ i → Spelling room n i → Puts room₀ k (spelled spell s) n room
  unfolding spelled with_all
  spell-end room n i h p =
      let e : spelled spell (drop i s) ≡ [] = ap (spelled spell) (drop_of_length-le s {i = i} h) in
      record {
        count = omega (arith, p.count, ap length e);
        same = sym (p.same ∙ ap (with_all room n) e);
      }
