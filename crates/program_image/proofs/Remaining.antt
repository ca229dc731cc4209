-- Bytes written to a room one part after the other.
use mathlib.Core.Path.{◌≡◌, refl, sym, ap, ◌∙◌}
use mathlib.Core.List.{List, [], ◌∷◌, ◌++◌}
use Prim.Native.Nat.{ℕ, suc, ◌+◌, ◌≤◌}
use native.Mathlib.Omega.{arith}
use lib.ListN.{length, drop, length-append}
use Rattle.varint.specs.Room.{with_all}
use Rattle.varint.proofs.Words.{one_set, all_append, all-fits}
use Rattle.program_image.specs.Written.{Writes}

pub writes-by : {room room' l : List ℕ} {k r : ℕ} → (r ≡ k + length l) × (room' ≡ with_all room k l)
    → Writes room k l r room'
writes-by p = record { after = p.0; written = p.1 }

-- one part, and another
pub writes-both : {room room' room'' : List ℕ} {k i r : ℕ} (a b : List ℕ) → Writes room k a i room'
    → Writes room' i b r room'' → Writes room k (a ++ b) r room''
writes-both {room} {room'} {room''} {k} {i} {r} a b v w =
    record {
      after = omega (arith, v.after, w.after, length-append a b);
      written = w.written ∙ rw (v.written, v.after) (sym (all_append room k a b));
    }

-- the same bytes, by another name
pub writes-same : {room room' l m : List ℕ} {k r : ℕ} → l ≡ m → Writes room k l r room' → Writes room k m r room'
writes-same {room} {room'} {l} {m} {k} {r} e w =
    record { after = w.after ∙ ap (λ (t : List ℕ). k + length t) e; written = w.written ∙ ap (with_all room k) e }

-- ---- what is left to write: with it, a room comes to what the whole makes of the first

module _ (room₀ : List ℕ) (k : ℕ) (whole : List ℕ) where
  pub record Left (room : List ℕ) (at : ℕ) (rest : List ℕ) : Type 0 where
    pub count : at + length rest ≡ k + length whole
    pub same : with_all room at rest ≡ with_all room₀ k whole

  pub left-start : {rest : List ℕ} → rest ≡ whole → Left room₀ k rest
  left-start e = record { count = ap (λ (t : List ℕ). k + length t) e; same = ap (with_all room₀ k) e }

  pub left-more : {room room' rest : List ℕ} {at r : ℕ} (one rest' : List ℕ) → rest ≡ one ++ rest'
      → Left room at rest → Writes room at one r room' → Left room' r rest'
  left-more {room} {room'} {rest} {at} {r} one rest' e p w =
      record {
        count = omega (arith, p.count, w.after, ap length e, length-append one rest');
        same =
            rw (w.written, w.after)
            (sym (all_append room at one rest') ∙ (ap (with_all room at) (sym e) ∙ p.same));
      }

  pub left-none : {room rest : List ℕ} {at : ℕ} → rest ≡ [] → Left room at rest → Writes room₀ k whole at room
  unfolding with_all
  left-none {room} {rest} {at} e p =
      record {
        after = omega (arith, p.count, ap length e);
        written = ap (with_all room at) (sym e) ∙ p.same;
      }

-- what fits is all there, and the rest of the room is as it was
pub all_there : (room l : List ℕ) → length l ≤ length room → with_all room 0 l ≡ l ++ drop (length l) room
all_there room l h =
    let none : 0 + length l ≡ length l = omega arith in
    all-fits room 0 l (omega (arith, h)) ∙ rw none

-- and an empty room stays so: writing to it only measures
pub none-there : (k : ℕ) (l : List ℕ) → with_all [] k l ≡ []
unfolding with_all
none-there k [] = refl
none-there k (x ∷ l) =
    ap (λ (room : List ℕ). with_all room (suc k) l) (one_set [] k x) ∙ none-there (suc k) l
