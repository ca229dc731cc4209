-- What operations leave in the room, one after the other.
use mathlib.Core.Path.{◌≡◌, refl, sym, ap, subst, ◌∙◌}
use mathlib.Core.List.{List}
use Prim.Native.Nat.{ℕ, ◌+◌, ◌<◌}
use native.Mathlib.Omega.{arith}
use lib.ListN.{set}
use lib.Seq.{set-get_or}
use Rattle.splitting.specs.Separator.{Separator}
use Rattle.values.specs.Value.{Value, unset, stop, Result, gives, stops}
use Rattle.run_room.specs.Layout.{slot_count}
use Rattle.run_room.specs.Room.{slot_at, slots_from, Store, store_of, with_slot}
use Rattle.run_room.specs.Held.{Slotted, Shown}
use Rattle.run_room.specs.declared.lines.Line.{Line}
use Rattle.run_room.proofs.Slotwise.{get_d-slots}
use Rattle.run_room.proofs.Stored.{did-slot, did_nothing, did_so}
use Rattle.run_values.specs.Left.{Kept, LeftBy, Left, Unchanged}

-- ---- nothing has changed

-- the store with the value that a slot has
slots-own : (x : List ℕ) (n i : ℕ) → i < n → set (slots_from 0 n x) i (slot_at x i) ≡ slots_from 0 n x
slots-own x n i h =
    let e : 0 + i ≡ i = omega arith in
    ap (set (slots_from 0 n x) i) (sym (get_d-slots n 0 x i h ∙ ap (slot_at x) e)) ∙ set-get_or (slots_from 0 n x) i unset

store-own : (x : List ℕ) (l : Line) (s : Separator) (i : ℕ) → i < slot_count
    → with_slot (store_of x l s) i (slot_at x i) ≡ store_of x l s
unfolding store_of
store-own x l s i h = rw (slots-own x slot_count i h)

pub same-room : (x : List ℕ) → Unchanged x x
same-room x l = did_nothing x l refl (λ s. refl)

pub same-shown : (x y : List ℕ) (i r : ℕ) → i < slot_count → Shown x y i r → Unchanged x y
same-shown x y i r h o l =
    did_so (λ e s. e s ∙ store-own x l s i h)
    (did-slot x y l i (slot_at x i) o.slotted h o.slotted.outside.size (λ k. k.slots i h))

-- ---- one operation after the other

kept_on : {x y z : List ℕ} (E F G : Store → Store → Type 0) → ((a b c : Store) → E a b → F b c → G a c)
    → Kept x y E → Kept y z F → Kept x z G
kept_on E F G f d e l =
    record {
      safe = (e l).safe ∙ (d l).safe;
      next = λ h.
          let k = (d l).next h in
          let m = (e l).next k.0 in
          (m.0, λ s. f _ _ _ (k.1 s) (m.1 s));
    }

abbrev Same : Store → Store → Type 0
Same before after = after ≡ before

pub same-on : {x y z : List ℕ} → Unchanged x y → Unchanged y z → Unchanged x z
same-on = kept_on Same Same Same (λ a b c e f. f ∙ e)

-- ---- a value is left, or the operation stops

module _ (a n : ℕ) (q : Result Value) {x y : List ℕ} where
  pub left_is : (r : Result Value) → r ≡ q → Left x y a n r → Left x y a n q
  left_is r e d = subst (λ (p : Result Value). Left x y a n p) e d

  pub left-stops : q ≡ stops (stop n) → (n ≡ 0 → ⊥) → Unchanged x y → Left x y a n q
  left-stops e ne u = left_is (stops (stop n)) (sym e) (λ l. did_so (λ f s. (refl, ne, f s)) (u l))

-- a slot is set, after operations that change nothing
pub left-slot : (a : ℕ) (q : Result Value) (v : Value) {x y z : List ℕ} → q ≡ gives v → a < slot_count → Unchanged x y
    → Slotted y z a v Unit → Left x z a 0 q
left-slot a q v {x} {y} {z} e h u o =
    left_is a 0 q (gives v) (sym e)
    (kept_on Same (LeftBy (gives v) a 0) (LeftBy (gives v) a 0)
    (λ b c d f g. subst (λ (st : Store). LeftBy (gives v) a 0 st d) f g)
    u
    (λ l. did_so (λ f s. (refl, f s)) (did-slot y z l a v o h o.outside.size (λ k. tt))))
