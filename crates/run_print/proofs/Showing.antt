-- A slot's text is shown: each value, each text that was in its slot and all that the room stands for are as they were.
use mathlib.Core.Path.{◌≡◌, refl, sym, ap, subst, ◌∙◌}
use mathlib.Core.List.{List}
use Prim.Native.Nat.{ℕ, ◌+◌, ◌-◌, ◌*◌, ◌≤◌, ◌<◌}
use native.Mathlib.Omega.{arith}
use native.Mathlib.Decide.{ℕ_discrete, dec_lt}
use lib.ListN.{length}
use borrow.Rule.Slice.PartMut.{mid_of}
use Rattle.edition.specs.Limits.{text_bytes}
use Rattle.buffer.specs.Parts.{part}
use Rattle.buffer.proofs.Parts.{length_part}
use Rattle.buffer.proofs.Lent.{part-lent}
use Rattle.splitting.specs.Separator.{Separator}
use Rattle.values.specs.Value.{Value, text_of}
use Rattle.run_room.specs.Layout.{head_size, slot_bytes, slot_count, slots_end}
use Rattle.run_room.specs.Room.{slot_at, Store, store_of}
use Rattle.run_room.specs.Held.{SlotHeld, Held, Slotted, Shown, Did}
use Rattle.run_room.specs.declared.lines.Line.{Line}
use Rattle.run_room.proofs.Outside.{outside-same, part-before, part-after}
use Rattle.run_room.proofs.Slotwise.{slot-before, slot-after}
use Rattle.run_room.proofs.Stored.{store-slot, held-slot}
use Rattle.run_print.specs.Prints.{InSlot, Kept}

-- ---- the other slots

module _ {From : Type 0} (x y : List ℕ) (i : ℕ) (v : Value) (o : Slotted x y i v From) where
  pub slot-other : (j : ℕ) → (j ≡ i → ⊥) → slot_at y j ≡ slot_at x j
  slot-other j ne =
      elim (dec_lt j i) [
        | yes p ↦ slot-before (i * slot_bytes) (i * slot_bytes + slot_bytes) x y j o.outside (omega arith)
        | no p ↦ slot-after (i * slot_bytes) (i * slot_bytes + slot_bytes) x y j o.outside (omega arith)
      ]

  text-other : (j n : ℕ) → (j ≡ i → ⊥) → n ≤ text_bytes
      → part (j * slot_bytes + head_size) n y ≡ part (j * slot_bytes + head_size) n x
  text-other j n ne h =
      elim (dec_lt j i) [
        | yes p ↦
            part-before (i * slot_bytes) (i * slot_bytes + slot_bytes) (j * slot_bytes + head_size) n o.outside
            (omega arith)
        | no p ↦
            part-after (i * slot_bytes) (i * slot_bytes + slot_bytes) (j * slot_bytes + head_size) n o.outside
            (omega arith)
      ]

-- ---- a slot that has its own value again

module _ (x y : List ℕ) (i : ℕ) (o : Slotted x y i (slot_at x i) (SlotHeld x i)) (inside : i < slot_count) where
  pub store-again : (l : Line) (s : Separator) → store_of y l s ≡ store_of x l s
  store-again l s =
      store-slot x y l i (slot_at x i) o inside s
      ∙ sym (store-slot {From = SlotHeld x i} x x l i (slot_at x i)
      (record { outside = outside-same (i * slot_bytes) (i * slot_bytes + slot_bytes) x; value = refl; held = λ h. h })
      inside s)

  pub held-again : (l : Line) → Held x l → Held y l
  held-again l h = held-slot x y l i (slot_at x i) o inside (h.slots i inside) h

  pub slot-again : (j : ℕ) → slot_at y j ≡ slot_at x j
  slot-again j =
      elim (ℕ_discrete j i) [
        | yes e ↦ ap (slot_at y) e ∙ o.value ∙ ap (slot_at x) (sym e)
        | no ne ↦ slot-other x y i (slot_at x i) o j ne
      ]

  -- what is done after that
  pub did-again : (z : List ℕ) (f : Store → Store) (l : Line)
      → Did y l z l (length z ≡ length y) ((s : Separator) → store_of z l s ≡ f (store_of y l s))
      → Did x l z l (length z ≡ length x) ((s : Separator) → store_of z l s ≡ f (store_of x l s))
  did-again z f l d =
      record {
        safe = d.safe ∙ o.outside.size;
        next = λ h.
            let n = d.next (held-again l h) in
            (n.0, λ s. n.1 s ∙ ap f (store-again l s));
      }

-- ---- texts in their slots

pub in-length : (x : List ℕ) (i n : ℕ) → slots_end ≤ length x → i < slot_count → InSlot x i n
    → length (text_of (slot_at x i)) ≡ n
in-length x i n fits inside t =
    ap length (sym t.bytes) ∙ length_part (i * slot_bytes + head_size) n x (omega (arith, t.most))

-- what is lent of such a slot
pub in_lent : (x : List ℕ) (i n from : ℕ) → from ≡ i * slot_bytes + head_size → InSlot x i n
    → mid_of from (from + n - from) x ≡ text_of (slot_at x i)
in_lent x i n from e t = part-lent x from (from + n) n refl ∙ ap (λ (p : ℕ). part p n x) e ∙ t.bytes

pub shown-in : (x y : List ℕ) (i n : ℕ) → Shown x y i n → InSlot y i n
shown-in x y i n o = record { most = o.most; bytes = o.bytes ∙ ap text_of (sym o.slotted.value) }

module _ (x y : List ℕ) (i n : ℕ) (fits : slots_end ≤ length x) (inside : i < slot_count) (o : Shown x y i n) where
  pub shown-length : length (text_of (slot_at x i)) ≡ n
  shown-length =
      ap length (ap text_of (sym o.slotted.value))
      ∙ in-length y i n (omega (arith, o.slotted.outside.size)) inside (shown-in x y i n o)

  in-same : (m : ℕ) → InSlot x i m → InSlot y i m
  in-same m t = subst (InSlot y i) (sym shown-length ∙ in-length x i m fits inside t) (shown-in x y i n o)

  in_kept : (j m : ℕ) → j < slot_count → InSlot x j m → InSlot y j m
  in_kept j m h t =
      elim (ℕ_discrete j i) [
        | yes e ↦
            subst (λ (k : ℕ). InSlot y k m) (sym e) (in-same m (subst (λ (k : ℕ). InSlot x k m) e t))
        | no ne ↦
            record {
              most = t.most;
              bytes =
                  text-other x y i (slot_at x i) o.slotted j m ne t.most
                  ∙ t.bytes
                  ∙ ap text_of (sym (slot-other x y i (slot_at x i) o.slotted j ne));
            }
      ]

  pub kept-shown : Kept x y
  kept-shown =
      record {
        size = o.slotted.outside.size;
        slots = λ j h. slot-again x y i o.slotted inside j;
        texts = in_kept;
        store = store-again x y i o.slotted inside;
        held = held-again x y i o.slotted inside;
      }

-- ---- one after the other

pub kept-none : (x : List ℕ) → Kept x x
kept-none x = record { size = refl; slots = λ i h. refl; texts = λ i n h t. t; store = λ l s. refl; held = λ l h. h }

pub kept_on : {x y z : List ℕ} → Kept x y → Kept y z → Kept x z
kept_on a b =
    record {
      size = b.size ∙ a.size;
      slots = λ i h. b.slots i h ∙ a.slots i h;
      texts = λ i n h t. b.texts i n h (a.texts i n h t);
      store = λ l s. b.store l s ∙ a.store l s;
      held = λ l h. b.held l (a.held l h);
    }

pub did-kept : {Safe E : Type 0} (x y : List ℕ) (l : Line) → Kept x y → Safe → E
    → Did x l y l Safe (((s : Separator) → store_of y l s ≡ store_of x l s) × E)
did-kept x y l k safe e = record { safe = safe; next = λ h. (k.held l h, (k.store l, e)) }
