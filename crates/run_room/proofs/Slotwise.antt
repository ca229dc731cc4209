-- Laws on slots.
use mathlib.Core.Path.{◌≡◌, refl, sym, ap, ap₂, ◌∙◌}
use mathlib.Core.List.{List, [], ◌∷◌, ◌++◌}
use Prim.Native.Nat.{ℕ, zero, suc, ◌+◌, ◌*◌, ◌/◌, ◌%◌, ◌≤◌, ◌<◌, ◌^◌, min}
use native.Mathlib.Omega.{arith}
use native.Mathlib.Decide.{ℕ_discrete, dec_le}
use lib.ListN.{length, take, drop, get_or, set, length-set, length-append}
use lib.Seq.{take-take, ext_get_or, get_or-set_same, get_or-set_other}
use Rattle.buffer.specs.Parts.{part, put}
use Rattle.little_endian.specs.Words.{le_bytes, le_value}
use Rattle.buffer.proofs.Parts.{length_part, length-put, put-append, part-part, part-put-same, part-put-above, part-put-below}
use Rattle.little_endian.proofs.Numbers.{le-round}
use mathlib.Core.Bool.{true, false, true≢false, false≢true}
use Rattle.values.specs.Value.{Value, unset, number, text, field_text, text_of}
use Rattle.decimals.specs.Decimal.{decimal_text}
use Rattle.edition.specs.Limits.{text_bytes}
use Rattle.run_room.specs.Layout.{block_size, head_size, slot_bytes}
use Rattle.run_room.specs.Room.{word_at, value_by, head_of, size_in, slot_at, slots_from, kind_of, is_number, Outside, Numbered, Texted}
use Rattle.run_room.specs.Held.{SlotHeld, Slotted, Shown}
use Rattle.run_room.proofs.Kept.{fresh-slot, copied-slot}
use Rattle.number.specs.Range.{unbias, top}
use Rattle.run_room.proofs.Outside.{part-before, part-after, outside-same, outside-put, outside-on}

-- ---- heads

pub head-put : (l : List ℕ) (a k n w : ℕ) {x y : List ℕ} → a + 16 ≤ length l → x ≡ put l a (le_bytes 8 (k + 65536 * n)) → y ≡ put x (a + 8) (le_bytes 8 w)
    → y ≡ put l a (head_of k n w)
unfolding head_of
head-put l a k n w h ex ey =
    ey ∙ ap (λ (r : List ℕ). put r (a + 8) (le_bytes 8 w)) ex ∙ put-append l a (le_bytes 8 (k + 65536 * n)) (le_bytes 8 w) (let z : a + 8 + 8 ≤ length l = omega arith in z)

-- the first word of a part, whatever comes after it, and the second
first_word : (room : List ℕ) (a h : ℕ) (g : List ℕ) → part a (8 + length g) room ≡ le_bytes 8 h ++ g → h < 2 ^ 64 → word_at room a ≡ h
unfolding word_at part
first_word room a h g e small =
    let z : a + 0 ≡ a = omega arith in
    ap le_value (ap (λ (m : ℕ). part m 8 room) (sym z) ∙ sym (part-part room a (8 + length g) 0 8 (omega arith)) ∙ ap (part 0 8) e)
    ∙ le-round 8 h small

second_word : (room : List ℕ) (a h w : ℕ) → part a 16 room ≡ le_bytes 8 h ++ le_bytes 8 w → w < 2 ^ 64 → word_at room (a + 8) ≡ w
unfolding word_at part
second_word room a h w e small =
    ap le_value (sym (part-part room a 16 8 8 (omega arith)) ∙ ap (part 8 8) e)
    ∙ le-round 8 w small

-- what is packed in one word
pub low_part : (k m : ℕ) → k < 256 → (k + 256 * m) % 256 ≡ k
low_part k m h = omega arith

pub high_part : (k n : ℕ) → k < 65536 → (k + 65536 * n) / 65536 ≡ n
high_part k n h = omega arith

kind-in : (x k n : ℕ) → x ≡ k + 65536 * n → k < 256 → x % 256 ≡ k
kind-in x k n e h = let z : x ≡ k + 256 * (256 * n) = omega arith in ap (λ (y : ℕ). y % 256) z ∙ low_part k (256 * n) h

size_in_lem : (x k n : ℕ) → x ≡ k + 65536 * n → k < 256 → n ≤ text_bytes → size_in x ≡ n
size_in_lem x k n e h g =
    let z : x / 65536 ≡ n = ap (λ (y : ℕ). y / 65536) e ∙ high_part k n (omega arith) in
    omega arith

-- a slot with such a first word
slot_is : (room : List ℕ) (i k n : ℕ) → word_at room (i * slot_bytes) ≡ k + 65536 * n → k < 256 → n ≤ text_bytes
    → slot_at room i ≡ value_by k (word_at room (i * slot_bytes + 8)) (part (i * slot_bytes + head_size) n room)
unfolding slot_at
slot_is room i k n e hk hn =
    let h = word_at room (i * slot_bytes) in
    ap₂ (λ (x m : ℕ). value_by x (word_at room (i * slot_bytes + 8)) (part (i * slot_bytes + head_size) m room)) (kind-in h k n e hk) (size_in_lem h k n e hk hn)

-- ---- a number is its head alone

head-words : (x y : List ℕ) (a : ℕ) → part a head_size y ≡ part a head_size x → (word_at y a ≡ word_at x a) × (word_at y (a + 8) ≡ word_at x (a + 8))
unfolding word_at
head-words x y a e =
    let z : a + 0 ≡ a = omega arith in
    let at : (l : List ℕ) → part a 8 l ≡ part 0 8 (part a head_size l) =
    λ l. ap (λ (m : ℕ). part m 8 l) (sym z) ∙ sym (part-part l a head_size 0 8 (omega arith)) in
    let on : (l : List ℕ) → part (a + 8) 8 l ≡ part 8 8 (part a head_size l) = λ l. sym (part-part l a head_size 8 8 (omega arith)) in
    (ap le_value (at y ∙ ap (part 0 8) e ∙ sym (at x)), ap le_value (on y ∙ ap (part 8 8) e ∙ sym (on x)))

number-any : (k w : ℕ) (t u : List ℕ) (z : ℕ) → value_by k w t ≡ number (unbias z) → value_by k w u ≡ value_by k w t
unfolding value_by
number-any zero w t u z e = refl
number-any (suc zero) w t u z e = refl
number-any (suc (suc zero)) w t u z e = absurd (true≢false (sym (ap is_number e)))
number-any (suc (suc (suc k))) w t u z e = absurd (true≢false (sym (ap is_number e)))

number-kept : (x y : List ℕ) (i w : ℕ) → slot_at x i ≡ number (unbias w) → part (i * slot_bytes) head_size y ≡ part (i * slot_bytes) head_size x
    → slot_at y i ≡ slot_at x i
unfolding slot_at
number-kept x y i w e h =
    let g = head-words x y (i * slot_bytes) h in
    let u = part (i * slot_bytes + head_size) (size_in (word_at x (i * slot_bytes))) y in
    ap₂ (λ (m n : ℕ). value_by (m % 256) n (part (i * slot_bytes + head_size) (size_in m) y)) g.0 g.1
    ∙ number-any (word_at x (i * slot_bytes) % 256) (word_at x (i * slot_bytes + 8)) _ u w e

-- ---- the frame

-- slots whose bytes are as they were
slot_same : (x y : List ℕ) (i j : ℕ) → word_at y (i * slot_bytes) ≡ word_at x (j * slot_bytes) → word_at y (i * slot_bytes + 8) ≡ word_at x (j * slot_bytes + 8)
    → part (i * slot_bytes + head_size) (size_in (word_at x (j * slot_bytes))) y ≡ part (j * slot_bytes + head_size) (size_in (word_at x (j * slot_bytes))) x → slot_at y i ≡ slot_at x j
unfolding slot_at
slot_same x y i j e f g =
    ap₂ (λ (h w : ℕ). value_by (h % 256) w (part (i * slot_bytes + head_size) (size_in h) y)) e f
    ∙ ap (value_by (word_at x (j * slot_bytes) % 256) (word_at x (j * slot_bytes + 8))) g

pub slot-before : (a e : ℕ) (x y : List ℕ) (i : ℕ) → Outside a e x y → i * slot_bytes + (head_size + text_bytes) ≤ a → slot_at y i ≡ slot_at x i
unfolding word_at
slot-before a e x y i o h =
    slot_same x y i i (ap le_value (part-before a e (i * slot_bytes) 8 o (omega arith))) (ap le_value (part-before a e (i * slot_bytes + 8) 8 o (omega arith)))
    (part-before a e (i * slot_bytes + head_size) (size_in (le_value (part (i * slot_bytes) 8 x))) o (omega arith))

pub slot-after : (a e : ℕ) (x y : List ℕ) (i : ℕ) → Outside a e x y → e ≤ i * slot_bytes → slot_at y i ≡ slot_at x i
unfolding word_at
slot-after a e x y i o h =
    slot_same x y i i (ap le_value (part-after a e (i * slot_bytes) 8 o (omega arith))) (ap le_value (part-after a e (i * slot_bytes + 8) 8 o (omega arith)))
    (part-after a e (i * slot_bytes + head_size) (size_in (le_value (part (i * slot_bytes) 8 x))) o (omega arith))

pub length-slots : (n i : ℕ) (room : List ℕ) → length (slots_from i n room) ≡ n
unfolding slots_from
length-slots zero i room = refl
length-slots (suc n) i room = ap suc (length-slots n (suc i) room)

pub get_d-slots : (n i : ℕ) (room : List ℕ) (k : ℕ) → k < n → get_or (slots_from i n room) k unset ≡ slot_at room (i + k)
unfolding slots_from
get_d-slots zero i room k h = absurd (omega arith)
get_d-slots (suc n) i room zero h = let e : i ≡ i + 0 = omega arith in ap (slot_at room) e
get_d-slots (suc n) i room (suc k) h =
    let e : suc i + k ≡ i + suc k = omega arith in
    get_d-slots n (suc i) room k (omega arith) ∙ ap (slot_at room) e

-- bytes after all slots
pub slots-before : (a e : ℕ) (x y : List ℕ) (n i : ℕ) → Outside a e x y → (i + n) * slot_bytes ≤ a → slots_from i n y ≡ slots_from i n x
unfolding slots_from
slots-before a e x y zero i o h = refl
slots-before a e x y (suc n) i o h = ap₂ ◌∷◌ (slot-before a e x y i o (omega arith)) (slots-before a e x y n (suc i) o (omega arith))

-- Slot i has become v: the list of values has v there, and what is after the slots is as it was.
module _ {From : Type 0} (x y : List ℕ) (n i : ℕ) (v : Value) (o : Slotted x y i v From) (inside : i < n) where
  at : (k : ℕ) → k < n → Dec (k ≡ i) → slot_at y k ≡ get_or (set (slots_from 0 n x) i v) k unset
  at k h (yes e) =
      ap (slot_at y) e
      ∙ o.value
      ∙ sym (get_or-set_same (slots_from 0 n x) i v unset (rw length-slots inside))
      ∙ ap (λ (j : ℕ). get_or (set (slots_from 0 n x) i v) j unset) (sym e)
  at k h (no ne) =
      let e : 0 + k ≡ k = omega arith in
      elim (dec_le (k + 1) i) [
        | yes p ↦ slot-before (i * slot_bytes) (i * slot_bytes + slot_bytes) x y k o.outside (omega arith)
        | no p ↦ slot-after (i * slot_bytes) (i * slot_bytes + slot_bytes) x y k o.outside (omega arith)
      ]
      ∙ sym (get_or-set_other (slots_from 0 n x) i k v unset ne ∙ get_d-slots n 0 x k h ∙ ap (slot_at x) e)

  pub slots-put : slots_from 0 n y ≡ set (slots_from 0 n x) i v
  slots-put =
      ext_get_or unset _ _ (simp (length-set, length-slots))
      (λ k h.
      let h' : k < n = rw length-slots at h in
      let e : 0 + k ≡ k = omega arith in
      get_d-slots n 0 y k h' ∙ ap (slot_at y) e ∙ at k h' (ℕ_discrete k i))

  pub after-put : (a k : ℕ) → n * slot_bytes ≤ a → part a k y ≡ part a k x
  after-put a k h = part-after (i * slot_bytes) (i * slot_bytes + slot_bytes) a k o.outside (omega arith)

-- ---- parts of what was put

part-in-put : (l : List ℕ) (a : ℕ) (b : List ℕ) → a + length b ≤ length l → (k m : ℕ) → k + m ≤ length b → part (a + k) m (put l a b) ≡ part k m b
part-in-put l a b h k m g = sym (part-part (put l a b) a (length b) k m g) ∙ ap (part k m) (part-put-same l a b h)

pub part-less : (a n m : ℕ) (l : List ℕ) → n ≤ m → take n (part a m l) ≡ part a n l
unfolding part
part-less a n m l h = take-take n m (drop a l) h

-- ---- writers

-- the word of a kind and a text length at the front of slot i, and right after it g: nothing, or the number's word
module _ (x : List ℕ) (i k n : ℕ) (g : List ℕ) (inside : i * slot_bytes + slot_bytes ≤ length x) (hk : k < 256) (hn : n ≤ text_bytes) (hg : length g ≤ 8) where
  abbrev front : List ℕ
  front = le_bytes 8 (k + 65536 * n) ++ g

  length_front : length front ≡ 8 + length g
  length_front = length-append (le_bytes 8 (k + 65536 * n)) g

  -- it is there once it is put, and stays where bytes are put after the head
  front-there : {y : List ℕ} → y ≡ put x (i * slot_bytes) front → part (i * slot_bytes) (8 + length g) y ≡ front
  front-there e = ap₂ (λ (m : ℕ) (l : List ℕ). part (i * slot_bytes) m l) (sym length_front) e ∙ part-put-same x (i * slot_bytes) front (omega (arith, length_front))

  front-size : {y : List ℕ} → y ≡ put x (i * slot_bytes) front → length y ≡ length x
  front-size e = ap length e ∙ length-put x (i * slot_bytes) front (omega (arith, length_front))

  front_kept : {y z : List ℕ} (b : List ℕ) → length b ≤ text_bytes + block_size → y ≡ put x (i * slot_bytes) front → z ≡ put y (i * slot_bytes + head_size) b
      → part (i * slot_bytes) (8 + length g) z ≡ front
  front_kept {y} b most e f =
      let ly : length y ≡ length x = front-size e in
      ap (part (i * slot_bytes) (8 + length g)) f ∙ part-put-below y (i * slot_bytes + head_size) b (omega arith) (i * slot_bytes) (8 + length g) (omega arith) ∙ front-there e

  front-value : (y : List ℕ) → part (i * slot_bytes) (8 + length g) y ≡ front → slot_at y i ≡ value_by k (word_at y (i * slot_bytes + 8)) (part (i * slot_bytes + head_size) n y)
  front-value y e = slot_is y i k n (first_word y (i * slot_bytes) (k + 65536 * n) g e (omega arith)) hk hn

  -- the front alone
  pub slotted-front : {y : List ℕ} → y ≡ put x (i * slot_bytes) (le_bytes 8 (k + 65536 * n) ++ g)
      → Slotted x y i (value_by k (word_at y (i * slot_bytes + 8)) (part (i * slot_bytes + head_size) n x)) Unit
  slotted-front {y} e =
      let text : part (i * slot_bytes + head_size) n y ≡ part (i * slot_bytes + head_size) n x =
      ap (part (i * slot_bytes + head_size) n) e ∙ part-put-above x (i * slot_bytes) front (omega (arith, length_front)) (i * slot_bytes + head_size) n (omega (arith, length_front)) in
      record {
        outside = rw e (outside-put (i * slot_bytes) (i * slot_bytes + slot_bytes) x (i * slot_bytes) front (omega arith) (omega (arith, length_front)) (omega (arith, length_front)));
        value = front-value y (front-there e) ∙ ap (value_by k (word_at y (i * slot_bytes + 8))) text;
        held = λ f. fresh-slot y i;
      }

  -- the front, and bytes after the head
  slotted-text : {y z : List ℕ} (b : List ℕ) → n ≤ length b → length b ≤ text_bytes + block_size → y ≡ put x (i * slot_bytes) (le_bytes 8 (k + 65536 * n) ++ g)
      → z ≡ put y (i * slot_bytes + head_size) b → Slotted x z i (value_by k (word_at z (i * slot_bytes + 8)) (take n b)) Unit
  slotted-text {y} {z} b few most e f =
      let s = slotted-front e in
      let ly : length y ≡ length x = front-size e in
      let text : part (i * slot_bytes + head_size) n z ≡ take n b =
      sym (part-less (i * slot_bytes + head_size) n (length b) z few) ∙ ap (take n) (ap (part (i * slot_bytes + head_size) (length b)) f ∙ part-put-same y (i * slot_bytes + head_size) b (omega arith)) in
      record {
        outside = outside-on (i * slot_bytes) (i * slot_bytes + slot_bytes) x y z s.outside (rw f (outside-put (i * slot_bytes) (i * slot_bytes + slot_bytes) y (i * slot_bytes + head_size) b (omega arith) (omega arith) (omega arith)));
        value = front-value z (front_kept b most e f) ∙ ap (value_by k (word_at z (i * slot_bytes + 8))) text;
        held = λ f. fresh-slot z i;
      }

pub slotted-is : {From : Type 0} (x y : List ℕ) (i : ℕ) (u v : Value) → u ≡ v → Slotted x y i u From → Slotted x y i v From
slotted-is x y i u v e s = record { outside = s.outside; value = s.value ∙ e; held = s.held }

-- with the number's word
module _ (x : List ℕ) (i k n w : ℕ) (inside : i * slot_bytes + slot_bytes ≤ length x) (hk : k < 256) (hn : n ≤ text_bytes) (hw : w < 2 ^ 64) where
  -- a head alone
  pub slotted-head : {y : List ℕ} → y ≡ put x (i * slot_bytes) (head_of k n w) → Slotted x y i (value_by k w (part (i * slot_bytes + head_size) n x)) Unit
  unfolding head_of
  slotted-head {y} e =
      let g = le_bytes 8 w in
      let number : word_at y (i * slot_bytes + 8) ≡ w = second_word y (i * slot_bytes) (k + 65536 * n) w (front-there x i k n g inside hk hn (omega arith) e) hw in
      slotted-is x y i _ _ (ap (λ (m : ℕ). value_by k m (part (i * slot_bytes + head_size) n x)) number) (slotted-front x i k n g inside hk hn (omega arith) e)

  -- a head, and a text of another part of the room, by blocks
  pub slotted-part : {y z : List ℕ} {p m : ℕ} (from : ℕ) → y ≡ put x (i * slot_bytes) (head_of k n w) → z ≡ put y p (part from m y)
      → p ≡ i * slot_bytes + head_size → n ≤ m → m ≤ text_bytes + block_size → i * slot_bytes + slot_bytes ≤ from → from + m ≤ length x
      → Slotted x z i (value_by k w (part from n x)) Unit
  unfolding head_of
  slotted-part {y} {z} {p} {m} from e f place enough most h fits =
      let g = le_bytes 8 w in
      let b = part from m y in
      let few : length g ≤ 8 = omega arith in
      let ly : length y ≡ length x = front-size x i k n g inside hk hn few e in
      let lb : length b ≡ m = length_part from m y (omega arith) in
      let f' : z ≡ put y (i * slot_bytes + head_size) b = f ∙ ap (λ (q : ℕ). put y q b) place in
      let number : word_at z (i * slot_bytes + 8) ≡ w = second_word z (i * slot_bytes) (k + 65536 * n) w (front_kept x i k n g inside hk hn few b (omega arith) e f') hw in
      let text : take n b ≡ part from n x =
      part-less from n m y (omega arith)
      ∙ ap (part from n) e
      ∙ part-put-above x (i * slot_bytes) (head_of k n w) (omega arith) from n (omega arith) in
      slotted-is x z i _ _ (ap₂ (value_by k) number text) (slotted-text x i k n g inside hk hn few b (omega arith) (omega arith) e f')

-- a whole slot copied
pub slotted-copy : (x : List ℕ) (i j n : ℕ) {y : List ℕ} {p q m : ℕ} → y ≡ put x p (part q m x) → p ≡ i * slot_bytes → q ≡ j * slot_bytes
    → head_size + n ≤ m → m ≤ slot_bytes → i * slot_bytes + slot_bytes ≤ length x → j * slot_bytes + slot_bytes ≤ length x
    → n ≡ size_in (word_at x (j * slot_bytes)) → Slotted x y i (slot_at x j) (SlotHeld x j)
unfolding word_at
slotted-copy x i j n {y} {p} {q} {m} f to from enough most hi hj en =
    let b = part (j * slot_bytes) m x in
    let e : y ≡ put x (i * slot_bytes) b = f ∙ ap₂ (λ (r u : ℕ). put x r (part u m x)) to from in
    let lb : length b ≡ m = length_part (j * slot_bytes) m x (omega arith) in
    let z : (k : ℕ) → k + 0 ≡ k = λ k. omega arith in
    let at : (k s : ℕ) → k + s ≤ m → part (i * slot_bytes + k) s y ≡ part (j * slot_bytes + k) s x =
    λ k s h. ap (part (i * slot_bytes + k) s) e ∙ part-in-put x (i * slot_bytes) b (omega arith) k s (omega arith) ∙ part-part x (j * slot_bytes) m k s h in
    record {
      outside = rw e (outside-put (i * slot_bytes) (i * slot_bytes + slot_bytes) x (i * slot_bytes) b (omega arith) (omega arith) (omega arith));
      value =
          slot_same x y i j
          (ap le_value (ap (λ (a : ℕ). part a 8 y) (sym (z (i * slot_bytes))) ∙ at 0 8 (omega arith) ∙ ap (λ (a : ℕ). part a 8 x) (z (j * slot_bytes))))
          (ap le_value (at 8 8 (omega arith)))
          (at head_size (size_in (le_value (part (j * slot_bytes) 8 x))) (omega arith));
      held = copied-slot x y j i n en (ap (λ (a : ℕ). part a (head_size + n) y) (sym (z (i * slot_bytes))) ∙ at 0 (head_size + n) (omega arith) ∙ ap (λ (a : ℕ). part a (head_size + n) x) (z (j * slot_bytes)));
    }

-- ---- numbers

number_is : (w : ℕ) (t : List ℕ) → w ≤ top → value_by 1 w t ≡ number (unbias w)
unfolding value_by
number_is w t h = let e : min w top ≡ w = omega arith in ap (λ (x : ℕ). number (unbias x)) e

pub slotted-number : {From : Type 0} (x y : List ℕ) (i w : ℕ) (t : List ℕ) → w ≤ top → Slotted x y i (value_by 1 w t) From
    → Slotted x y i (number (unbias w)) From
slotted-number x y i w t h s = slotted-is x y i _ _ (number_is w t h) s

-- a value that is a number
number_by : (k w : ℕ) (t : List ℕ) → is_number (value_by k w t) ≡ true → value_by k w t ≡ number (unbias (min w top))
unfolding value_by
number_by zero w t h = absurd (false≢true h)
number_by (suc zero) w t h = refl
number_by (suc (suc zero)) w t h = absurd (false≢true h)
number_by (suc (suc (suc k))) w t h = absurd (false≢true h)

pub numbered : (x : List ℕ) (i w r : ℕ) → w ≡ word_at x (i * slot_bytes + 8) → r ≡ min w top → Numbered x i r
unfolding slot_at
numbered x i w r e f =
    record {
      within = omega arith;
      value = λ h. number_by (word_at x (i * slot_bytes) % 256) (word_at x (i * slot_bytes + 8)) _ h ∙ ap (λ (n : ℕ). number (unbias n)) (ap (λ (n : ℕ). min n top) (sym e) ∙ sym f);
    }

-- ---- kinds

kind-by : (k w : ℕ) (t : List ℕ) → min k 3 ≡ kind_of (value_by k w t)
unfolding value_by
kind-by zero w t = omega arith
kind-by (suc zero) w t = omega arith
kind-by (suc (suc zero)) w t = omega arith
kind-by (suc (suc (suc k))) w t = omega arith

pub kind-is : (x : List ℕ) (i h : ℕ) → h ≡ word_at x (i * slot_bytes) → min (h % 256) 3 ≡ kind_of (slot_at x i)
unfolding slot_at
kind-is x i h e = ap (λ (n : ℕ). min (n % 256) 3) e ∙ kind-by (word_at x (i * slot_bytes) % 256) _ _

is-number : (v : Value) → kind_of v ≡ 1 → is_number v ≡ true
is-number unset h = absurd (omega arith)
is-number (number z) h = refl
is-number (text l) h = absurd (omega arith)
is-number (field_text l) h = absurd (omega arith)

no_number : (v : Value) → (kind_of v ≡ 1 → ⊥) → is_number v ≡ false
no_number unset h = refl
no_number (number z) h = absurd (h refl)
no_number (text l) h = refl
no_number (field_text l) h = refl

-- ---- texts

text-by : (k w : ℕ) (t : List ℕ) → 2 ≤ k → text_of (value_by k w t) ≡ t
unfolding value_by text_of
text-by zero w t h = absurd (omega arith)
text-by (suc zero) w t h = absurd (omega arith)
text-by (suc (suc zero)) w t h = refl
text-by (suc (suc (suc k))) w t h = refl

no-text-by : (k w : ℕ) (t : List ℕ) → k < 2 → is_number (value_by k w t) ≡ false → text_of (value_by k w t) ≡ []
unfolding value_by text_of
no-text-by zero w t h n = refl
no-text-by (suc zero) w t h n = absurd (true≢false n)
no-text-by (suc (suc k)) w t h n = absurd (omega arith)

module _ (x : List ℕ) (i h : ℕ) (e : h ≡ word_at x (i * slot_bytes)) where
  pub texted : (r : ℕ) → r ≡ size_in h → 2 ≤ h % 256 → Texted x i r
  unfolding slot_at
  texted r f g =
      let k = word_at x (i * slot_bytes) % 256 in
      let same : k ≡ h % 256 = ap (λ (n : ℕ). n % 256) (sym e) in
      record {
        most = omega arith;
        bytes = λ z.
            ap (λ (n : ℕ). part (i * slot_bytes + head_size) n x) (f ∙ ap size_in e)
            ∙ sym (text-by k (word_at x (i * slot_bytes + 8)) (part (i * slot_bytes + head_size) (size_in (word_at x (i * slot_bytes))) x) (omega arith));
      }

  pub texted-none : h % 256 < 2 → Texted x i 0
  unfolding slot_at part
  texted-none g =
      let k = word_at x (i * slot_bytes) % 256 in
      let same : k ≡ h % 256 = ap (λ (n : ℕ). n % 256) (sym e) in
      record { most = omega arith; bytes = λ z. sym (no-text-by k _ _ (omega arith) z) }

-- a slot that was set to a text: all of b, or the front of what was copied
text-is : (w : ℕ) (t : List ℕ) → value_by 2 w t ≡ text t
unfolding value_by
text-is w t = refl

pub slotted-words : {From : Type 0} (x y : List ℕ) (i w : ℕ) (t u : List ℕ) → t ≡ u → Slotted x y i (value_by 2 w t) From → Slotted x y i (text u) From
slotted-words x y i w t u e s = slotted-is x y i _ _ (text-is w t ∙ ap text e) s

-- its kind's word, and bytes after the head that begin with the text
pub slotted-copied : (x : List ℕ) (i n : ℕ) (b u : List ℕ) {y z : List ℕ} → i * slot_bytes + slot_bytes ≤ length x → n ≤ text_bytes → n ≤ length b
    → length b ≤ text_bytes + block_size → take n b ≡ u → y ≡ put x (i * slot_bytes) (le_bytes 8 (2 + 65536 * n))
    → z ≡ put y (i * slot_bytes + head_size) b → Slotted x z i (text u) Unit
slotted-copied x i n b u inside hn few most e f g =
    slotted-words x _ i _ _ u e (slotted-text x i 2 n [] inside (omega arith) hn (omega arith) b few most f g)

pub slotted-unset : {From : Type 0} (x y : List ℕ) (i w : ℕ) (t : List ℕ) → Slotted x y i (value_by 0 w t) From → Slotted x y i unset From
unfolding value_by
slotted-unset x y i w t s = s

-- ---- texts that are shown

-- of a value that isn't a number: nothing is written
pub shown-text : (x : List ℕ) (i k r : ℕ) → min k 3 ≡ kind_of (slot_at x i) → (k ≡ 1 → ⊥) → Texted x i r → Shown x x i r
shown-text x i k r e n t =
    record {
      slotted = record { outside = outside-same _ _ x; value = refl; held = λ h. h };
      most = t.most;
      bytes = t.bytes (no_number (slot_at x i) (λ z. n (omega arith)));
    }

digits : (w : ℕ) → text_of (number (unbias w)) ≡ decimal_text (unbias w)
unfolding text_of
digits w = refl

-- a number's digits, after its head
pub shown-number : (x : List ℕ) (i k w r : ℕ) {y : List ℕ} → i * slot_bytes + slot_bytes ≤ length x → min k 3 ≡ kind_of (slot_at x i) → k ≡ 1 → Numbered x i w
    → r ≡ length (decimal_text (unbias w)) → length (decimal_text (unbias w)) ≤ text_bytes
    → y ≡ put x (i * slot_bytes + head_size) (decimal_text (unbias w)) → Shown x y i r
shown-number x i k w r {y} inside e one n er few f =
    let d = decimal_text (unbias w) in
    let p = i * slot_bytes + head_size in
    let z = n.value (is-number (slot_at x i) (omega arith)) in
    let head : part (i * slot_bytes) head_size y ≡ part (i * slot_bytes) head_size x =
    ap (part (i * slot_bytes) head_size) f ∙ part-put-below x p d (omega arith) (i * slot_bytes) head_size (omega arith) in
    record {
      slotted = record {
        outside = rw f (outside-put (i * slot_bytes) (i * slot_bytes + slot_bytes) x p d (omega arith) (omega arith) (omega arith));
        value = number-kept x y i w z head;
        held = λ h. fresh-slot y i;
      };
      most = omega arith;
      bytes = ap₂ (λ (m : ℕ) (l : List ℕ). part p m l) er f ∙ part-put-same x p d (omega arith) ∙ sym (ap text_of z ∙ digits w);
    }
