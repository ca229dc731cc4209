-- The texts of slots that are shown, and what the operations on texts make of them.
use mathlib.Core.Path.{◌≡◌, refl, sym, ap, ap₂, ◌∙◌}
use mathlib.Core.Bool.{cond}
use mathlib.Core.List.{List, ◌++◌}
use mathlib.Core.Option.{some, none}
use Prim.Native.Nat.{ℕ, ◌+◌, ◌-◌, ◌*◌, ◌≤◌, ◌<◌}
use native.Mathlib.Omega.{arith}
use lib.IntN.{ℤ, pos, ◌+ℤ◌}
use lib.ListN.{length, take, length-append}
use lib.Dec.{eqb}
use borrow.Author.Tests.{eq-eqb, ne_eqb}
use borrow.Rule.Slice.PartMut.{mid_of}
use Rattle.edition.specs.Limits.{text_bytes, number_bound}
use Rattle.edition.specs.Outcomes.{text_too_long}
use Rattle.block_copy.specs.Rounded.{blocks}
use Rattle.buffer.specs.Parts.{part, put}
use Rattle.std.specs.Prelude as code
use Rattle.lists.specs.Answers.{option_of}
use Rattle.buffer.specs.First.{first_part}
use Rattle.buffer.proofs.Parts.{length_part, part-add, part-part, part-put-same, part-put-below}
use Rattle.buffer.proofs.First.{first-part-some}
use Rattle.buffer.proofs.Lent.{part-lent}
use Rattle.number.specs.Range.{unbias}
use Rattle.number.proofs.Bias.{unbias-plus}
use Rattle.values.specs.Value.{Value, number, text, stop, gives, stops, text_of, number_of}
use Rattle.values.specs.Operations.{join_of, length_of, place_of, index_of, between, substr_of}
use Rattle.values.proofs.Texts.{join-gives, join-stops}
use Rattle.run_room.specs.Layout.{head_size, slot_bytes, slots_end, slot_count}
use Rattle.run_room.specs.Room.{slot_at}
use Rattle.run_room.specs.Held.{Slotted, Shown}
use Rattle.run_room.proofs.Outside.{part-before, outside-put, outside-on}
use Rattle.run_room.proofs.Slotwise.{slot-after, part-less}
use Rattle.run_numbers.specs.Numbers.{TakenBy}
use Rattle.run_numbers.specs.declared.numbers.Taken.{Taken}
use Rattle.run_values.specs.Left.{Left, Unchanged}
use Rattle.run_values.proofs.Steps.{same-shown, same-on, left-slot}
use Rattle.run_values.proofs.Computing.{taken-gives}

-- ---- texts in the room

pub part-size : (p n : ℕ) (y : List ℕ) {t : List ℕ} → p + n ≤ length y → part p n y ≡ t → length t ≡ n
part-size p n y h e = sym (ap length e) ∙ length_part p n y h

pub shown-size : (x y : List ℕ) (i r : ℕ) → slots_end ≤ length x → i < slot_count → Shown x y i r
    → length (text_of (slot_at x i)) ≡ r
shown-size x y i r fits h o =
    part-size (i * slot_bytes + head_size) r y (omega (arith, o.slotted.outside.size, o.most)) o.bytes

-- two slots were shown, one after the other
pub record Pair (x z : List ℕ) (a n m : ℕ) : Type 0 where
  pub same : Unchanged x z
  pub size : length z ≡ length x
  pub left : part (a * slot_bytes + head_size) n z ≡ text_of (slot_at x a)
  pub right : part ((a + 1) * slot_bytes + head_size) m z ≡ text_of (slot_at x (a + 1))
  pub left-most : n ≤ text_bytes
  pub right-most : m ≤ text_bytes

pub pair : (x y z : List ℕ) (a n m : ℕ) → a + 1 < slot_count → Shown x y a n → Shown y z (a + 1) m → Pair x z a n m
pair x y z a n m h o q =
    let few = o.most in
    record {
      same = same-on (same-shown x y a n (omega arith) o) (same-shown y z (a + 1) m h q);
      size = q.slotted.outside.size ∙ o.slotted.outside.size;
      left =
          part-before ((a + 1) * slot_bytes) ((a + 1) * slot_bytes + slot_bytes) (a * slot_bytes + head_size) n
          q.slotted.outside (omega arith)
          ∙ o.bytes;
      right =
          q.bytes
          ∙ ap text_of
          (slot-after (a * slot_bytes) (a * slot_bytes + slot_bytes) x y (a + 1) o.slotted.outside (omega arith));
      left-most = o.most;
      right-most = q.most;
    }

module _ (x z : List ℕ) (a n m : ℕ) (fits : slots_end ≤ length x) (inside : a + 1 < slot_count) (p : Pair x z a n m) where
  pub left-size : length (text_of (slot_at x a)) ≡ n
  left-size = part-size (a * slot_bytes + head_size) n z (omega (arith, p.size, p.left-most)) p.left

  pub right-size : length (text_of (slot_at x (a + 1))) ≡ m
  right-size = part-size ((a + 1) * slot_bytes + head_size) m z (omega (arith, p.size, p.right-most)) p.right

-- the texts of two slots, where they are lent
module _ (w : List ℕ) (a : ℕ) where
  pub lent-left : (n : ℕ) → let s = a * slot_bytes + head_size in mid_of s (s + n - s) w ≡ part s n w
  lent-left n = part-lent w (a * slot_bytes + head_size) (a * slot_bytes + head_size + n) n refl

  pub lent-right : (n : ℕ) → let t = a * slot_bytes + head_size + slot_bytes in
      mid_of t (t + n - t) w ≡ part ((a + 1) * slot_bytes + head_size) n w
  lent-right n =
      let t = a * slot_bytes + head_size + slot_bytes in
      let e : t ≡ (a + 1) * slot_bytes + head_size = omega arith in
      part-lent w t (t + n) n refl ∙ ap (λ (i : ℕ). part i n w) e

  pub found_in : (n m : ℕ) (r : code.Option ℕ) → let s = a * slot_bytes + head_size in let t = s + slot_bytes in
      option_of r ≡ first_part (mid_of t (t + m - t) w) (mid_of s (s + n - s) w)
      → first_part (part ((a + 1) * slot_bytes + head_size) m w) (part (a * slot_bytes + head_size) n w) ≡ option_of r
  found_in n m r e = sym (e ∙ ap₂ first_part (lent-right m) (lent-left n))

-- ---- length and index, as distances

pub length-is : (v : Value) (n : ℕ) → length (text_of v) ≡ n → length_of v ≡ gives (number (unbias (number_bound + n)))
unfolding length_of
length-is v n e = ap (λ (z : ℤ). gives (number z)) (ap pos e ∙ sym (unbias-plus n))

pub index_is : (u v : Value) (m p : ℕ) {s t : List ℕ} → length (text_of v) ≡ m → t ≡ text_of v → s ≡ text_of u
    → p ≡ cond (eqb m 0) 0 (place_of (first_part t s)) → index_of u v ≡ gives (number (unbias (number_bound + p)))
unfolding index_of
index_is u v m p {s} {t} em et es ep =
    let place : p ≡ cond (eqb (length (text_of v)) 0) 0 (place_of (first_part (text_of v) (text_of u))) =
    ep
    ∙ ap (λ (k : ℕ). cond (eqb k 0) 0 (place_of (first_part t s))) (sym em)
    ∙ ap₂ (λ (y x : List ℕ). cond (eqb (length (text_of v)) 0) 0 (place_of (first_part y x))) et es in
    ap (λ (z : ℤ). gives (number z)) (ap pos (sym place) ∙ sym (unbias-plus p))

-- where a part was found
module _ (s t : List ℕ) (m : ℕ) where
  pub place_none : m ≡ 0 → 0 ≡ cond (eqb m 0) 0 (place_of (first_part t s))
  place_none e = rw (eq-eqb m 0 e)

  pub place-some : (k : ℕ) → (m ≡ 0 → ⊥) → first_part t s ≡ some k → k + 1 ≡ cond (eqb m 0) 0 (place_of (first_part t s))
  place-some k n e = rw (ne_eqb m 0 n, e) (omega arith)

  pub place-nowhere : (m ≡ 0 → ⊥) → first_part t s ≡ none → 0 ≡ cond (eqb m 0) 0 (place_of (first_part t s))
  place-nowhere n e = rw (ne_eqb m 0 n, e)

pub place-most : (w : List ℕ) (p n : ℕ) (t : List ℕ) (k : ℕ) → p + n ≤ length w
    → first_part t (part p n w) ≡ some k → k ≤ n
place-most w p n t k h e = omega (arith, (first-part-some t (part p n w) k e).stands.fits, length_part p n w h)

-- ---- bytes copied inside the room, by blocks

module _ (z : List ℕ) (p from k : ℕ) {w : List ℕ} (e : w ≡ put z p (part from k z)) (hf : from + k ≤ length z)
    (hp : p + k ≤ length z) where
  lb : length (part from k z) ≡ k
  lb = length_part from k z hf

  copied-part : (m : ℕ) → m ≤ k → part p m w ≡ part from m z
  copied-part m h =
      sym (part-less p m k w h)
      ∙ ap (take m)
      (ap₂ (λ (j : ℕ) (l : List ℕ). part p j l) (sym lb) e ∙ part-put-same z p (part from k z) (omega (arith, lb)))
      ∙ part-less from m k z h

  copied-before : (i n : ℕ) → i + n ≤ p → part i n w ≡ part i n z
  copied-before i n h = ap (part i n) e ∙ part-put-below z p (part from k z) (omega (arith, lb)) i n h

  -- a slot is set to a text that was copied to it
  slotted-copied : (v : List ℕ) (a : ℕ) {s t : List ℕ} → a * slot_bytes ≤ p → p + k ≤ a * slot_bytes + slot_bytes → s ≡ t
      → Slotted w v a (text s) Unit → Slotted z v a (text t) Unit
  slotted-copied v a low high f o =
      record {
        outside = outside-on (a * slot_bytes) (a * slot_bytes + slot_bytes) z w v
            (rw e
            (outside-put (a * slot_bytes) (a * slot_bytes + slot_bytes) z p (part from k z) low (omega (arith, lb))
            (omega (arith, lb))))
            o.outside;
        value = o.value ∙ ap text f;
        held = o.held;
      }

-- ---- join

module _ (x z : List ℕ) (a n m : ℕ) (fits : slots_end ≤ length x) (inside : a + 1 < slot_count) (p : Pair x z a n m) where
  joined-size : length (text_of (slot_at x a) ++ text_of (slot_at x (a + 1))) ≡ n + m
  joined-size =
      length-append (text_of (slot_at x a)) (text_of (slot_at x (a + 1)))
      ∙ ap₂ ◌+◌ (left-size x z a n m fits inside p) (right-size x z a n m fits inside p)

  pub joined-long : text_bytes < n + m → join_of (slot_at x a) (slot_at x (a + 1)) ≡ stops (stop text_too_long)
  joined-long h = join-stops (slot_at x a) (slot_at x (a + 1)) (omega (arith, joined-size))

  pub joined : (v : List ℕ) {w : List ℕ} → n + m ≤ text_bytes
      → w ≡ put z (a * slot_bytes + head_size + n) (part (a * slot_bytes + head_size + slot_bytes) (blocks m) z)
      → Slotted w v a (text (part (a * slot_bytes + head_size) (n + m) w)) Unit
      → Left x v a 0 (join_of (slot_at x a) (slot_at x (a + 1)))
  joined v {w} h e o =
      let to = a * slot_bytes + head_size in
      let from = a * slot_bytes + head_size + slot_bytes in
      let k = blocks m in
      let lz = p.size in
      let place : from ≡ (a + 1) * slot_bytes + head_size = omega arith in
      let bytes : part to (n + m) w ≡ text_of (slot_at x a) ++ text_of (slot_at x (a + 1)) =
      part-add to n m w
      ∙ ap₂ ◌++◌
      (copied-before z (to + n) from k e (omega arith) (omega arith) to n (omega arith) ∙ p.left)
      (copied-part z (to + n) from k e (omega arith) (omega arith) m (omega arith)
      ∙ ap (λ (i : ℕ). part i m z) place
      ∙ p.right) in
      left-slot a _ _ (join-gives (slot_at x a) (slot_at x (a + 1)) (omega (arith, joined-size))) (omega arith) p.same
      (slotted-copied z (to + n) from k e (omega arith) (omega arith) v a (omega arith) (omega arith) bytes o)

-- ---- substr

pub substr-gives : (u v w : Value) (s t : Taken) → TakenBy (number_of v) s → s.stop ≡ 0 → TakenBy (number_of w) t
    → t.stop ≡ 0
    → substr_of u v w ≡ gives (text (between (unbias s.word) (unbias s.word +ℤ unbias t.word) 1 (text_of u)))
unfolding substr_of
substr-gives u v w s t b es d et = rw ((taken-gives (number_of v) s b es).0, (taken-gives (number_of w) t d et).0)

-- a slot is set to a part of the text that is shown in it
pub slotted-part : (x y v : List ℕ) (a n start size : ℕ) {w t : List ℕ} → slots_end ≤ length x → a < slot_count
    → Shown x y a n → start + size ≤ n
    → w ≡ put y (a * slot_bytes + head_size) (part (a * slot_bytes + head_size + start) (blocks size) y)
    → part start size (text_of (slot_at x a)) ≡ t
    → Slotted w v a (text (part (a * slot_bytes + head_size) size w)) Unit → Slotted y v a (text t) Unit
slotted-part x y v a n start size {w} {t} fits inside o h e f s =
    let to = a * slot_bytes + head_size in
    let k = blocks size in
    let ly = o.slotted.outside.size in
    let few = o.most in
    let bytes : part to size w ≡ t =
    copied-part y to (to + start) k e (omega arith) (omega arith) size (omega arith)
    ∙ sym (part-part y to n start size h)
    ∙ ap (part start size) o.bytes
    ∙ f in
    slotted-copied y to (to + start) k e (omega arith) (omega arith) v a (omega arith) (omega arith) bytes s
