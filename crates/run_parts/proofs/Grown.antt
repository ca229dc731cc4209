-- A record grows at its end.
use mathlib.Core.Path.{◌≡◌, refl, sym, ap, ap₂, ◌∙◌}
use mathlib.Core.Logic.{⊎_elim}
use mathlib.Core.Bool.{true, false}
use mathlib.Core.List.{List, [], ◌++◌, append_assoc, append-nil}
use Prim.Native.Nat.{ℕ, zero, suc, ◌+◌, ◌-◌, ◌*◌, ◌≤◌, ◌<◌, min}
use native.Mathlib.Omega.{arith}
use lib.ListN.{length, take, length-append}
use lib.Seq.{take-append-add}
use borrow.Author.Tests.{eq-eqb, ne_eqb, lt-ltb, le-ltb}
use Rattle.edition.specs.Limits.{text_bytes}
use Rattle.buffer.specs.Parts.{part, put}
use Rattle.buffer.proofs.Parts.{length_part, part-more, part-part}
use Rattle.block_copy.specs.Rounded.{blocks}
use Rattle.decimals.specs.Decimal.{decimal_text}
use Rattle.number.specs.Range.{unbias, top}
use Rattle.values.specs.Value.{Value, unset, number, text, field_text, text_of}
use Rattle.run_room.specs.Layout.{head_size, slot_bytes, record_start, entries_start, base_end}
use Rattle.run_room.specs.Room.{value_by, kind_of, is_number, slot_at, line_of, Numbered, Texted}
use Rattle.run_room.specs.Held.{Entered, Reads}
use Rattle.run_room.specs.declared.lines.Line.{Line}
use Rattle.run_room.specs.declared.entries.Entry.{Entry}
use Rattle.run_room.proofs.Outside.{outside-put, outside-same, outside-on, outside_wider, part-before, part-after}
use Rattle.run_room.proofs.Slotwise.{part-less}
use Rattle.run_parts.specs.declared.parts.Part.{Part}
use Rattle.run_parts.specs.Join.{record_end, Grown, PartOf, Turned, new_field, gap_of}

-- a part, and the front of what is put after it
part-grown : (l : List ℕ) (a n m : ℕ) (b : List ℕ) → a + n + length b ≤ length l → m ≤ length b → part a (n + m) (put l (a + n) b) ≡ part a n l ++ take m b
part-grown l a n m b h k =
    let z = put l (a + n) b in
    let e : length (part a n l) ≡ n = length_part a n l (omega arith) in
    let f : n + m ≡ length (part a n l) + m = omega arith in
    sym (part-less a (n + m) (n + length b) z (omega arith))
    ∙ ap₂ (λ (c : ℕ) (q : List ℕ). take c q) f (part-more l a n b h)
    ∙ take-append-add (part a n l) b m

module _ (x : List ℕ) (side at : ℕ) (fits : base_end ≤ length x) (sided : side < 2) where
  pub grown-none : Grown x x side at []
  grown-none =
      let e : at + 0 ≡ at = omega arith in
      record {
        outside = outside-same (record_start side + at) (record_end side) x;
        text = ap (λ (n : ℕ). part (record_start side) n x) e ∙ sym (append-nil (part (record_start side) at x));
      }

  pub grown-put : (b : List ℕ) (m : ℕ) {y : List ℕ} → m ≤ length b → at + length b ≤ 528 → length (take m b) ≡ m
      → y ≡ put x (record_start side + at) b → Grown x y side at (take m b)
  grown-put b m {y} h k lt e =
      let a = record_start side in
      record {
        outside = rw e (outside-put (a + at) (record_end side) x (a + at) b (omega arith) (omega arith) (omega arith));
        text =
            ap₂ (λ (n : ℕ) (q : List ℕ). part a (at + n) q) lt e ∙ part-grown x a at m b (omega arith) h;
      }

-- bytes that are put as they are
pub grown-whole : (x : List ℕ) (side at : ℕ) (b : List ℕ) {y : List ℕ} → base_end ≤ length x → side < 2 → at + length b ≤ text_bytes
    → y ≡ put x (record_start side + at) b → Grown x y side at b
grown-whole x side at b {y} fits sided h e =
    let a = record_start side in
    record {
      outside = rw e (outside-put (a + at) (record_end side) x (a + at) b (omega arith) (omega arith) (omega arith));
      text = ap (part a (at + length b)) e ∙ part-more x a at b (omega arith);
    }

-- bytes that are put by blocks
pub grown-part : (x : List ℕ) (side at from n : ℕ) {y : List ℕ} → base_end ≤ length x → side < 2 → at + n ≤ text_bytes → from + n + 15 ≤ entries_start
    → y ≡ put x (record_start side + at) (part from (blocks n) x) → Grown x y side at (part from n x)
grown-part x side at from n {y} fits sided h k e =
    let a = record_start side in
    let b = part from (blocks n) x in
    let lb : length b ≡ blocks n = length_part from (blocks n) x (omega arith) in
    let lp : length (part from n x) ≡ n = length_part from n x (omega arith) in
    let t : take n b ≡ part from n x = part-less from n (blocks n) x (omega arith) in
    record {
      outside = rw e (outside-put (a + at) (record_end side) x (a + at) b (omega arith) (omega arith) (omega arith));
      text =
          ap₂ (λ (m : ℕ) (q : List ℕ). part a (at + m) q) lp e
          ∙ part-grown x a at n b (omega arith) (omega arith)
          ∙ ap (λ (q : List ℕ). part a at x ++ q) t;
    }

pub grown-on : (x y z : List ℕ) (side at : ℕ) (s t : List ℕ) → Grown x y side at s → Grown y z side (at + length s) t → Grown x z side at (s ++ t)
grown-on x y z side at s t f g =
    let a = record_start side in
    let e : at + length (s ++ t) ≡ at + length s + length t = simp length-append (omega arith) in
    record {
      outside =
          outside-on (a + at) (record_end side) x y z f.outside
          (outside_wider (a + (at + length s)) (record_end side) (a + at) (record_end side) y z (omega arith) (omega arith) g.outside);
      text =
          ap (λ (n : ℕ). part a n z) e ∙ g.text ∙ ap (λ (q : List ℕ). q ++ t) f.text ∙ append_assoc (part a at x) s t;
    }

pub grown-is : (x y : List ℕ) (side at : ℕ) (s t : List ℕ) → s ≡ t → Grown x y side at s → Grown x y side at t
grown-is x y side at s t e g = rw e at g

-- ---- texts of values

pub text-number : (k w : ℕ) (t : List ℕ) → k ≡ 1 → text_of (value_by k w t) ≡ decimal_text (unbias (min w top))
unfolding value_by text_of
text-number zero w t e = absurd (omega arith)
text-number (suc zero) w t e = refl
text-number (suc (suc k)) w t e = absurd (omega arith)

pub text-words : (k w : ℕ) (t : List ℕ) → 2 ≤ k → text_of (value_by k w t) ≡ t
unfolding value_by text_of
text-words zero w t a = absurd (omega arith)
text-words (suc zero) w t a = absurd (omega arith)
text-words (suc (suc zero)) w t a = refl
text-words (suc (suc (suc k))) w t a = refl

pub text-low : (k w : ℕ) (t : List ℕ) → (k ≡ 1 → ⊥) → k < 2 → text_of (value_by k w t) ≡ []
unfolding value_by text_of
text-low zero w t a b = refl
text-low (suc zero) w t a b = absurd (a refl)
text-low (suc (suc k)) w t a b = absurd (omega arith)

-- ---- what is before a field

pub gap-none : (b : List ℕ) (i : ℕ) → i ≡ 0 → gap_of b i ≡ []
unfolding gap_of
gap-none b i e = rw (eq-eqb i 0 e)

pub gap-some : (b : List ℕ) (i : ℕ) → (i ≡ 0 → ⊥) → gap_of b i ≡ b
unfolding gap_of
gap-some b i e = rw (ne_eqb i 0 e)

pub gap-size : (x : List ℕ) (from n i : ℕ) → from + n ≤ length x → (i ≡ 0 → ⊥) → length (gap_of (part from n x) i) ≡ n
gap-size x from n i h e = ap length (gap-some (part from n x) i e) ∙ length_part from n x h

-- ---- a value's text

pub number-text : (k w u : ℕ) (t : List ℕ) → k ≡ 1 → u ≡ min w top → text_of (value_by k w t) ≡ decimal_text (unbias u)
number-text k w u t e f = text-number k w t e ∙ ap (λ (q : ℕ). decimal_text (unbias q)) (sym f)

-- a value of its kind, number and text
value-again : (k w : ℕ) (t : List ℕ) → value_by k w (text_of (value_by k w t)) ≡ value_by k w t
unfolding value_by text_of
value-again zero w t = refl
value-again (suc zero) w t = refl
value-again (suc (suc zero)) w t = refl
value-again (suc (suc (suc k))) w t = refl

-- ---- the ways of `field_part`

-- a value by its kind, its number if it is one, and its text if it is not
value-is : (v : Value) (k w : ℕ) (t : List ℕ) → min k 3 ≡ kind_of v → w ≤ top → (is_number v ≡ true → v ≡ number (unbias w)) → (is_number v ≡ false → t ≡ text_of v)
    → value_by k w t ≡ v
unfolding value_by text_of
value-is unset zero w t ek hw en et = refl
value-is unset (suc zero) w t ek hw en et = absurd (omega arith)
value-is unset (suc (suc zero)) w t ek hw en et = absurd (omega arith)
value-is unset (suc (suc (suc k))) w t ek hw en et = absurd (omega arith)
value-is (number z) zero w t ek hw en et = absurd (omega arith)
value-is (number z) (suc zero) w t ek hw en et = let m : min w top ≡ w = omega arith in ap (λ (n : ℕ). number (unbias n)) m ∙ sym (en refl)
value-is (number z) (suc (suc zero)) w t ek hw en et = absurd (omega arith)
value-is (number z) (suc (suc (suc k))) w t ek hw en et = absurd (omega arith)
value-is (text l) zero w t ek hw en et = absurd (omega arith)
value-is (text l) (suc zero) w t ek hw en et = absurd (omega arith)
value-is (text l) (suc (suc zero)) w t ek hw en et = ap text (et refl)
value-is (text l) (suc (suc (suc k))) w t ek hw en et = absurd (omega arith)
value-is (field_text l) zero w t ek hw en et = absurd (omega arith)
value-is (field_text l) (suc zero) w t ek hw en et = absurd (omega arith)
value-is (field_text l) (suc (suc zero)) w t ek hw en et = absurd (omega arith)
value-is (field_text l) (suc (suc (suc k))) w t ek hw en et = ap field_text (et refl)

module _ (x : List ℕ) (l : Line) (k v i : ℕ) where
  pub new-slot : (h w n : ℕ) → i ≡ k → min h 3 ≡ kind_of (slot_at x v) → Numbered x v w → Texted x v n
      → value_by h w (part (v * slot_bytes + head_size) n x) ≡ new_field x l k v i
  unfolding new_field
  new-slot h w n e eh ew en =
      value-is (slot_at x v) h w (part (v * slot_bytes + head_size) n x) eh ew.within ew.value en.bytes ∙ rw (eq-eqb i k e)

  pub new-past : (t : List ℕ) → (i ≡ k → ⊥) → l.known ≤ i → value_by 0 0 t ≡ new_field x l k v i
  unfolding new_field value_by
  new-past t e h = rw (ne_eqb i k e, le-ltb i l.known h)

  inner : (a p q : ℕ) → a ≡ record_start l.side → p + q ≤ l.size → part (a + p) q x ≡ part p q (line_of x l)
  unfolding line_of
  inner a p q e h = ap (λ (n : ℕ). part (n + p) q x) e ∙ sym (part-part x (record_start l.side) l.size p q h)

  pub new-entry : (a : ℕ) (e : Entry) → a ≡ record_start l.side → (i ≡ k → ⊥) → i < l.known → Reads x l i e
      → value_by e.kind e.number (part (a + e.start) e.size x) ≡ new_field x l k v i
  unfolding new_field
  new-entry a e ea ne g r =
      ap (value_by e.kind e.number) (inner a e.start e.size ea r.inside) ∙ r.value ∙ rw (ne_eqb i k ne, lt-ltb i l.known g)

-- ---- one field

module _ (x y : List ℕ) (side at : ℕ) (t : List ℕ) (p : Part) (o : PartOf side p) (g : Grown x y side at t) where
  pub part-kept : part p.from p.size y ≡ part p.from p.size x
  part-kept =
      ⊎_elim (λ h. part-before (record_start side + at) (record_end side) p.from p.size g.outside (omega arith))
      (λ h. part-after (record_start side + at) (record_end side) p.from p.size g.outside (omega arith)) o.apart

  pub value-kept : (v : Value) → value_by p.kind p.word (part p.from p.size x) ≡ v → value_by p.kind p.word (part p.from p.size y) ≡ v
  value-kept v e = ap (value_by p.kind p.word) part-kept ∙ e

pub one-joined : (x y u z : List ℕ) (l : Line) (k v i at a m : ℕ) (p : Part) (b : List ℕ) → PartOf (1 - l.side) p
    → value_by p.kind p.word (part p.from p.size x) ≡ new_field x l k v i
    → a ≡ at + length (gap_of b i) → Grown x y (1 - l.side) at (gap_of b i)
    → m ≡ length (text_of (value_by p.kind p.word (part p.from p.size y)))
    → Grown y u (1 - l.side) a (text_of (value_by p.kind p.word (part p.from p.size y)))
    → (e : Entry) → (e.kind ≡ p.kind) × (e.number ≡ p.word) × (e.start ≡ a) × (e.size ≡ m) → Entered u z i e → Turned x z l k v i at (a + m) b
one-joined x y u z l k v i at a m p b o e ea g em h d q n =
    let side = 1 - l.side in
    let f : value_by p.kind p.word (part p.from p.size y) ≡ new_field x l k v i = value-kept x y side at (gap_of b i) p o g (new_field x l k v i) e in
    let em' : m ≡ length (text_of (new_field x l k v i)) = em ∙ ap (λ (q : Value). length (text_of q)) f in
    let h' : Grown y u side a (text_of (new_field x l k v i)) = grown-is y u side a _ _ (ap text_of f) h in
    let h'' : Grown y u side (at + length (gap_of b i)) (text_of (new_field x l k v i)) = rw ea at h' in
    record {
      mid = u;
      place = omega arith;
      grown = grown-on x y u side at (gap_of b i) (text_of (new_field x l k v i)) g h'';
      entry = n.outside;
      value = λ line r.
          n.value line
          ∙ ap₂ (λ (c w : ℕ). value_by c w (part d.start d.size line)) q.0 q.1
          ∙ ap₂ (λ (c w : ℕ). value_by p.kind p.word (part c w line)) (q.2 ∙ ea) (q.3 ∙ em')
          ∙ ap (value_by p.kind p.word) (r ∙ ap text_of (sym f))
          ∙ value-again p.kind p.word (part p.from p.size y)
          ∙ f;
      held = n.held;
    }
