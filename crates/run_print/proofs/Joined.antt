-- The texts of slots with OFS between them: one more, and how long they are.
use mathlib.Core.Path.{◌≡◌, refl, sym, ap, ap₂, ◌∙◌}
use mathlib.Core.List.{List, ◌∷◌, ◌++◌, append_assoc}
use Prim.Native.Nat.{ℕ, zero, suc, ◌+◌, ◌*◌, ◌≤◌, ◌<◌}
use native.Mathlib.Omega.{arith}
use native.Mathlib.Decide.{dec_le}
use lib.ListN.{length, length-append}
use Rattle.edition.specs.Limits.{text_bytes}
use Rattle.values.specs.Value.{Value, text_of}
use Rattle.semantics.specs.Operations.{joined}
use Rattle.run_room.specs.Layout.{slot_count, slots_end}
use Rattle.run_room.specs.Room.{slot_at, slots_from}
use Rattle.run_room.specs.Held.{Shown}
use Rattle.run_lines.specs.Records.{ofs_slot}
use Rattle.run_print.specs.Prints.{InSlot, Kept, ofs_of, line_from}
use Rattle.run_print.proofs.Showing.{in-length, shown-in, shown-length, kept-shown, kept-none, kept_on}

-- ---- one more

joined-more : (between x : List ℕ) (n i : ℕ)
    → joined between (slots_from i (suc (suc n)) x)
    ≡ joined between (slots_from i (suc n) x) ++ (between ++ text_of (slot_at x (i + suc n)))
unfolding slots_from
joined-more between x zero i =
    let e : suc i ≡ i + 1 = omega arith in
    ap (λ (j : ℕ). text_of (slot_at x i) ++ (between ++ text_of (slot_at x j))) e
joined-more between x (suc n) i =
    let e : suc i + suc n ≡ i + suc (suc n) = omega arith in
    let t = text_of (slot_at x (i + suc (suc n))) in
    let u = joined between (slots_from (suc i) (suc n) x) in
    ap (λ (l : List ℕ). text_of (slot_at x i) ++ (between ++ l))
    (joined-more between x n (suc i) ∙ ap (λ (j : ℕ). u ++ (between ++ text_of (slot_at x j))) e)
    ∙ ap (λ (l : List ℕ). text_of (slot_at x i) ++ l) (sym (append_assoc between u (between ++ t)))
    ∙ sym (append_assoc (text_of (slot_at x i)) (between ++ u) (between ++ t))

pub line-one : (i : ℕ) (x : List ℕ) → line_from i 1 x ≡ text_of (slot_at x i)
unfolding line_from slots_from
line-one i x = refl

pub line-more : (i k : ℕ) (x : List ℕ) → 0 < k
    → line_from i (k + 1) x ≡ line_from i k x ++ (ofs_of x ++ text_of (slot_at x (i + k)))
unfolding line_from
line-more i zero x h = absurd (omega arith)
line-more i (suc k) x h =
    let e : suc k + 1 ≡ suc (suc k) = omega arith in
    ap (λ (n : ℕ). joined (ofs_of x) (slots_from i n x)) e ∙ joined-more (ofs_of x) x k i

pub length_more : (i k : ℕ) (x : List ℕ) → 0 < k
    → length (line_from i (k + 1) x) ≡ length (line_from i k x) + (length (ofs_of x) + length (text_of (slot_at x (i + k))))
length_more i k x h =
    ap length (line-more i k x h)
    ∙ length-append (line_from i k x) (ofs_of x ++ text_of (slot_at x (i + k)))
    ∙ ap (λ (n : ℕ). length (line_from i k x) + n) (length-append (ofs_of x) (text_of (slot_at x (i + k))))

-- fewer are no longer
pub length-mono : (i k n : ℕ) (x : List ℕ) → 0 < k → k ≤ n → length (line_from i k x) ≤ length (line_from i n x)
length-mono i k zero x h g = absurd (omega arith)
length-mono i k (suc n) x h g =
    elim (dec_le k n) [
      | yes p ↦
          (let e : n + 1 ≡ suc n = omega arith in
          let f = ap (λ (m : ℕ). length (line_from i m x)) e in
          omega (arith, length-mono i k n x h p, length_more i n x (omega arith), f))
      | no p ↦ (let e : k ≡ suc n = omega arith in omega (arith, ap (λ (m : ℕ). length (line_from i m x)) e))
    ]

-- ---- where texts were shown

slots_kept : (x y : List ℕ) → Kept x y → (n i : ℕ) → i + n ≤ slot_count → slots_from i n y ≡ slots_from i n x
unfolding slots_from
slots_kept x y k zero i h = refl
slots_kept x y k (suc n) i h = ap₂ ◌∷◌ (k.slots i (omega arith)) (slots_kept x y k n (suc i) (omega arith))

pub line_kept : (x y : List ℕ) → Kept x y → (i n : ℕ) → i + n ≤ slot_count → line_from i n y ≡ line_from i n x
unfolding line_from
line_kept x y k i n h = ap₂ joined (ap text_of (k.slots ofs_slot (omega arith))) (slots_kept x y k n i h)

-- ---- counted

-- the length of i of n texts, in a room in which texts are shown
pub record Counted (x work : List ℕ) (first n i sum : ℕ) : Type 0 where
  pub kept : Kept x work
  pub some : 0 < i
  pub few : i ≤ n
  pub total : sum ≡ length (line_from first i x)
  pub most : sum ≤ i * (text_bytes + text_bytes)

module _ (x y : List ℕ) (first n between m : ℕ) (fits : slots_end ≤ length x) (some : 0 < n)
    (inside : first + n ≤ slot_count)
    (ofs : InSlot x ofs_slot between) (o : Shown x y first m) where
  fits-y : slots_end ≤ length y
  fits-y = omega (arith, o.slotted.outside.size)

  pub kept-first : Kept x y
  kept-first = kept-shown x y first m fits (omega arith) o

  pub length-ofs : length (ofs_of y) ≡ between
  length-ofs = in-length y ofs_slot between fits-y (omega arith) (kept-first.texts ofs_slot between (omega arith) ofs)

  pub first-length : m ≡ length (line_from first 1 y)
  first-length =
      sym (in-length y first m fits-y (omega arith) (shown-in x y first m o)) ∙ ap length (sym (line-one first y))

  pub counted-first : Counted y y first n 1 m
  counted-first =
      record {
        kept = kept-none y;
        some = omega arith;
        few = omega arith;
        total = first-length;
        most = omega (arith, o.most);
      }

  pub counted_next : (u z : List ℕ) (i r sum : ℕ) → Counted y u first n i sum → i < n → Shown u z (first + i) r
      → Counted y z first n (i + 1) (sum + between + r)
  counted_next u z i r sum c h q =
      let fits-u : slots_end ≤ length u = omega (arith, c.kept.size, fits-y) in
      let in-slots : first + i < slot_count = omega arith in
      let text : length (text_of (slot_at y (first + i))) ≡ r =
      ap (λ (v : Value). length (text_of v)) (sym (c.kept.slots (first + i) in-slots))
      ∙ shown-length u z (first + i) r fits-u in-slots q in
      record {
        kept = kept_on c.kept (kept-shown u z (first + i) r fits-u in-slots q);
        some = omega arith;
        few = omega arith;
        total = omega (arith, c.total, length_more first i y c.some, length-ofs, text);
        most = omega (arith, c.most, q.most, ofs.most);
      }

  pub counted-all : (u : List ℕ) (i sum : ℕ) → Counted y u first n i sum → n ≤ i
      → (Kept x u) × (sum ≡ length (line_from first n x)) × (sum ≤ n * (text_bytes + text_bytes))
  counted-all u i sum c h =
      let e : i ≡ n = omega (arith, c.few) in (
        kept_on kept-first c.kept,
        c.total ∙ ap (λ (k : ℕ). length (line_from first k y)) e ∙ ap length (line_kept x y kept-first first n inside),
        omega (arith, c.most, e),
      )
