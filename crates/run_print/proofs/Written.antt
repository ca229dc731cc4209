-- Bytes written one after the other, and values with OFS between them.
use mathlib.Core.Path.{◌≡◌, sym, ap, ap₂, ◌∙◌}
use mathlib.Core.List.{List, ◌++◌}
use Prim.Native.Nat.{ℕ, ◌+◌, ◌-◌, ◌*◌, ◌≤◌, ◌<◌}
use native.Mathlib.Omega.{arith}
use lib.ListN.{length, length-append}
use borrow.Rule.Slice.PartMut.{mid_of}
use Rattle.buffer.specs.Parts.{put}
use Rattle.buffer.proofs.Parts.{length-put, put-append, drop-put-above}
use Rattle.values.specs.Value.{Value, text_of}
use Rattle.run_room.specs.Layout.{head_size, slot_bytes, slot_count, slots_end}
use Rattle.run_room.specs.Room.{slot_at}
use Rattle.run_room.specs.Held.{Shown}
use Rattle.run_lines.specs.Records.{ofs_slot}
use Rattle.run_print.specs.Prints.{InSlot, Kept, ofs_of, line_from}
use Rattle.run_print.proofs.Showing.{in-length, in_lent, shown-length, kept-none, kept_on}
use Rattle.run_print.proofs.Joined.{line-one, line-more, length_more, length-mono}
use Rattle.run_print.proofs.Joined.{line_kept, kept-first, length-ofs, first-length}

-- ---- writes

-- two writes, the second where the first ends
pub put_two : (o : List ℕ) (at : ℕ) (b c : List ℕ) {p q : List ℕ} (from : ℕ) → at + (length b + length c) ≤ length o
    → from ≡ at + length b → p ≡ put o at b
    → q ≡ put p from c → q ≡ put o at (b ++ c)
put_two o at b c from h e f g =
    g ∙ ap₂ (λ (l : List ℕ) (n : ℕ). put l n c) f e ∙ put-append o at b c (omega arith)

-- a write over one that is no longer
pub put-over : (o b c : List ℕ) → length b ≤ length c → length c ≤ length o → put (put o 0 b) 0 c ≡ put o 0 c
unfolding put
put-over o b c h g = ap (λ (l : List ℕ). c ++ l) (drop-put-above o 0 b (omega arith) (0 + length c) (omega arith))

pub wrote-text : (x o : List ℕ) (i n at from : ℕ) {p : List ℕ} → from ≡ i * slot_bytes + head_size → InSlot x i n
    → p ≡ put o at (mid_of from (from + n - from) x) → p ≡ put o at (text_of (slot_at x i))
wrote-text x o i n at from e t f = f ∙ ap (put o at) (in_lent x i n from e t)

-- OFS, and a text that is shown after it
pub wrote-next : (x y o : List ℕ) (i between n at from : ℕ) {p q : List ℕ} → slots_end ≤ length x
    → InSlot x ofs_slot between → Shown x y i n
    → at + (between + length (text_of (slot_at x i))) ≤ length o → from ≡ at + between → p ≡ put o at (ofs_of x)
    → q ≡ put p from (text_of (slot_at y i))
    → q ≡ put o at (ofs_of x ++ text_of (slot_at x i))
wrote-next x y o i between n at from {p} {q} fits ofs shown room e f g =
    let le = in-length x ofs_slot between fits (omega arith) ofs in
    put_two o at (ofs_of x) (text_of (slot_at x i)) from (omega arith) (omega arith) f
    (g ∙ ap (λ (v : Value). put p from (text_of v)) shown.slotted.value)

-- ---- values

-- i of n texts are written to the front of the output
pub record Written (x work o out : List ℕ) (first n i at : ℕ) : Type 0 where
  pub kept : Kept x work
  pub some : 0 < i
  pub few : i ≤ n
  pub place : at ≡ length (line_from first i x)
  pub bytes : out ≡ put o 0 (line_from first i x)

pub first_fits : (x y o : List ℕ) (first n m : ℕ) → slots_end ≤ length x → 0 < n → first + n ≤ slot_count
    → length (line_from first n x) ≤ length o → Shown x y first m → 0 + m ≤ length o
first_fits x y o first n m fits some inside room shown =
    omega (
      arith,
      shown-length x y first m fits (omega arith) shown,
      ap length (line-one first x),
      length-mono first 1
          n x (omega arith) some,
    )

module _ (x y o p : List ℕ) (first n between m : ℕ) (fits : slots_end ≤ length x) (some : 0 < n)
    (inside : first + n ≤ slot_count)
    (ofs : InSlot x ofs_slot between) (room : length (line_from first n x) ≤ length o) (shown : Shown x y first m)
    (wrote : p ≡ put o 0 (text_of (slot_at y first))) where
  kept-y : Kept x y
  kept-y = kept-first x y first n between m fits some inside ofs shown

  room-y : length (line_from first n y) ≤ length o
  room-y = omega (arith, room, ap length (line_kept x y kept-y first n inside))

  wrote_one : p ≡ put o 0 (line_from first 1 y)
  wrote_one = wrote ∙ ap (put o 0) (sym (line-one first y))

  fits-to : (k : ℕ) → 0 < k → k ≤ n → length (line_from first k y) ≤ length o
  fits-to k h g = omega (arith, room-y, length-mono first k n y h g)

  length-p : length p ≡ length o
  length-p = ap length wrote_one ∙ length-put o 0 (line_from first 1 y) (omega (arith, fits-to 1 (omega arith) some))

  pub written-first : (at : ℕ) → at ≡ 0 + m → Written y y p p first n 1 at
  written-first at e =
      record {
        kept = kept-none y;
        some = omega arith;
        few = omega arith;
        place = omega (arith, e, first-length x y first n between m fits some inside ofs shown);
        bytes =
            wrote_one
            ∙ sym (put-over o (line_from first 1 y) (line_from first 1 y) (omega arith) (fits-to 1 (omega arith) some))
            ∙ ap (λ (l : List ℕ). put l 0 (line_from first 1 y)) (sym wrote_one);
      }

  module _ (u out : List ℕ) (i at : ℕ) (w : Written y u p out first n i at) where
    pub written-length : length out ≡ length o
    written-length =
        ap length w.bytes
        ∙ length-put p 0 (line_from first i y) (omega (arith, length-p, fits-to i w.some w.few))
        ∙ length-p

    pub written-ofs : InSlot u ofs_slot between
    written-ofs = w.kept.texts ofs_slot between (omega arith) (kept-y.texts ofs_slot between (omega arith) ofs)

    module _ (more : i < n) where
      same : text_of (slot_at u (first + i)) ≡ text_of (slot_at y (first + i))
      same = ap text_of (w.kept.slots (first + i) (omega arith))

      next-length : at + (between + length (text_of (slot_at u (first + i)))) ≡ length (line_from first (i + 1) y)
      next-length =
          omega (
            arith,
            w.place,
            length_more first i y w.some,
            length-ofs x y first n between m fits some inside
                ofs shown,
            ap length same,
          )

      pub next_fits : at + (between + length (text_of (slot_at u (first + i)))) ≤ length out
      next_fits = omega (arith, next-length, fits-to (i + 1) (omega arith) (omega arith), written-length)

      pub written_next : (z out' : List ℕ) (r : ℕ) → Kept u z
          → out' ≡ put out at (ofs_of u ++ text_of (slot_at u (first + i)))
          → r ≡ at + (between + length (text_of (slot_at u (first + i)))) → Written y z p out' first n (i + 1) r
      written_next z out' r k f e =
          let b = ofs_of y ++ text_of (slot_at y (first + i)) in
          let lb : length (line_from first (i + 1) y) ≡ length (line_from first i y) + length b =
          ap length (line-more first i y w.some) ∙ length-append (line_from first i y) b in
          let fits_next = fits-to (i + 1) (omega arith) (omega arith) in
          record {
            kept = kept_on w.kept k;
            some = omega arith;
            few = omega arith;
            place = e ∙ next-length;
            bytes =
                put_two p 0 (line_from first i y) b at (omega (arith, length-p)) (omega (arith, w.place)) w.bytes
                (f ∙ ap₂ (λ (s t : List ℕ). put out at (s ++ t)) (ap text_of (w.kept.slots ofs_slot (omega arith)))
                same)
                ∙ ap (put p 0) (sym (line-more first i y w.some));
          }

    pub written_all : n ≤ i → (Kept x u) × (out ≡ put o 0 (line_from first n x)) × (at ≡ length (line_from first n x))
    written_all h =
        let e : i ≡ n = omega (arith, w.few) in
        let line : line_from first i y ≡ line_from first n x =
        ap (λ (k : ℕ). line_from first k y) e ∙ line_kept x y kept-y first n inside in (
          kept_on kept-y w.kept,
          w.bytes
              ∙ ap (λ (l : List ℕ). put l 0 (line_from first i y)) wrote_one
              ∙ put-over o (line_from first 1 y) (line_from first i y) (length-mono first 1 i y (omega arith) w.some)
              (fits-to i w.some w.few)
              ∙ ap (put o 0) line,
          w.place ∙ ap length line,
        )
