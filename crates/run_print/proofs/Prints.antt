-- Print: what the definition says of the bytes, and what the code does.
use mathlib.Core.Path.{◌≡◌, refl, sym, ap, ap₂, ◌∙◌}
use mathlib.Core.Bool.{Bool, true, false, cond}
use mathlib.Core.List.{List, [], ◌++◌}
use Prim.Native.Nat.{ℕ, ◌+◌, ◌-◌, ◌≤◌, ◌<◌}
use native.Mathlib.Omega.{arith}
use lib.ListN.{length, drop, length-append}
use lib.Dec.{leb}
use borrow.Author.Tests.{le-leb, lt-leb}
use Rattle.edition.specs.Outcomes.{output_room_too_small}
use Rattle.buffer.specs.Parts.{put}
use Rattle.buffer.proofs.Parts.{length-put}
use Rattle.splitting.specs.Separator.{Separator}
use Rattle.values.specs.Value.{Value, short_by, Result, gives, stops, text_of}
use Rattle.semantics.specs.World.{World, with_output}
use Rattle.semantics.specs.Operations.{Effect, effect, joined, printed, printed_text, print_values}
use Rattle.run_room.specs.Layout.{slot_count, slots_end}
use Rattle.run_room.specs.Room.{slot_at, slots_from, store_of}
use Rattle.run_room.specs.Held.{Shown, Did}
use Rattle.run_room.specs.declared.lines.Line.{Line}
use Rattle.run_lines.specs.Records.{ofs_slot}
use Rattle.run_print.specs.Prints.{InSlot, Kept, ors_slot, line_from, Writes, written, PrintedBy}
use Rattle.std.specs.Prelude.{Result as Printed, Ok, Err}
use Rattle.run_print.proofs.Showing.{in-length, shown-in, kept-shown, kept_on, did-kept}
use Rattle.run_print.proofs.Joined.{line_kept}
use Rattle.run_print.proofs.Written.{put_two}

-- ---- the definition's print

abbrev pub whole : ℕ → ℕ → List ℕ → List ℕ
whole first n x = line_from first n x ++ text_of (slot_at x ors_slot)

-- a line is printed to an output with so much room, if it is that long: it is written, or it lacks room
abbrev written-or-short : World → List ℕ → ℕ → ℕ → Bool → Result Effect
written-or-short w line size room fits =
    cond fits (gives (effect [] (with_output w (w.output.bytes ++ line) (room - size))))
    (stops (short_by (size - room) output_room_too_small))

module _ (x o : List ℕ) (first n size : ℕ) (e : size ≡ length (whole first n x)) (w : World)
    (writes : Writes x o w) where
  values-are : printed_text w (slots_from first n x) ≡ whole first n x
  unfolding line_from
  values-are = ap₂ (λ (b c : List ℕ). joined b (slots_from first n x) ++ c) writes.between writes.ending

  print-is : (b : Bool) → leb size (length o) ≡ b
      → print_values (slots_from first n x) w ≡ written-or-short w (whole first n x) size (length o) b
  print-is b eb =
      ap (printed w) values-are
      ∙ ap₂ (λ (m k : ℕ). written-or-short w (whole first n x) m k (leb m k)) (sym e) writes.room
      ∙ ap (written-or-short w (whole first n x) size (length o)) eb

  pub printed-whole : (o' : List ℕ) → size ≤ length o → o' ≡ put o 0 (whole first n x)
      → PrintedBy w o o' (Ok size) (print_values (slots_from first n x) w)
  unfolding put
  printed-whole o' h f =
      let z : 0 + length (whole first n x) ≡ size = omega arith in (
        whole first n x,
        sym e,
        f ∙ ap (λ (m : ℕ). whole first n x ++ drop m o) z,
        print-is true (le-leb size (length o) h),
      )

  pub printed-short : length o < size
      → PrintedBy w o o (Err (size - length o)) (print_values (slots_from first n x) w)
  printed-short h = (refl, print-is false (lt-leb size (length o) h))

-- ---- print

-- what `print` says
abbrev Prints : List ℕ → List ℕ → List ℕ → List ℕ → ℕ → ℕ → Printed ℕ ℕ → Type 0
Prints x y o o' first n r =
    (l : Line)
    → Did x l y l ((length y ≡ length x) × (length o' ≡ length o) × (written r ≤ length o))
    (((s : Separator) → store_of y l s ≡ store_of x l s)
    × ((w : World) → Writes x o w → PrintedBy w o o' r (print_values (slots_from first n x) w)))

pub ofs-in : (x y z : List ℕ) {between ending : ℕ} → slots_end ≤ length x → Shown x y ofs_slot between
    → Shown y z ors_slot ending → InSlot z ofs_slot between
ofs-in x y z {between} {ending} fits ofs ors =
    (kept-shown y z ors_slot ending (omega (arith, ofs.slotted.outside.size)) (omega arith) ors).texts ofs_slot between
    (omega arith) (shown-in x y ofs_slot between ofs)

-- OFS and ORS are in their slots, and the length of the whole is known
pub record Measured (x u : List ℕ) (first n between ending total : ℕ) : Type 0 where
  pub kept : Kept x u
  pub fits : slots_end ≤ length u
  pub ofs : InSlot u ofs_slot between
  pub ors : InSlot u ors_slot ending
  pub line : line_from first n u ≡ line_from first n x
  pub values : length (line_from first n u) ≡ total
  pub size : total + ending ≡ length (whole first n x)

pub measured : (x y z u : List ℕ) (first n between ending total : ℕ) → slots_end ≤ length x → first + n ≤ slot_count
    → Shown x y ofs_slot between → Shown y z ors_slot ending → Kept z u → total ≡ length (line_from first n z)
    → Measured x u first n between ending total
measured x y z u first n between ending total fits inside ofs ors counted e =
    let first-shown : Kept x y = kept-shown x y ofs_slot between fits (omega arith) ofs in
    let kept-z : Kept x z =
    kept_on first-shown (kept-shown y z ors_slot ending (omega (arith, first-shown.size)) (omega arith) ors) in
    let kept-u : Kept x u = kept_on kept-z counted in
    let ors-u : InSlot u ors_slot ending =
    counted.texts ors_slot ending (omega arith) (shown-in y z ors_slot ending ors) in
    let line-z = line_kept x z kept-z first n inside in
    let line-u = line_kept x u kept-u first n inside in
    let fits-u : slots_end ≤ length u = omega (arith, kept-u.size) in
    let length-ors = in-length u ors_slot ending fits-u (omega arith) ors-u in
    let same-ors = ap (λ (v : Value). length (text_of v)) (kept-u.slots ors_slot (omega arith)) in
    record {
      kept = kept-u;
      fits = fits-u;
      ofs = counted.texts ofs_slot between (omega arith) (ofs-in x y z fits ofs ors);
      ors = ors-u;
      line = line-u;
      values = ap length (line-u ∙ sym line-z) ∙ sym e;
      size =
          omega (
            arith,
            length-append (line_from first n x) (text_of (slot_at x ors_slot)),
            ap length line-z,
            e,
            length-ors,
            same-ors,
          );
    }

module _ (x u o : List ℕ) (first n between ending total : ℕ) (m : Measured x u first n between ending total) where
  pub print-short : length o < total + ending → Prints x u o o first n (Err (total + ending - length o))
  print-short h l =
      did-kept x u l m.kept (m.kept.size, refl, omega arith)
      (λ w writes. printed-short x o first n (total + ending) m.size w writes h)

  module _ (enough : total + ending ≤ length o) where
    pub values-fit : length (line_from first n u) ≤ length o
    values-fit = omega (arith, m.values)

    -- the values are written
    module _ (v p : List ℕ) (at : ℕ) (k : Kept u v) (bytes : p ≡ put o 0 (line_from first n u))
        (place : at ≡ length (line_from first n u)) where
      pub ors-in : InSlot v ors_slot ending
      ors-in = k.texts ors_slot ending (omega arith) m.ors

      pub ors-fits : at + ending ≤ length p
      ors-fits =
          omega (
            arith,
            ap length bytes,
            length-put o 0 (line_from first n u) (omega (arith, values-fit)),
            place,
            m.values,
          )

      pub print-whole : (q : List ℕ) → q ≡ put p at (text_of (slot_at v ors_slot))
          → Prints x v o q first n (Ok (total + ending))
      print-whole q e l =
          let all : Kept x v = kept_on m.kept k in
          let long = length-append (line_from first n x) (text_of (slot_at x ors_slot)) in
          let whole_is : q ≡ put o 0 (whole first n x) =
          put_two o 0 (line_from first n x) (text_of (slot_at x ors_slot)) at (omega (arith, m.size, long))
          (omega (arith, place, ap length m.line)) (bytes ∙ ap (put o 0) m.line)
          (e ∙ ap (λ (t : Value). put p at (text_of t)) (all.slots ors_slot (omega arith))) in
          let same : length q ≡ length o =
          ap length whole_is ∙ length-put o 0 (whole first n x) (omega (arith, m.size)) in
          did-kept x v l all (all.size, same, enough)
          (λ w writes. printed-whole x o first n (total + ending) m.size w writes q enough whole_is)
