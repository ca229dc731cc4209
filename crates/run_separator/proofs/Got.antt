-- A slot has become a field, or their number; and FS another value.
use mathlib.Core.Path.{◌≡◌, refl, sym, ap, ap₂, ◌∙◌}
use mathlib.Core.List.{List}
use Prim.Native.Nat.{ℕ, ◌+◌, ◌*◌, ◌-◌, ◌≤◌, ◌<◌}
use native.Mathlib.Omega.{arith}
use lib.ListN.{length}
use lib.IntN.{pos}
use borrow.Rule.Slice.PartMut.{mid_of}
use Rattle.edition.specs.Limits.{field_count, number_bound}
use Rattle.number.specs.Range.{unbias}
use Rattle.number.proofs.Bias.{unbias-above}
use Rattle.buffer.specs.Parts.{part}
use Rattle.buffer.proofs.Lent.{part-lent}
use Rattle.splitting.specs.Separator.{Separator}
use Rattle.separators.specs.Kinds.{Sized, Tells}
use Rattle.separators.specs.declared.kinds.Kind.{Kind}
use Rattle.values.specs.Value.{Value, number, Result, gives, stops, bind, text_of}
use Rattle.values.specs.Operations.{field_number}
use Rattle.semantics.specs.World.{World, record_of}
use Rattle.semantics.specs.Operations.{field_at, only, get_field}
use Rattle.run_room.specs.Layout.{head_size, slot_bytes, slot_count, entries_start, base_end}
use Rattle.run_room.specs.Room.{slot_at, line_of, entries_to, fields_of, Placed, Lined, Store, store_of, with_slot}
use Rattle.run_room.specs.Held.{SlotHeld, Held, Slotted, Shown, Did}
use Rattle.run_room.specs.declared.lines.Line.{Line}
use Rattle.run_room.proofs.Slotwise.{slot-before}
use Rattle.run_room.proofs.Entrywise.{length-entries}
use Rattle.run_room.proofs.Stored.{store-slot, held-slot, did_nothing, did_so}
use Rattle.run_lines.specs.Records.{fs_slot, Safe, Pends, InForce, Splits, SplitsAll, known_field, SeparatorOf, Leaves}
use Rattle.run_numbers.specs.Numbers.{FieldBy}
use Rattle.run_numbers.specs.declared.numbers.FieldNumber.{FieldNumber}
use Rattle.run_lines.proofs.Turn.{line_kept, lined-few, splits-pends, splits-lined}
use Rattle.run_lines.proofs.Stored.{force-pends, store_split, store-all, all-lined, all_known, known-field}

module _ (edition : ℕ) (t : List ℕ) (kind : Kind) (x y z : List ℕ) (l r : Line) (i : ℕ) (fits : base_end ≤ length x) (lined : Lined l) (inside : i < slot_count) where
  -- ---- field k

  module _ (k : ℕ) (all : r.known < k → r.size < r.after) (p : Splits edition t kind x y l r) (o : Slotted y z i (known_field y r k) Unit) where
    lined-r : Lined r
    lined-r = splits-lined edition t kind x y l r lined p

    pub got : Did x l z r (Safe x z r)
        ((fs : List ℕ) → Tells edition fs t kind → (s : Separator) → InForce edition fs l s → (w : World)
        → w.current ≡ record_of (line_of x l) (fields_of x l s)
        → (InForce edition fs r s) × (store_of z r s ≡ with_slot (store_of x l s) i (field_at w k)))
    got =
        record {
          safe = record { size = o.outside.size ∙ p.outside.size; lined = lined-r };
          next = λ held. (
            held-slot y z r i (known_field y r k) o inside tt (p.held held),
            λ fs tells s f w ew.
                let m = force-pends edition fs t kind l s tells f in
                let same = ew ∙ sym (ap₂ record_of (line_kept entries_start x y l r p.outside (omega arith) lined.placed p.side p.size) (p.fields s m)) in (
                  λ q. f (omega (arith, p.on, p.size, q)),
                  store-slot y z r i (known_field y r k) o inside s
                      ∙ ap (with_slot (store_of y r s) i) (known-field y r k s w (omega (arith, p.outside.size)) lined-r.placed all same)
                      ∙ ap (λ (st : Store). with_slot st i (field_at w k)) (store_split edition t kind x y l r s lined.placed p m),
                ),
          );
        }

  -- ---- after all is split off

  module _ (p : SplitsAll edition t kind x y l r) where
    lined-all : Lined r
    lined-all = all-lined edition t kind x y l r lined.placed p

    known-count : (s : Separator) → Pends edition t kind l s → r.known ≡ length (fields_of x l s)
    known-count s m =
        sym (length-entries (line_of y r) y r.known)
        ∙ ap length (sym (all_known y r s (omega (arith, p.outside.size)) lined-all.placed p.done) ∙ p.fields s s m (lined-few x l fits lined s))

    pub counted-all : (n : ℕ) → n ≡ number_bound + r.known → Slotted y z i (number (unbias n)) Unit
        → Did x l z r (Safe x z r)
        ((fs : List ℕ) → Tells edition fs t kind → (s : Separator) → InForce edition fs l s
        → (InForce edition fs r s) × (store_of z r s ≡ with_slot (store_of x l s) i (number (pos (length (fields_of x l s))))))
    counted-all n e o =
        record {
          safe = record { size = o.outside.size ∙ p.outside.size; lined = lined-all };
          next = λ held. (
            held-slot y z r i (number (unbias n)) o inside tt (p.held held),
            λ fs tells s f.
                let m = force-pends edition fs t kind l s tells f in
                let q : n - number_bound ≡ length (fields_of x l s) = omega (arith, e, known-count s m) in (
                  λ g. absurd (omega (arith, g, p.done)),
                  store-slot y z r i (number (unbias n)) o inside s
                      ∙ ap₂ (λ (st : Store) (v : Value). with_slot st i v) (store-all edition t kind x y l r s s fits lined p m)
                      (ap number (unbias-above n (omega (arith, e)) ∙ ap pos q)),
                ),
          );
        }

    pub set_all : (j : ℕ) → j < slot_count → Slotted y z i (slot_at y j) (SlotHeld y j)
        → Did x l z r (Safe x z r)
        ((r.size < r.after)
        × ((fs : List ℕ) → Tells edition fs t kind → (s s' : Separator) → InForce edition fs l s
        → store_of z r s' ≡ with_slot (store_of x l s) i (slot_at x j)))
    set_all j hj o =
        record {
          safe = record { size = o.outside.size ∙ p.outside.size; lined = lined-all };
          next = λ held.
              let h = p.held held in (
                held-slot y z r i (slot_at y j) o inside (h.slots j hj) h,
                (
                  p.done,
                  λ fs tells s s' f.
                      store-slot y z r i (slot_at y j) o inside s'
                      ∙ ap₂ (λ (st : Store) (v : Value). with_slot st i v)
                      (store-all edition t kind x y l r s s' fits lined p (force-pends edition fs t kind l s tells f))
                      (slot-before entries_start base_end x y j p.outside (omega arith)),
                ),
              );
        }

-- ---- what FS separates by

pub separator-is : (edition : ℕ) (x y t : List ℕ) (r : Kind) (from n : ℕ) → from ≡ fs_slot * slot_bytes + head_size → Shown x y fs_slot n
    → (Tells edition (mid_of from (from + n - from) y) t r) × (Sized r t) → SeparatorOf edition x y t r
separator-is edition x y t r from n e o k =
    record {
      slotted = o.slotted;
      tells =
          rw (part-lent y from (from + n) n refl ∙ ap (λ (a : ℕ). part a n y) e ∙ o.bytes) at k.0;
      sized = k.1;
    }

-- ---- by the field number in a slot

pub field-most : (q : Result ℕ) (f : FieldNumber) → FieldBy q f → f.stop ≡ 0 → f.k ≤ field_count
field-most (gives k) f b e = omega (arith, b.1, b.2)
field-most (stops z) f b e = absurd (b.1 e)

module _ (edition : ℕ) (fs : List ℕ) (s : Separator) (w : World) (x : List ℕ) (l : Line) (a : ℕ) (f : FieldNumber) where
  leaves-stop : (q : Result ℕ) → FieldBy q f → (f.stop ≡ 0 → ⊥) → InForce edition fs l s
      → Leaves edition fs s w x x l l a f.stop (bind q (λ k. only w (gives (field_at w k))))
  leaves-stop (gives k) b ne g = absurd (ne b.0)
  leaves-stop (stops z) b ne g = (b.0, ne, g, refl)

  leaves_field : (q : Result ℕ) (y : List ℕ) (r : Line) → FieldBy q f → f.stop ≡ 0
      → (InForce edition fs r s) × (store_of y r s ≡ with_slot (store_of x l s) a (field_at w f.k))
      → Leaves edition fs s w x y l r a 0 (bind q (λ k. only w (gives (field_at w k))))
  leaves_field (gives k) y r b e g =
      (refl, g.0, field_at w k, refl, g.1 ∙ ap (λ (n : ℕ). with_slot (store_of x l s) a (field_at w n)) b.1)
  leaves_field (stops z) y r b e g = absurd (b.1 e)

-- what `load_field` says
abbrev Loads : ℕ → List ℕ → Kind → List ℕ → List ℕ → Line → Line → ℕ → ℕ → Type 0
Loads edition t kind x y l r a outcome =
    Did x l y r (Safe x y r)
    ((fs : List ℕ) → Tells edition fs t kind → (s : Separator) → InForce edition fs l s → (w : World)
    → w.current ≡ record_of (line_of x l) (fields_of x l s) → Leaves edition fs s w x y l r a outcome (get_field (slot_at x a) w))

module _ (edition : ℕ) (t : List ℕ) (kind : Kind) (x : List ℕ) (l : Line) (a : ℕ) (f : FieldNumber) (b : FieldBy (field_number (slot_at x a)) f) where
  pub load-stop : Lined l → (f.stop ≡ 0 → ⊥) → Loads edition t kind x x l l a f.stop
  load-stop lined ne =
      did_nothing x l (record { size = refl; lined = lined })
      (λ fs tells s g w ew. leaves-stop edition fs s w x l a f (field_number (slot_at x a)) b ne g)

  pub load_field : (y : List ℕ) (r : Line) → f.stop ≡ 0
      → Did x l y r (Safe x y r)
      ((fs : List ℕ) → Tells edition fs t kind → (s : Separator) → InForce edition fs l s → (w : World)
      → w.current ≡ record_of (line_of x l) (fields_of x l s)
      → (InForce edition fs r s) × (store_of y r s ≡ with_slot (store_of x l s) a (field_at w f.k)))
      → Loads edition t kind x y l r a 0
  load_field y r e d =
      did_so (λ h fs tells s g w ew. leaves_field edition fs s w x l a f (field_number (slot_at x a)) y r b e (h fs tells s g w ew)) d
