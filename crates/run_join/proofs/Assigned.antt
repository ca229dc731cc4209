-- A field that was assigned.
use mathlib.Core.Path.{◌≡◌, refl, sym, ap, ap₂, subst, ◌∙◌}
use mathlib.Core.Bool.{Bool, true, false, cond}
use mathlib.Core.List.{List, [], ◌∷◌, ◌++◌, append-nil}
use Prim.Native.Nat.{ℕ, zero, suc, ◌+◌, ◌-◌, ◌*◌, ◌≤◌, ◌<◌}
use native.Mathlib.Omega.{arith}
use native.Mathlib.Decide.{dec_lt, ℕ_discrete}
use lib.ListN.{length, get_or, set, drop, replicate, length-set, length-append, length-replicate, get_or-replicate, get_or-append}
use lib.Seq.{ext_get_or, get_or-set_same, get_or-set_other, get_or-append-add, get_or_at}
use lib.Dec.{eqb, ltb, leb}
use borrow.Author.Tests.{eq-eqb, ne_eqb, lt-ltb, le-ltb, le-leb, lt-leb}
use Rattle.edition.specs.Limits.{text_bytes, field_count, operand_depth}
use Rattle.edition.specs.Outcomes.{text_too_long}
use Rattle.buffer.specs.Parts.{part}
use Rattle.splitting.specs.Separator.{Separator}
use Rattle.separators.specs.Kinds.{Tells}
use Rattle.separators.specs.declared.kinds.Kind.{Kind}
use Rattle.values.specs.Value.{Value, unset, text_of, stop, Result, gives, stops}
use Rattle.semantics.specs.World.{World, Record, record_of, special, with_record}
use Rattle.semantics.specs.Variables.{OFS}
use Rattle.semantics.specs.Operations.{joined, grown, rebuilt, assigned}
use Rattle.run_room.specs.Layout.{head_size, slot_bytes, slot_count, slots_end, record_start, entries_start, entry_bytes, base_end}
use Rattle.run_room.specs.Room.{slot_at, slots_from, line_of, entry_at, entries_to, pending_of, fields_of, Placed, Lined, Outside, Store, store_of, with_line}
use Rattle.run_room.specs.Held.{Held, Did, Shown}
use Rattle.run_room.specs.declared.lines.Line.{Line}
use Rattle.run_room.proofs.Outside.{outside_wider, part-before}
use Rattle.run_room.proofs.Slotwise.{slot-before, slots-before}
use Rattle.run_room.proofs.Entrywise.{length-entries, get_d-entries}
use Rattle.run_lines.specs.Records.{ofs_slot, Safe, InForce, SplitsAll, Becomes}
use Rattle.run_lines.proofs.Turn.{slot_kept, lined-few}
use Rattle.run_lines.proofs.Stored.{force-pends, store-all, all-lined, all_known, store-shown, fields-shown, held-shown}
use Rattle.run_parts.specs.Join.{new_field, new_fields, joined_text, Joins}
use Rattle.run_parts.proofs.Joined.{length-new}

get_d-new : (x : List ℕ) (l : Line) (k v n i : ℕ) → i < n → get_or (new_fields x l k v n) i unset ≡ new_field x l k v i
unfolding new_fields
get_d-new x l k v zero i h = absurd (omega arith)
get_d-new x l k v (suc n) i h =
    let e = length-new x l k v [] n in
    elim (dec_lt i n) [
      | yes p ↦ get_or-append (new_fields x l k v n) (new_field x l k v n ∷ []) unset i (omega arith) ∙ get_d-new x l k v n i p
      | no p ↦
          (let z : length (new_fields x l k v n) ≡ i = omega arith in
          get_or_at (new_fields x l k v n) (new_field x l k v n) [] unset i z ∙ (let q : n ≡ i = omega arith in ap (new_field x l k v) q))
    ]

-- ---- the fields are the definition's

module _ (x : List ℕ) (l : Line) (k v count : ℕ) (a : Value) (ea : slot_at x v ≡ a) (hc : count ≡ l.known + (suc k - l.known)) where
  F : List Value
  F = entries_to (line_of x l) x l.known

  grew : List Value
  grew = F ++ replicate (suc k - l.known) unset

  length-grew : length grew ≡ count
  unfolding grew F
  length-grew =
      length-append (entries_to (line_of x l) x l.known) (replicate (suc k - l.known) unset)
      ∙ ap₂ (λ (n m : ℕ). n + m) (length-entries (line_of x l) x l.known) (length-replicate (suc k - l.known) unset) ∙ sym hc

  grew-known : (i : ℕ) → i < l.known → get_or grew i unset ≡ entry_at (line_of x l) x i
  unfolding grew F
  grew-known i h =
      let e = length-entries (line_of x l) x l.known in
      get_or-append (entries_to (line_of x l) x l.known) (replicate (suc k - l.known) unset) unset i (omega arith) ∙ get_d-entries (line_of x l) x l.known i h

  grew-past : (i : ℕ) → l.known ≤ i → i < count → get_or grew i unset ≡ unset
  unfolding grew F
  grew-past i h g =
      let e = length-entries (line_of x l) x l.known in
      let z : i ≡ length (entries_to (line_of x l) x l.known) + (i - l.known) = omega arith in
      ap (λ (j : ℕ). get_or (entries_to (line_of x l) x l.known ++ replicate (suc k - l.known) unset) j unset) z
      ∙ get_or-append-add (entries_to (line_of x l) x l.known) (replicate (suc k - l.known) unset) (i - l.known) unset
      ∙ get_or-replicate (suc k - l.known) (i - l.known) unset unset (omega arith)

  each : (i : ℕ) → i < count → Dec (i ≡ k) → new_field x l k v i ≡ get_or (set grew k a) i unset
  unfolding new_field
  each i h (yes e) =
      (rw (eq-eqb i k e) ea)
      ∙ sym (get_or-set_same grew k a unset (let z = length-grew in omega arith))
      ∙ ap (λ (j : ℕ). get_or (set grew k a) j unset) (sym e)
  each i h (no ne) =
      elim (dec_lt i l.known) [
        | yes p ↦ (rw (ne_eqb i k ne, lt-ltb i l.known p)) ∙ sym (grew-known i p)
        | no p ↦ (rw (ne_eqb i k ne, le-ltb i l.known (omega arith))) ∙ sym (grew-past i (omega arith) h)
      ]
      ∙ sym (get_or-set_other grew k i a unset ne)

  new-all : new_fields x l k v count ≡ set grew k a
  new-all =
      ext_get_or unset _ _ (length-new x l k v [] count ∙ sym (length-set grew k a ∙ length-grew))
      (λ i h.
      let h' : i < count = (let z = length-new x l k v [] count in omega arith) in
      get_d-new x l k v count i h' ∙ each i h' (ℕ_discrete i k))

  pub new_is : (fs : List Value) → fs ≡ entries_to (line_of x l) x l.known → new_fields x l k v count ≡ set (grown (suc k) fs) k a
  unfolding grew F
  new_is fs e =
      let n : length fs ≡ l.known = ap length e ∙ length-entries (line_of x l) x l.known in
      new-all ∙ ap₂ (λ (m : ℕ) (q : List Value). set (q ++ replicate (suc k - m) unset) k a) (sym n) (sym e)

-- the record and the fields of a store are replaced, so the separator doesn't matter
with-any : (x : List ℕ) (l : Line) (s s₀ : Separator) (line : List ℕ) (vs : List Value) → with_line (store_of x l s) line vs ≡ with_line (store_of x l s₀) line vs
unfolding store_of
with-any x l s s₀ line vs = refl

-- ---- the room after the join

module _ (x y : List ℕ) (l r : Line) (k v count at : ℕ) (b : List ℕ) (fits : base_end ≤ length x) (i : Placed l) (few : count ≤ field_count)
    (j : Joins x y l k v b count at) (most : length (joined_text b (new_fields x l k v count)) ≤ text_bytes)
    (side : r.side ≡ 1 - l.side) (size : r.size ≡ at) (known : r.known ≡ count) (after : r.after ≡ at + 1) where
  pub joined-lined : Lined r
  joined-lined = record { placed = record { side = omega (arith, side); size = omega (arith, size, j.place) }; few = omega (arith, size, known, after) }

  line-is : line_of y r ≡ joined_text b (new_fields x l k v count)
  unfolding line_of
  line-is = ap₂ (λ (n m : ℕ). part (record_start n) m y) side size ∙ j.text

  fields-are : (s : Separator) → fields_of y r s ≡ new_fields x l k v count
  fields-are s =
      all_known y r s (omega (arith, j.outside.size)) joined-lined.placed (omega (arith, size, after))
      ∙ ap₂ (λ (t : List ℕ) (n : ℕ). entries_to t y n) (line-is ∙ sym (append-nil (joined_text b (new_fields x l k v count)))) known
      ∙ j.known []

  pub joined_store : (s s' : Separator) → store_of y r s' ≡ with_line (store_of x l s) (joined_text b (new_fields x l k v count)) (new_fields x l k v count)
  unfolding store_of
  joined_store s s' = rw (slots-before slots_end base_end x y slot_count 0 j.outside (omega arith), line-is, fields-are s', j.outside.after)

  pub joined-held : Held x l → Held y r
  joined-held h =
      record {
        slots = λ n g. slot_kept slots_end base_end x y n j.outside (omega arith) (h.slots n g);
        entries = λ n g. j.held (line_of y r) n (omega (arith, g, known));
      }

-- ---- the two ways of `set_field`

-- The rooms: x at entry, u with OFS shown, y with all fields split off. b is the text of OFS.
module _ (edition : ℕ) (t : List ℕ) (kind : Kind) (x u y : List ℕ) (l all : Line) (k v count n : ℕ) (fits : base_end ≤ length x) (lined : Lined l)
    (o : Shown x u ofs_slot n) (p : SplitsAll edition t kind u y l all) (slot : v < operand_depth) (hc : count ≡ all.known + (suc k - all.known)) where
  fits-u : base_end ≤ length u
  fits-u = omega (arith, o.slotted.outside.size)

  lined-all : Lined all
  lined-all = all-lined edition t kind u y l all lined.placed p

  -- the text between the fields
  pub between : part (ofs_slot * slot_bytes + head_size) n y ≡ text_of (slot_at x ofs_slot)
  between = part-before entries_start base_end (ofs_slot * slot_bytes + head_size) n p.outside (omega (arith, o.most)) ∙ o.bytes

  value_same : slot_at y v ≡ slot_at x v
  value_same =
      slot-before entries_start base_end u y v p.outside (omega arith)
      ∙ slot-before (ofs_slot * slot_bytes) (ofs_slot * slot_bytes + slot_bytes) x u v o.slotted.outside (omega arith)

  store-y : (fs : List ℕ) (s s' : Separator) → Tells edition fs t kind → InForce edition fs l s → store_of y all s' ≡ store_of x l s
  store-y fs s s' tells f =
      store-all edition t kind u y l all s s' fits-u lined p (force-pends edition fs t kind l s tells f) ∙ store-shown x u l ofs_slot n o (omega arith) s

  held-y : Held x l → Held y all
  held-y h = p.held (held-shown x u l ofs_slot n o (omega arith) h)

  module _ (fs : List ℕ) (tells : Tells edition fs t kind) (s : Separator) (f : InForce edition fs l s) (w : World)
      (ew : w.current ≡ record_of (line_of x l) (fields_of x l s)) (eb : special w OFS ≡ text_of (slot_at x ofs_slot)) where
    known-all : w.current.fields ≡ entries_to (line_of y all) y all.known
    known-all =
        ap (λ (q : Record). q.fields) ew
        ∙ sym (fields-shown x u l ofs_slot n o (omega arith) s)
        ∙ sym (p.fields s s (force-pends edition fs t kind l s tells f) (lined-few u l fits-u lined s))
        ∙ all_known y all s (omega (arith, p.outside.size)) lined-all.placed p.done

    fields-new : new_fields y all k v count ≡ set (grown (suc k) w.current.fields) k (slot_at x v)
    fields-new = new_is y all k v count (slot_at x v) value_same hc w.current.fields known-all

    answer : List Value → List ℕ → Result World
    answer vs line = cond (leb (length line) text_bytes) (gives (with_record w line vs)) (stops (stop text_too_long))

    assigned-is : assigned edition w (suc k) (slot_at x v)
        ≡ answer (new_fields y all k v count) (joined_text (part (ofs_slot * slot_bytes + head_size) n y) (new_fields y all k v count))
    unfolding answer joined_text
    assigned-is =
        ap (rebuilt w) (sym fields-new)
        ∙ ap (λ (q : List ℕ). answer (new_fields y all k v count) (joined q (new_fields y all k v count))) (eb ∙ sym between)

    long-is : text_bytes < length (joined_text (part (ofs_slot * slot_bytes + head_size) n y) (new_fields y all k v count))
        → assigned edition w (suc k) (slot_at x v) ≡ stops (stop text_too_long)
    unfolding answer
    long-is h =
        assigned-is
        ∙ rw (lt-leb (length (joined_text (part (ofs_slot * slot_bytes + head_size) n y) (new_fields y all k v count))) text_bytes h)

    short-is : length (joined_text (part (ofs_slot * slot_bytes + head_size) n y) (new_fields y all k v count)) ≤ text_bytes
        → assigned edition w (suc k) (slot_at x v)
        ≡ gives (with_record w (joined_text (part (ofs_slot * slot_bytes + head_size) n y) (new_fields y all k v count)) (new_fields y all k v count))
    unfolding answer
    short-is h =
        assigned-is
        ∙ rw (le-leb (length (joined_text (part (ofs_slot * slot_bytes + head_size) n y) (new_fields y all k v count))) text_bytes h)

  -- what `set_field` says
  abbrev Assigns : List ℕ → Line → ℕ → Type 0
  Assigns z r outcome =
      Did x l z r (Safe x z r)
      ((fs : List ℕ) → Tells edition fs t kind → (s : Separator) → InForce edition fs l s → (w : World)
      → w.current ≡ record_of (line_of x l) (fields_of x l s) → special w OFS ≡ text_of (slot_at x ofs_slot)
      → Becomes edition fs x z l r outcome (assigned edition w (suc k) (slot_at x v)))

  pub set_long : text_bytes < length (joined_text (part (ofs_slot * slot_bytes + head_size) n y) (new_fields y all k v count)) → Assigns y all 14
  set_long h =
      record {
        safe = record { size = p.outside.size ∙ o.slotted.outside.size; lined = lined-all };
        next = λ held. (
          held-y held,
          λ fs tells s f w ew eb.
              subst (Becomes edition fs x y l all 14) (sym (long-is fs tells s f w ew eb h))
              (refl, (λ q. omega arith), λ s g. ((λ q. absurd (omega (arith, q, p.done))), store-y fs s s tells g)),
        );
      }

  pub set-some : (z : List ℕ) (r : Line) (at outcome : ℕ) → count ≤ field_count
      → Joins y z all k v (part (ofs_slot * slot_bytes + head_size) n y) count at
      → length (joined_text (part (ofs_slot * slot_bytes + head_size) n y) (new_fields y all k v count)) ≤ text_bytes
      → r.side ≡ 1 - all.side → r.size ≡ at → r.known ≡ count → r.after ≡ at + 1 → outcome ≡ 0
      → Assigns z r outcome
  set-some z r at outcome few j h e1 e2 e3 e4 e5 =
      let b = part (ofs_slot * slot_bytes + head_size) n y in
      let fits-y : base_end ≤ length y = omega (arith, p.outside.size, o.slotted.outside.size) in
      record {
        safe =
            record {
              size = j.outside.size ∙ p.outside.size ∙ o.slotted.outside.size;
              lined = joined-lined y z all r k v count at b fits-y lined-all.placed few j h e1 e2 e3 e4;
            };
        next = λ held. (
          joined-held y z all r k v count at b fits-y lined-all.placed few j h e1 e2 e3 e4 (held-y held),
          λ fs tells s f w ew eb.
              subst (Becomes edition fs x z l r outcome) (sym (short-is fs tells s f w ew eb h)) (
                e5,
                (s, λ q. absurd (omega (arith, q, e2, e4))),
                λ s₀ s' g.
                    joined_store y z all r k v count at b fits-y lined-all.placed few j h e1 e2 e3 e4 s s'
                    ∙ ap (λ (st : Store). with_line st (joined_text b (new_fields y all k v count)) (new_fields y all k v count)) (store-y fs s s tells f)
                    ∙ with-any x l s s₀ (joined_text b (new_fields y all k v count)) (new_fields y all k v count),
              ),
        );
      }
