-- The whole room, where a slot has changed or the record has been split further.
use mathlib.Core.Path.{◌≡◌, refl, sym, ap, ap₂, subst, ◌∙◌}
use mathlib.Core.List.{List, [], ◌∷◌, ◌++◌, append-nil}
use mathlib.Core.Option.{some}
use Prim.Native.Nat.{ℕ, zero, suc, ◌+◌, ◌-◌, ◌*◌, ◌≤◌, ◌<◌}
use native.Mathlib.Omega.{arith}
use native.Mathlib.Decide.{dec_lt, ℕ_discrete}
use lib.ListN.{length, drop, get_or, set, length-set, get_or-append, get_or-eq_default}
use lib.Seq.{ext_get_or, get_or-set_same, get_or-set_other}
use Rattle.edition.specs.Limits.{field_count}
use Rattle.buffer.specs.Parts.{part}
use Rattle.buffer.proofs.Parts.{part-part}
use Rattle.splitting.specs.Separator.{Separator, separator_of}
use Rattle.separators.specs.Kinds.{Means, Told, Tells}
use Rattle.separators.specs.declared.kinds.Kind.{Kind}
use Rattle.separators.specs.declared.kinds.Kind.TheVariants.{Blank, Byte, Pattern, Refused}
use Rattle.values.specs.Value.{Value, unset, field_text}
use Rattle.semantics.specs.World.{World, Record, record_of}
use Rattle.semantics.specs.Operations.{field_at}
use Rattle.run_room.specs.Layout.{slot_bytes, head_size, slot_count, record_start, entries_start, entry_bytes, base_end}
use Rattle.run_room.specs.Room.{word_at, size_in, value_by, slot_at, slots_from, line_of, entry_at, entries_to, pending_of, fields_of, Placed, Lined, Outside, Store, store_of, with_slot}
use Rattle.run_room.specs.Held.{SlotHeld, EntryHeld, Held, Slotted, Shown, Reads, Did}
use Rattle.run_room.specs.declared.lines.Line.{Line}
use Rattle.run_room.specs.declared.entries.Entry.{Entry}
use Rattle.run_room.proofs.Slotwise.{slots-before, get_d-slots}
use Rattle.run_room.proofs.Entrywise.{length-entries, get_d-entries, length-line}
use Rattle.run_room.proofs.Stored.{store-slot, held-slot}
use Rattle.run_lines.specs.Records.{Safe, Pends, InForce, Splits, SplitsAll, known_field}
use Rattle.run_lines.proofs.Turn.{line_kept, pending-past, fields-counted, lined-few, splits-pends, splits-placed, splits-lined}

-- ---- the separator in force

pub some_one : (s s' : Separator) → some s ≡ some s' → s ≡ s'
some_one s s' e = cc

told-means : (edition : ℕ) (fs t : List ℕ) (k : Kind) (s : Separator) → Told edition fs t k → separator_of edition fs ≡ some s → Means edition t k s
told-means edition fs t k s h e = subst (Means edition t k) (some_one h.0 s (sym h.1 ∙ e)) h.2

-- a separator that FS reads as is the one that the kind is for
pub means-of : (edition : ℕ) (fs t : List ℕ) (k : Kind) (s : Separator) → Tells edition fs t k → separator_of edition fs ≡ some s → Means edition t k s
means-of edition fs t Blank s h e = told-means edition fs t Blank s h e
means-of edition fs t (Byte b) s h e = told-means edition fs t (Byte b) s h e
means-of edition fs t Pattern s h e = told-means edition fs t Pattern s h e
means-of edition fs t Refused s h e = let z : ◌≡◌ {A = ℕ} 0 1 = cc in absurd (omega arith)

pub force-pends : (edition : ℕ) (fs t : List ℕ) (k : Kind) (l : Line) (s : Separator) → Tells edition fs t k → InForce edition fs l s → Pends edition t k l s
force-pends edition fs t k l s h f = λ p. means-of edition fs t k s h (f p)

-- ---- the record has been split further

pub store_by : (x y : List ℕ) (l r : Line) (s s' : Separator) → Placed l → Outside entries_start base_end x y → r.side ≡ l.side → r.size ≡ l.size → fields_of y r s' ≡ fields_of x l s
    → store_of y r s' ≡ store_of x l s
unfolding store_of
store_by x y l r s s' placed o e f q =
    rw (slots-before entries_start base_end x y slot_count 0 o (omega arith), line_kept entries_start x y l r o (omega arith) placed e f, q, o.after)

module _ (edition : ℕ) (t : List ℕ) (kind : Kind) (x y : List ℕ) (l r : Line) where
  pub store_split : (s : Separator) → Placed l → Splits edition t kind x y l r → Pends edition t kind l s → store_of y r s ≡ store_of x l s
  store_split s placed p m = store_by x y l r s s placed p.outside p.side p.size (p.fields s m)

  pub store-all : (s s' : Separator) → base_end ≤ length x → Lined l → SplitsAll edition t kind x y l r → Pends edition t kind l s → store_of y r s' ≡ store_of x l s
  store-all s s' fits lined p m =
      store_by x y l r s s' lined.placed p.outside p.side p.size (p.fields s s' m (lined-few x l fits lined s))

  pub all-lined : Placed l → SplitsAll edition t kind x y l r → Lined r
  all-lined placed p =
      record { placed = record { side = omega (arith, p.side, placed.side); size = omega (arith, p.size, placed.size) }; few = omega (arith, p.few, p.done) }

  -- the rest of `split_to` is nothing, or no field that an entry is left for
  module _ (fits : base_end ≤ length x) (placed : Placed l) (few : l.known ≤ field_count) (p : Splits edition t kind x y l r)
      (none : r.known < field_count → r.size < r.after) (most : l.known ≤ field_count → r.known ≤ field_count) where
    placed-r : Placed r
    placed-r = splits-placed edition t kind x y l r placed p

    none-pends : (s : Separator) → length (fields_of y r s) ≤ field_count → pending_of (line_of y r) s r.after ≡ []
    none-pends s h =
        elim (dec_lt r.known field_count) [
          | yes q ↦ pending-past (line_of y r) s r.after (let n = none q in omega (arith, length-line y r placed-r (omega (arith, p.outside.size))))
          | no q ↦ empty (pending_of (line_of y r) s r.after) (omega (arith, fields-counted y r s))
        ]
      where
        empty : (vs : List Value) → length vs ≡ 0 → vs ≡ []
        empty [] e = refl
        empty (v ∷ vs) e = absurd (omega arith)

    pub closed : (q : Line) → (q.side ≡ r.side) × (q.size ≡ r.size) × (q.known ≡ r.known) × (q.after ≡ r.size + 1)
        → (s s' : Separator) → length (fields_of y r s) ≤ field_count → fields_of y q s' ≡ fields_of y r s
    unfolding fields_of line_of
    closed q e s s' h =
        let same : line_of y q ≡ line_of y r = ap₂ (λ (n m : ℕ). part (record_start n) m y) e.0 e.1 in
        ap₂ (λ (b : List ℕ) (n : ℕ). entries_to b y n ++ pending_of b s' q.after) same e.2
        ∙ ap (λ (vs : List Value). entries_to (line_of y r) y r.known ++ vs)
        (pending-past (line_of y r) s' q.after (omega (arith, e.3, length-line y r placed-r (omega (arith, p.outside.size)))) ∙ sym (none-pends s h))

    pub all_of : (q : Line) → (q.side ≡ r.side) × (q.size ≡ r.size) × (q.known ≡ r.known) × (q.after ≡ r.size + 1) → SplitsAll edition t kind x y l q
    unfolding line_of
    all_of q e =
        let same : line_of y q ≡ line_of y r = ap₂ (λ (n m : ℕ). part (record_start n) m y) e.0 e.1 in
        record {
          outside = p.outside;
          side = e.0 ∙ p.side;
          size = e.1 ∙ p.size;
          few = omega (arith, most few, e.2);
          done = omega (arith, e.1, e.3);
          fields = λ s s' m h. closed q e s s' (omega (arith, h, ap length (p.fields s m))) ∙ p.fields s m;
          held = λ h.
              let g = p.held h in
              record { slots = g.slots; entries = λ k u. subst (λ (b : List ℕ). EntryHeld b y k) (sym same) (g.entries k (omega (arith, u, e.2))) };
        }

-- ---- a field

-- what is known is the field, where k fields are known or nothing is pending
pub known-field : (x : List ℕ) (r : Line) (k : ℕ) (s : Separator) (w : World) → base_end ≤ length x → Placed r → (r.known < k → r.size < r.after)
    → w.current ≡ record_of (line_of x r) (fields_of x r s) → known_field x r k ≡ field_at w k
unfolding fields_of
known-field x r zero s w fits placed all e = ap (λ (q : Record). field_text q.line) (sym e)
known-field x r (suc k) s w fits placed all e = by ∙ ap (λ (q : Record). get_or q.fields k unset) (sym e)
  where
    by : get_or (entries_to (line_of x r) x r.known) k unset ≡ get_or (fields_of x r s) k unset
    by =
        let line = line_of x r in
        let le : length (entries_to line x r.known) ≡ r.known = length-entries line x r.known in
        elim (dec_lt k r.known) [
          | yes p ↦ sym (get_or-append (entries_to line x r.known) (pending_of line s r.after) unset k (omega arith))
          | no p ↦
              (let n : pending_of line s r.after ≡ [] = pending-past line s r.after (let z = all (omega arith) in omega (arith, length-line x r placed fits)) in
              ap (λ (l : List Value). get_or l k unset) (sym (ap (λ (q : List Value). entries_to line x r.known ++ q) n ∙ append-nil (entries_to line x r.known))))
        ]

-- the ways of `put_field`
module _ (x : List ℕ) (l : Line) where
  pub known-record : (w a k : ℕ) → a ≡ record_start l.side → k ≡ 0 → value_by 3 w (part a l.size x) ≡ known_field x l k
  unfolding line_of value_by
  known-record w a zero ea e = ap (λ (n : ℕ). field_text (part n l.size x)) ea
  known-record w a (suc k) ea e = absurd (omega arith)

  pub known-above : (k : ℕ) → l.known < k → unset ≡ known_field x l k
  known-above zero h = absurd (omega arith)
  known-above (suc k) h =
      sym (get_or-eq_default (entries_to (line_of x l) x l.known) unset {n = k} (let e = length-entries (line_of x l) x l.known in omega arith))

  inner : (a p q : ℕ) → a ≡ record_start l.side → p + q ≤ l.size → part (a + p) q x ≡ part p q (line_of x l)
  unfolding line_of
  inner a p q e h = ap (λ (n : ℕ). part (n + p) q x) e ∙ sym (part-part x (record_start l.side) l.size p q h)

  pub known-entry : (a k : ℕ) (e : Entry) → a ≡ record_start l.side → (k ≡ 0 → ⊥) → k ≤ l.known → Reads x l (k - 1) e
      → value_by e.kind e.number (part (a + e.start) e.size x) ≡ known_field x l k
  known-entry a zero e ea z h r = absurd (z refl)
  known-entry a (suc k) e ea z h r =
      let ek : suc k - 1 ≡ k = omega arith in
      ap (value_by e.kind e.number) (inner a e.start e.size ea r.inside)
      ∙ r.value
      ∙ ap (entry_at (line_of x l) x) ek
      ∙ sym (get_d-entries (line_of x l) x l.known k (omega arith))

-- ---- the record is split to its end

pub all_known : (x : List ℕ) (l : Line) (s : Separator) → base_end ≤ length x → Placed l → l.size < l.after → fields_of x l s ≡ entries_to (line_of x l) x l.known
unfolding fields_of
all_known x l s fits i h =
    let len = length-line x l i fits in
    ap (λ (p : List Value). entries_to (line_of x l) x l.known ++ p) (pending-past (line_of x l) s l.after (omega arith)) ∙ append-nil (entries_to (line_of x l) x l.known)

-- ---- a slot's text is shown

set_same : (vs : List Value) (i : ℕ) → set vs i (get_or vs i unset) ≡ vs
set_same vs i =
    ext_get_or unset _ _ (length-set vs i (get_or vs i unset))
    (λ k h.
    elim (ℕ_discrete k i) [
      | yes e ↦
          (let h' : i < length vs = omega (arith, h, length-set vs i (get_or vs i unset)) in
          ap (λ (j : ℕ). get_or (set vs i (get_or vs i unset)) j unset) e ∙ get_or-set_same vs i (get_or vs i unset) unset h' ∙ ap (λ (j : ℕ). get_or vs j unset) (sym e))
      | no ne ↦ get_or-set_other vs i k (get_or vs i unset) unset ne
    ])

module _ (x y : List ℕ) (l : Line) (i n : ℕ) (o : Shown x y i n) (inside : i < slot_count) where
  slot_of : get_or (slots_from 0 slot_count x) i unset ≡ slot_at x i
  slot_of = let e : 0 + i ≡ i = omega arith in get_d-slots slot_count 0 x i inside ∙ ap (slot_at x) e

  pub store-shown : (s : Separator) → store_of y l s ≡ store_of x l s
  unfolding store_of
  store-shown s =
      store-slot x y l i (slot_at x i) o.slotted inside s
      ∙ ap (λ (vs : List Value). record { slots = vs; line = line_of x l; fields = fields_of x l s; rest = drop base_end x })
      (ap (set (slots_from 0 slot_count x) i) (sym slot_of) ∙ set_same (slots_from 0 slot_count x) i)

  pub held-shown : Held x l → Held y l
  held-shown h = held-slot x y l i (slot_at x i) o.slotted inside (h.slots i inside) h

  pub fields-shown : (s : Separator) → fields_of y l s ≡ fields_of x l s
  unfolding store_of
  fields-shown s = ap (λ (st : Store). st.fields) (store-shown s)
