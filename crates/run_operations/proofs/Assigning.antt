-- Variables, got and set.
use mathlib.Core.Path.{◌≡◌, refl, sym, ap, ap₂, subst, ◌∙◌}
use mathlib.Core.Bool.{Bool}
use mathlib.Core.List.{List}
use mathlib.Core.Option.{Option, some, none}
use Prim.Native.Nat.{ℕ, zero, suc, ◌+◌, ◌≤◌, ◌<◌}
use native.Mathlib.Omega.{arith}
use native.Mathlib.Decide.{dec_le}
use lib.ListN.{length, drop}
use lib.IntN.{pos}
use Rattle.lists.specs.Elements.{nth}
use Rattle.edition.specs.Limits.{operand_depth, number_bound}
use Rattle.number.specs.Range.{unbias}
use Rattle.number.proofs.Bias.{unbias-plus}
use Rattle.splitting.specs.Separator.{Separator, separator_of}
use Rattle.ere_table.specs.Table.{table_words}
use Rattle.separators.specs.Kinds.{Sized, Tells}
use Rattle.separators.specs.declared.kinds.Kind.{Kind}
use Rattle.separators.specs.declared.kinds.Kind.TheVariants.{Blank, Byte, Pattern, Refused}
use Rattle.values.specs.Value.{Value, number, text_of}
use Rattle.semantics.specs.Variables.{Source, field-count, record_count, stored, Variable, variable, special_of}
use Rattle.semantics.specs.World.{World, Record, source_value, value_at}
use Rattle.opcodes.specs.Sources.{source_number, source_in}
use Rattle.run_room.specs.Layout.{slot_count, base_end}
use Rattle.run_room.specs.Room.{slot_at, slots_from, line_of, fields_of, Lined, Store, store_of, with_slot}
use Rattle.run_room.specs.Held.{SlotHeld, Held, Slotted, Did}
use Rattle.run_room.specs.declared.lines.Line.{Line}
use Rattle.run_room.proofs.Stored.{did-slot, did_so, store-slot, held-slot}
use Rattle.run_lines.specs.Records.{fs_slot, Safe, InForce, SeparatorOf}
use Rattle.run_lines.proofs.Stored.{some_one, all_known}
use Rattle.run_operations.specs.Assigns.{Known, fs_of, Assigns}
use Rattle.run_print.proofs.Showing.{slot-other, store-again, held-again}

-- ---- where a variable's value is

-- the value by the number of its source
abbrev numbered : World → ℕ → ℕ → Option Value
numbered w v zero = nth w.variables v
numbered w v (suc zero) = some (number (pos (length w.current.fields)))
numbered w v (suc (suc n)) = some (number (pos w.feed.count))

source_is : (w : World) (v : ℕ) (o : Option Variable)
    → (source_value w v o ≡ numbered w v (source_in o)) × (source_in o ≤ 2)
source_is w v none = (refl, omega arith)
source_is w v (some s) = by s.source s.assignable
  where
    by : (q : Source) (b : Bool)
        → (source_value w v (some (variable q b)) ≡ numbered w v (source_number q)) × (source_number q ≤ 2)
    by field-count b = (refl, omega arith)
    by record_count b = (refl, omega arith)
    by (stored a) b = (refl, omega arith)

value-is : (edition : ℕ) (w : World) (v source : ℕ) → source ≡ source_in (special_of edition v)
    → (value_at edition w v ≡ numbered w v source) × (source ≤ 2)
unfolding value_at
value-is edition w v source e =
    let h = source_is w v (special_of edition v) in
    (h.0 ∙ ap (numbered w v) (sym e), omega (arith, h.1))

some-value : (a b : Value) → some a ≡ some b → a ≡ b
some-value a b e = cc

-- ---- a variable is got

-- what `get_variable` says
abbrev Gets : ℕ → List ℕ → Kind → ℕ → ℕ → ℕ → List ℕ → List ℕ → Line → Line → Type 0
Gets edition t kind records v a x y l r =
    Did x l y r (Safe x y r)
    ((fs : List ℕ) → Tells edition fs t kind → (s : Separator) → InForce edition fs l s
    → (w : World) → Known x l s records w → (b : Value) → value_at edition w v ≡ some b
    → (InForce edition fs r s) × (store_of y r s ≡ with_slot (store_of x l s) a b))

module _ (edition : ℕ) (t : List ℕ) (kind : Kind) (records v a source : ℕ) (x y : List ℕ) (l : Line)
    (from : source ≡ source_in (special_of edition v)) where
  -- the value of a variable whose source has the number n
  value-by : (w : World) (b : Value) (n : ℕ) → source ≡ n → value_at edition w v ≡ some b → numbered w v n ≡ some b
  value-by w b n e eb = ap (numbered w v) (sym e) ∙ sym (value-is edition w v source from).0 ∙ eb

  pub gets-fields : (r : Line) → source ≡ 1
      → Did x l y r (Safe x y r)
      ((fs : List ℕ) → Tells edition fs t kind → (s : Separator) → InForce edition fs l s
      → (InForce edition fs r s)
      × (store_of y r s ≡ with_slot (store_of x l s) a (number (pos (length (fields_of x l s))))))
      → Gets edition t kind records v a x y l r
  gets-fields r e d =
      did_so
      (λ h fs tells s g w known b eb.
      let q = h fs tells s g in
      let n : number (pos (length (fields_of x l s))) ≡ b =
      ap (λ (c : Record). number (pos (length c.fields))) (sym known.current)
      ∙ some-value _ b (value-by w b 1 e eb) in
      (q.0, q.1 ∙ ap (with_slot (store_of x l s) a) n))
      d

  module _ (inside : a < slot_count) (lined : Lined l) where
    -- a slot is set, and the record is as it was
    gets-slot : (u : Value) (From : Type 0) → Slotted x y a u From → (Held x l → From)
        → ((s : Separator) (w : World) → Known x l s records w → (b : Value) → value_at edition w v ≡ some b → u ≡ b)
        → Gets edition t kind records v a x y l l
    gets-slot u From o held same =
        did_so (λ h fs tells s g w known b eb. (g, h s ∙ ap (with_slot (store_of x l s) a) (same s w known b eb)))
        (did-slot x y l a u o inside (record { size = o.outside.size; lined = lined }) held)

    pub gets-records : source ≡ 2 → Slotted x y a (number (unbias (number_bound + records))) Unit
        → Gets edition t kind records v a x y l l
    gets-records e o =
        gets-slot (number (unbias (number_bound + records))) Unit o (λ h. tt)
        (λ s w known b eb.
        ap number (unbias-plus records ∙ ap pos (sym known.count)) ∙ some-value _ b (value-by w b 2 e eb))

    pub gets-stored : (source ≡ 1 → ⊥) → (source ≡ 2 → ⊥) → operand_depth + v < slot_count
        → Slotted x y a (slot_at x (operand_depth + v)) (SlotHeld x (operand_depth + v))
        → Gets edition t kind records v a x y l l
    gets-stored e f in-slots o =
        gets-slot (slot_at x (operand_depth + v)) (SlotHeld x (operand_depth + v)) o
        (λ h. h.slots (operand_depth + v) in-slots)
        (λ s w known b eb.
        let z : source ≡ 0 = omega (arith, (value-is edition w v source from).1) in
        known.variables v b (value-by w b 0 z eb))

-- ---- a variable is set

pub any-sized : (k : Kind) (t : List ℕ) → length t ≡ table_words → Sized k t
any-sized Blank t e = tt
any-sized (Byte b) t e = tt
any-sized Pattern t e = e
any-sized Refused t e = tt

-- two separators in force: they are the same, or no field is to be split off
store-either : (edition : ℕ) (fs x : List ℕ) (l : Line) (s s' : Separator) → base_end ≤ length x → Lined l
    → InForce edition fs l s → InForce edition fs l s'
    → store_of x l s ≡ store_of x l s'
unfolding store_of
store-either edition fs x l s s' fits lined f g =
    ap (λ (vs : List Value).
    record { slots = slots_from 0 slot_count x; line = line_of x l; fields = vs; rest = drop base_end x })
    (elim (dec_le l.after l.size) [
      | yes p ↦ ap (fields_of x l) (some_one s s' (sym (f p) ∙ g p))
      | no p ↦
          all_known x l s fits lined.placed (omega arith) ∙ sym (all_known x l s' fits lined.placed (omega arith))
    ])

module _ (edition : ℕ) (t : List ℕ) (kind : Kind) (x : List ℕ) (l : Line) (v a : ℕ) where
  pub sets-other : (y : List ℕ) → base_end ≤ length x → Lined l → length t ≡ table_words → operand_depth + v < slot_count
      → a < slot_count
      → (operand_depth + v ≡ fs_slot → ⊥) → Slotted x y (operand_depth + v) (slot_at x a) (SlotHeld x a)
      → Did x l y l ((Safe x y l) × (length t ≡ table_words)) (Assigns edition t t kind kind x y l l v a)
  sets-other y fits lined sized inside from ne o =
      did_so
      (λ h tells.
      let same : fs_of y ≡ fs_of x =
      ap text_of (slot-other x y (operand_depth + v) (slot_at x a) o fs_slot (λ z. ne (sym z))) in (
        subst (λ (fs : List ℕ). Tells edition fs t kind) (sym same) tells,
        λ f. (f.0, subst (λ (fs : List ℕ). InForce edition fs l f.0) (sym same) f.1),
        λ s s' f g.
            h s'
            ∙ ap (λ (st : Store). with_slot st (operand_depth + v) (slot_at x a))
            (store-either edition (fs_of x) x l s' s fits lined
            (subst (λ (fs : List ℕ). InForce edition fs l s') same g) f),
      ))
      (did-slot x y l (operand_depth + v) (slot_at x a) o inside
      ((record { size = o.outside.size; lined = lined }, sized)) (λ h. h.slots a from))

  pub sets-separator : (y z t' : List ℕ) (kind' : Kind) (r : Line) → length t' ≡ table_words → operand_depth + v ≡ fs_slot
      → Did x l y r (Safe x y r)
      ((r.size < r.after)
      × ((fs : List ℕ) → Tells edition fs t kind → (s s' : Separator) → InForce edition fs l s
      → store_of y r s' ≡ with_slot (store_of x l s) fs_slot (slot_at x a)))
      → SeparatorOf edition y z t' kind'
      → Did x l z r ((Safe x z r) × (length t' ≡ table_words)) (Assigns edition t t' kind kind' x z l r v a)
  sets-separator y z t' kind' r sized e d p =
      let o = p.slotted in
      record {
        safe = (record { size = o.outside.size ∙ d.safe.size; lined = d.safe.lined }, sized);
        next = λ h.
            let n = d.next h in (
              held-again y z fs_slot o (omega arith) r n.0,
              λ tells. (
                subst (λ (u : Value). Tells edition (text_of u) t' kind') (sym o.value) p.tells,
                λ f. (f.0, λ h. absurd (omega (arith, n.1.0))),
                λ s s' f g.
                    store-again y z fs_slot o (omega arith) r s'
                    ∙ n.1.1 (fs_of x) tells s s' f
                    ∙ ap (λ (i : ℕ). with_slot (store_of x l s) i (slot_at x a)) (sym e),
              ),
            );
      }
