-- A field that was assigned by its number in a slot.
use mathlib.Core.Path.{◌≡◌, refl, sym, ap, ap₂, subst, ◌∙◌}
use mathlib.Core.List.{List, [], ◌∷◌}
use Prim.Native.Nat.{ℕ, zero, suc, ◌+◌, ◌-◌, ◌*◌, ◌≤◌, ◌<◌}
use native.Mathlib.Omega.{arith}
use lib.ListN.{length, get_or}
use Rattle.edition.specs.Limits.{field_count, operand_depth}
use Rattle.splitting.specs.Separator.{Separator}
use Rattle.separators.specs.Kinds.{Tells}
use Rattle.separators.specs.declared.kinds.Kind.{Kind}
use Rattle.values.specs.Value.{Value, unset, stop, Result, gives, stops, bind, text_of}
use Rattle.values.specs.Operations.{field_number}
use Rattle.semantics.specs.World.{World, record_of, special}
use Rattle.semantics.specs.Variables.{FS, OFS}
use Rattle.semantics.specs.Operations.{Effect, effect, assigned, set_field}
use Rattle.run_room.specs.Layout.{slot_count, base_end}
use Rattle.run_room.specs.Room.{slot_at, slots_from, line_of, fields_of, Lined, Store, store_of, with_slot, with_line}
use Rattle.run_room.specs.Held.{SlotHeld, Held, Slotted, Did}
use Rattle.run_room.specs.declared.lines.Line.{Line}
use Rattle.run_room.proofs.Slotwise.{get_d-slots}
use Rattle.run_room.proofs.Stored.{store-slot, held-slot, did_nothing, did_so}
use Rattle.run_lines.specs.Records.{ofs_slot, Safe, InForce, Same, Becomes}
use Rattle.run_numbers.specs.Numbers.{FieldBy}
use Rattle.run_numbers.specs.declared.numbers.FieldNumber.{FieldNumber}
use Rattle.run_input.proofs.Started.{same}
use Rattle.run_join.specs.Stores.{Stands, Assigns, Effected, Stores}

-- the slots of two rooms that stand for the same but for the record
slot-store : (x y : List ℕ) (l r : Line) (s s' : Separator) (line : List ℕ) (vs : List Value) (j : ℕ) → j < slot_count
    → store_of y r s' ≡ with_line (store_of x l s) line vs → slot_at y j ≡ slot_at x j
unfolding store_of
slot-store x y l r s s' line vs j h e =
    let z : 0 + j ≡ j = omega arith in
    let at : (q : List ℕ) → get_or (slots_from 0 slot_count q) j unset ≡ slot_at q j = λ q. get_d-slots slot_count 0 q j h ∙ ap (slot_at q) z in
    sym (at y) ∙ ap (λ (st : Store). get_or st.slots j unset) e ∙ at x

module _ (edition : ℕ) (fs x y z : List ℕ) (l r : Line) (a : ℕ) (inside : a + 1 < slot_count) (o : Slotted y z a (slot_at y (a + 1)) (SlotHeld y (a + 1))) where
  effected : (q : Result World) → Becomes edition fs x y l r 0 q
      → Effected edition fs x z l r a 0 (bind q (λ w. gives (effect (slot_at x (a + 1) ∷ []) w)))
  effected (gives w) b = (
    refl,
    b.1,
    refl,
    λ s s' f.
        let e = b.2 s s' f in
        store-slot y z r a (slot_at y (a + 1)) o (omega arith) s'
        ∙ ap₂ (λ (st : Store) (v : Value). with_slot st a v) e (slot-store x y l r s s' w.current.line w.current.fields (a + 1) inside e),
  )
  effected (stops u) b = absurd (b.1 refl)

-- a stop of the assignment
stops-on : (edition : ℕ) (fs x y : List ℕ) (l r : Line) (a o : ℕ) (q : Result World) (f : World → Effect) → (o ≡ 0 → ⊥) → Becomes edition fs x y l r o q
    → Effected edition fs x y l r a o (bind q (λ w. gives (f w)))
stops-on edition fs x y l r a o (gives w) f ne b = absurd (ne b.0)
stops-on edition fs x y l r a o (stops z) f ne b = b

-- the world of a room: what `set_field` and `set_record` ask
module _ (edition : ℕ) (t : List ℕ) (kind : Kind) (x y : List ℕ) (l r : Line) (v o : ℕ) where
  -- the ways of `assign`
  pub assigns-record : (k : ℕ) → k ≡ 0
      → Did x l y r (Safe x y r)
      ((w : World) → Tells edition (special w FS) t kind → Becomes edition (special w FS) x y l r o (assigned edition w 0 (slot_at x v)))
      → Assigns edition t kind x y l r k v o
  assigns-record k e d =
      did_so (λ h s w u. subst (λ (n : ℕ). Becomes edition (special w FS) x y l r o (assigned edition w n (slot_at x v))) (sym e) (h w u.tells)) d

  pub assigns-field : (k : ℕ) → (k ≡ 0 → ⊥)
      → Did x l y r (Safe x y r)
      ((fs : List ℕ) → Tells edition fs t kind → (s : Separator) → InForce edition fs l s → (w : World)
      → w.current ≡ record_of (line_of x l) (fields_of x l s) → special w OFS ≡ text_of (slot_at x ofs_slot)
      → Becomes edition fs x y l r o (assigned edition w (suc (k - 1)) (slot_at x v)))
      → Assigns edition t kind x y l r k v o
  assigns-field k ne d =
      let e : suc (k - 1) ≡ k = omega (arith, ne) in
      did_so
      (λ h s w u.
      subst (λ (n : ℕ). Becomes edition (special w FS) x y l r o (assigned edition w n (slot_at x v))) e
      (h (special w FS) u.tells s u.force w u.current u.between)) d

-- by the field number
module _ (edition : ℕ) (fs x y : List ℕ) (l r : Line) (a o : ℕ) (f : FieldNumber) (w : World) where
  number_stops : (q : Result ℕ) → FieldBy q f → (f.stop ≡ 0 → ⊥)
      → Effected edition fs x x l l a f.stop
      (bind q (λ k. bind (assigned edition w k (slot_at x (a + 1))) (λ u. gives (effect (slot_at x (a + 1) ∷ []) u))))
  number_stops (gives k) b ne = absurd (ne b.0)
  number_stops (stops z) b ne = (b.0, ne, same edition fs x x l l refl refl)

  number-goes : (q : Result ℕ) → FieldBy q f → f.stop ≡ 0
      → Effected edition fs x y l r a o (bind (assigned edition w f.k (slot_at x (a + 1))) (λ u. gives (effect (slot_at x (a + 1) ∷ []) u)))
      → Effected edition fs x y l r a o
      (bind q (λ k. bind (assigned edition w k (slot_at x (a + 1))) (λ u. gives (effect (slot_at x (a + 1) ∷ []) u))))
  number-goes (gives k) b e g =
      subst
      (λ (n : ℕ). Effected edition fs x y l r a o (bind (assigned edition w n (slot_at x (a + 1))) (λ u. gives (effect (slot_at x (a + 1) ∷ []) u))))
      b.1 g
  number-goes (stops z) b e g = absurd (b.1 e)

-- the ways of `store_field`
module _ (edition : ℕ) (t : List ℕ) (kind : Kind) (x : List ℕ) (l : Line) (a : ℕ) (lined : Lined l) (inside : a + 1 < operand_depth)
    (f : FieldNumber) (b : FieldBy (field_number (slot_at x a)) f) where
  pub stores-stop : (f.stop ≡ 0 → ⊥) → Stores edition t kind x x l l a f.stop
  stores-stop ne =
      did_nothing x l (record { size = refl; lined = lined })
      (λ s w u. number_stops edition (special w FS) x x l l a f.stop f w (field_number (slot_at x a)) b ne)

  module _ (e : f.stop ≡ 0) (y : List ℕ) (r : Line) (o : ℕ) (d : Assigns edition t kind x y l r f.k (a + 1) o) where
    pub stores-refused : (o ≡ 0 → ⊥) → Stores edition t kind x y l r a o
    stores-refused ne =
        did_so
        (λ h s w u.
        number-goes edition (special w FS) x y l r a o f w (field_number (slot_at x a)) b e
        (stops-on edition (special w FS) x y l r a o (assigned edition w f.k (slot_at x (a + 1))) (λ q. effect (slot_at x (a + 1) ∷ []) q) ne (h s w u))) d

    pub stores-value : o ≡ 0 → (z : List ℕ) → Slotted y z a (slot_at y (a + 1)) (SlotHeld y (a + 1)) → Stores edition t kind x z l r a o
    stores-value eo z c =
        record {
          safe = record { size = c.outside.size ∙ d.safe.size; lined = d.safe.lined };
          next = λ held.
              let n = d.next held in (
                held-slot y z r a (slot_at y (a + 1)) c (omega arith) (n.0.slots (a + 1) (omega arith)) n.0,
                λ s w u.
                    number-goes edition (special w FS) x z l r a o f w (field_number (slot_at x a)) b e
                    (subst
                    (λ (k : ℕ). Effected edition (special w FS) x z l r a k (bind (assigned edition w f.k (slot_at x (a + 1))) (λ q. gives (effect (slot_at x (a + 1) ∷ []) q))))
                    (sym eo)
                    (effected edition (special w FS) x y z l r a (omega arith) c (assigned edition w f.k (slot_at x (a + 1)))
                    (subst (λ (k : ℕ). Becomes edition (special w FS) x y l r k (assigned edition w f.k (slot_at x (a + 1)))) eo (n.1 s w u)))),
              );
        }
