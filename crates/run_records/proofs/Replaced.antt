-- `$0` has become the text of a value.
use mathlib.Core.Path.{◌≡◌, refl, sym, ap, subst, ◌∙◌}
use mathlib.Core.List.{List}
use mathlib.Core.Option.{Option, some, none}
use Prim.Native.Nat.{ℕ, ◌+◌, ◌*◌, ◌≤◌, ◌<◌}
use native.Mathlib.Omega.{arith}
use lib.ListN.{length}
use Rattle.edition.specs.Outcomes.{bad_separator}
use Rattle.buffer.specs.Parts.{part}
use Rattle.splitting.specs.Separator.{Separator, separator_of}
use Rattle.splitting.specs.Field.{fields_of as spans_of}
use Rattle.splitting.specs.Splitting.{counted, separated}
use Rattle.separators.specs.Kinds.{Tells}
use Rattle.separators.specs.declared.kinds.Kind.{Kind}
use Rattle.values.specs.Value.{Value, stop, Result, gives, stops, bind, text_of}
use Rattle.semantics.specs.World.{World, special, field_values, split_by, with_record}
use Rattle.semantics.specs.Variables.{FS}
use Rattle.semantics.specs.Operations.{assigned}
use Rattle.run_room.specs.Layout.{head_size, slot_bytes, slot_count, base_end}
use Rattle.run_room.specs.Room.{slot_at, Lined, Store, store_of, with_line}
use Rattle.run_room.specs.Held.{Shown, Did}
use Rattle.run_room.specs.declared.lines.Line.{Line}
use Rattle.run_room.proofs.Stored.{did_nothing}
use Rattle.run_lines.specs.Records.{Safe, InForce, BegunBy, Began, refusal, Same, Becomes}
use Rattle.run_lines.proofs.Stored.{store-shown, held-shown}
use Rattle.run_input.proofs.Started.{no-separator, separator-told, same, becomes}

split-none : (edition : ℕ) (w : World) (a : Value) → separator_of edition (special w FS) ≡ none → assigned edition w 0 a ≡ stops (stop bad_separator)
unfolding split_by
split-none edition w a e = rw e

split-some : (edition : ℕ) (w : World) (a : Value) (s : Separator) → separator_of edition (special w FS) ≡ some s
    → assigned edition w 0 a ≡ bind (field_values (text_of a) (counted (spans_of (text_of a) s))) (λ vs. gives (with_record w (text_of a) vs))
unfolding split_by
split-some edition w a s e =
    ap (λ (o : Option Separator). bind (field_values (text_of a) (separated (text_of a) o)) (λ vs. gives (with_record w (text_of a) vs))) e

-- from a room that stands for the same
becomes-from : (edition : ℕ) (fs x u y : List ℕ) (l r : Line) (o : ℕ) (q : Result World) → ((s : Separator) → store_of u l s ≡ store_of x l s)
    → Becomes edition fs u y l r o q → Becomes edition fs x y l r o q
becomes-from edition fs x u y l r o (gives w) e b =
    (b.0, b.1, λ s s' f. b.2 s s' f ∙ ap (λ (st : Store). with_line st w.current.line w.current.fields) (e s))
becomes-from edition fs x u y l r o (stops z) e b = (b.0, b.1, λ s f. let g = b.2 s f in (g.0, g.1 ∙ e s))

module _ (edition : ℕ) (t : List ℕ) (kind : Kind) (x : List ℕ) (l : Line) (v o : ℕ) (lined : Lined l) (eo : o ≡ refusal kind) where
  pub set-refused : (o ≡ 0 → ⊥)
      → Did x l x l (Safe x x l)
      ((w : World) → Tells edition (special w FS) t kind → Becomes edition (special w FS) x x l l o (assigned edition w 0 (slot_at x v)))
  set-refused ne =
      did_nothing x l (record { size = refl; lined = lined })
      (λ w tells.
      let n = no-separator edition (special w FS) t kind tells (λ z. ne (eo ∙ z)) in
      subst (Becomes edition (special w FS) x x l l o) (sym (split-none edition w (slot_at x v) n.0))
      (ap stop (sym (eo ∙ n.1)), ne, same edition (special w FS) x x l l refl refl))

  pub set-begun : (u y : List ℕ) (r : Line) (n e : ℕ) → o ≡ 0 → base_end ≤ length x → v < slot_count → Shown x u v n
      → Began edition t kind (part (v * slot_bytes + head_size) n u) u y l r e
      → Did x l y r (Safe x y r)
      ((w : World) → Tells edition (special w FS) t kind → Becomes edition (special w FS) x y l r e (assigned edition w 0 (slot_at x v)))
  set-begun u y r n e z fits inside shown d =
      record {
        safe = record { size = d.safe.size ∙ shown.slotted.outside.size; lined = d.safe.lined };
        next = λ held.
            let m = d.next (held-shown x u l v n shown inside held) in (
              m.0,
              λ w tells.
                  let b = text_of (slot_at x v) in
                  let told = separator-told edition (special w FS) t kind (sym eo ∙ z) tells in
                  let s = told.0 in
                  subst (Becomes edition (special w FS) x y l r e) (sym (split-some edition w (slot_at x v) s told.1))
                  (becomes-from edition (special w FS) x u y l r e
                  (bind (field_values b (counted (spans_of b s))) (λ vs. gives (with_record w b vs)))
                  (store-shown x u l v n shown inside)
                  (becomes edition (special w FS) u y l r b e s (with_record w b) (field_values b (counted (spans_of b s)))
                  (omega (arith, d.safe.size, shown.slotted.outside.size)) d.safe.lined.placed told.1 (λ vs. refl)
                  (subst (λ (q : List ℕ). BegunBy (field_values q (counted (spans_of q s))) q u y s l r e) shown.bytes (m.1 s told.2)))),
            );
      }
