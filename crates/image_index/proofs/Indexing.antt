-- The items of a list that were passed so far, and their entries.
use mathlib.Core.Path.{◌≡◌, refl, sym, ap, subst, ◌∙◌}
use mathlib.Core.List.{List, [], ◌∷◌, ◌++◌}
use mathlib.Core.Option.{none}
use Prim.Native.Nat.{ℕ, ◌+◌, ◌≤◌, ◌<◌}
use native.Mathlib.Omega.{arith}
use native.Mathlib.Numerals.{add-one}
use lib.ListN.{length, drop, set, length-set}
use lib.Seq.{get_or-set_same, get_or-set_other}
use Rattle.lists.proofs.Elements.{every_more, nth-more}
use Rattle.lists.proofs.Many.{on, many-length, many_more, many-next}
use Rattle.lists.proofs.Options.{none-some}
use Rattle.lists.specs.Elements.{nth, Every, empty}
use Rattle.lists.specs.Parsing.{parsed, many}
use Rattle.image_format.specs.Numbers.{take_number}
use Rattle.image_format.specs.Reading.{from_bytes, counted}
use Rattle.varint.specs.Room.{with_one}
use Rattle.varint.specs.Take.{TakesAt}
use Rattle.std.specs.Prelude.{Option as Answer, Some, None}
use Rattle.varint.proofs.Words.{one_set}
use Rattle.image_index.specs.Lists.{ItemOf, most_of, least_of, taker_of, FitsOf, TellsOf, EntryAt, Indexes, ItemsAt, ListAt}
use Rattle.image_index.specs.declared.indexes.Kind.{Kind}
use Rattle.image_index.specs.declared.indexes.Entry.{Entry}
use Rattle.image_index.specs.declared.indexes.Listed.{Listed}

module _ (edition : ℕ) (k : Kind) (l : List ℕ) where
  -- another item's entry, after those that there are
  told_more : (xs : List (ItemOf k)) (index : List ℕ) (a : ItemOf k) (x : ℕ) → Indexes edition k l xs index → TellsOf edition k l x a
      → Indexes edition k l (xs ++ (a ∷ [])) (set index (length xs) x)
  told_more xs index a x old new n b e h =
      let long = length-set index (length xs) x in
      nth-more xs a n b e
      (λ here same.
      rw (here, get_or-set_same index (length xs) x 0 (omega arith), ← same) new)
      (λ below there.
      rw (get_or-set_other index (length xs) n x 0 (λ z. omega arith)) (old n b there (omega arith)))

  module _ (first : ℕ) where
    pub record Passed (count at : ℕ) (index : List ℕ) : Type 0 where
      pub items : List (ItemOf k)
      pub taken : many (taker_of edition k) count (drop first l) ≡ parsed items (drop at l)
      pub forward : first ≤ at
      pub inside : at ≤ length l
      pub each : Every (FitsOf edition k) items
      pub told : Indexes edition k l items index

    pub passed_none : (index : List ℕ) → first ≤ length l → Passed 0 first index
    unfolding many nth
    passed_none index h =
        record {
          items = [];
          taken = refl;
          forward = omega arith;
          inside = h;
          each = empty;
          told = λ n a e. absurd (none-some e);
        }

    module _ (count at : ℕ) (index : List ℕ) (p : Passed count at index) where
      passed_length : length p.items ≡ count
      passed_length = many-length (taker_of edition k) count (drop first l) p.items (drop at l) p.taken

      pub passed-all : (n : ℕ) → count ≡ n → ItemsAt edition k l n first (Some (record { count = n; end = at })) index
      passed-all n e = (
        p.items,
        subst (λ (m : ℕ). many (taker_of edition k) m (drop first l) ≡ parsed p.items (drop at l)) e p.taken,
        p.forward,
        p.inside,
        refl,
        passed_length ∙ e,
        p.each,
        p.told,
      )

      pub passed-more : (x : Entry) → EntryAt edition k l at (Some x) → (index' : List ℕ)
          → index' ≡ with_one index count x.entry → Passed (count + 1) x.end index'
      passed-more x s index' e =
          let stored : set index (length p.items) x.entry ≡ index' = ap (λ (i : ℕ). set index i x.entry) passed_length ∙ sym (one_set index count x.entry) ∙ sym e in
          record {
            items = p.items ++ (s.0 ∷ []);
            taken = rw add-one (many_more (taker_of edition k) count (drop first l) p.items (drop at l) p.taken s.0 (drop x.end l) s.1.taken);
            forward = omega (arith, p.forward, s.1.forward);
            inside = s.1.inside;
            each = every_more p.each s.2;
            told = subst (Indexes edition k l (p.items ++ (s.0 ∷ []))) stored (told_more p.items index s.0 x.entry p.told s.3);
          }

      -- an item that isn't there, or doesn't fit
      pub passed-refused : EntryAt edition k l at None → (n : ℕ) → count < n → (index' : List ℕ)
          → ItemsAt edition k l n first None index'
      passed-refused y n few index' xs t i all =
          let z = many-next (taker_of edition k) (FitsOf edition k) count n few (drop first l) p.items xs t (drop at l) p.taken i all in
          y z.0 z.1 z.2 z.3

  -- ---- the list, by its count

  module _ (at : ℕ) (index : List ℕ) where
    pub list-missing : take_number (drop at l) ≡ none → ListAt edition k l at None index
    list-missing t xs u i f = none-some (sym (on (many (taker_of edition k)) t) ∙ i)

    module _ (n first : ℕ) (t : TakesAt l at (Some (n, first))) where
      on-count : counted from_bytes (taker_of edition k) (drop at l) ≡ many (taker_of edition k) n (drop first l)
      on-count = on (many (taker_of edition k)) t.0

      -- too few or too many
      pub list-unfit : (least_of k ≤ n → n ≤ most_of k → ⊥) → ListAt edition k l at None index
      list-unfit h xs u i f =
          let m = many-length (taker_of edition k) n (drop first l) xs u (sym on-count ∙ i) in
          h (subst (λ (x : ℕ). least_of k ≤ x) m f.some_items) (subst (λ (x : ℕ). x ≤ most_of k) m f.few)

      pub list-there : least_of k ≤ n → n ≤ most_of k → (r : Answer Listed) → ItemsAt edition k l n first r index
          → ListAt edition k l at r index
      list-there a b None y = λ xs u i f. y xs u (sym on-count ∙ i) f.each
      list-there a b (Some r) s =
          let m = s.5 in (
            s.0,
            record { taken = on-count ∙ s.1; forward = omega (arith, t.1, s.2); inside = s.3 },
            s.4 ∙ sym m,
            record {
              some_items = subst (λ (x : ℕ). least_of k ≤ x) (sym m) a;
              few = subst (λ (x : ℕ). x ≤ most_of k) (sym m) b;
              each = s.6;
            },
            s.7,
          )
