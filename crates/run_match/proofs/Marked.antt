-- A match, and RSTART and RLENGTH after it.
use mathlib.Core.Path.{◌≡◌, refl, sym, ap, ap₂, subst, ◌∙◌}
use mathlib.Core.Bool.{Bool}
use mathlib.Core.List.{List}
use Rattle.std.specs.Prelude.{Option, Some, None}
use Prim.Native.Nat.{ℕ, suc, ◌+◌, ◌-◌, ◌*◌, ◌≤◌, ◌<◌, zero-le}
use native.Mathlib.Omega.{arith}
use native.Mathlib.Decide.{dec_lt}
use lib.ListN.{length, drop, get_or, length-take}
use lib.Seq.{get_or-take, get_or-drop}
use borrow.Rule.Slice.PartMut.{mid_of}
use Rattle.edition.specs.Limits.{text_bytes, number_bound}
use Rattle.number.specs.Range.{unbias}
use Rattle.number.proofs.Bias.{unbias-plus, unbias-minus}
use Rattle.splitting.specs.Separator.{Separator}
use Rattle.ere_meaning.specs.Tree.{Class, accepts, Ere}
use Rattle.ere_meaning.specs.Meaning.{Match, found, nowhere}
use Rattle.ere_meaning.specs.Search.{best_from, best_of}
use Rattle.ere_exists.specs.Any.{is_match, Exists}
use Rattle.ere_search.specs.Find.{match_of, Inside, Finds}
use Rattle.ere_automaton.specs.Automaton.{Drives}
use Rattle.ere_automaton.specs.Follows.{Seeks}
use Rattle.ere.specs.Answer.{Serves, Bytes}
use Rattle.ere.proofs.Serving.{serves-answer, serves-exists}
use Rattle.values.specs.Value.{number, text_of, truth_value}
use Rattle.run_room.specs.Layout.{head_size, slot_bytes, slot_count}
use Rattle.run_room.specs.Room.{slot_at, Store, store_of, with_slot}
use Rattle.run_room.specs.Held.{Slotted, Shown, Did}
use Rattle.run_room.specs.declared.lines.Line.{Line}
use Rattle.run_room.proofs.Stored.{did-slot, did-on, did_so}
use Rattle.run_match.specs.Marks.{SearchesBy, TellsBy, Searches, Told, Locates, FoundBy}
use Rattle.run_match.specs.Marks.{rstart_slot, rlength_slot, rstart_of, rlength_of, with_mark, marked_in, Marks}
use Rattle.run_print.proofs.Showing.{did-again, in_lent, shown-in}

-- ---- three slots are set

pub marks : (x y z u : List ℕ) (a start size : ℕ) → a < slot_count → Slotted x y rstart_slot (number (unbias start)) Unit
    → Slotted y z rlength_slot (number (unbias size)) Unit → Slotted z u a (number (unbias start)) Unit
    → Marks x u a start size
marks x y z u a start size inside o p q l =
    let v = number (unbias start) in
    let w = number (unbias size) in
    let d =
    did-on (did-on (did-slot {From = Unit} x y l rstart_slot v o (omega arith) {Safe = Unit} tt (λ h. tt))
    (did-slot {From = Unit} y z l rlength_slot w p (omega arith) {Safe = Unit} tt (λ h. tt)))
    (did-slot {From = Unit} z u l a v q inside {Safe = Unit} tt (λ h. tt)) in
    record {
      safe = q.outside.size ∙ p.outside.size ∙ o.outside.size;
      next = λ h.
          let n = d.next h in (
            n.0,
            λ s. n.1.1 s
                ∙ ap (λ (st : Store). with_slot st a v)
                (n.1.0.1 s ∙ ap (λ (st : Store). with_slot st rlength_slot w) (n.1.0.0 s)),
          );
    }

-- ---- the match in a text that is shown

pub found_inside : (y : List ℕ) (from n : ℕ) (f : Option (ℕ × ℕ)) (s m : ℕ) → n ≤ text_bytes → f ≡ Some (s, m)
    → Inside 0 0 (length (mid_of from (from + n - from) y)) f
    → s + m ≤ text_bytes
found_inside y from n f s m h e inside =
    let few : length (mid_of from (from + n - from) y) ≤ n = rw length-take (omega arith) in
    omega (arith, (subst (Inside 0 0 (length (mid_of from (from + n - from) y))) e inside).1)

bytes-lent : (y : List ℕ) (from n : ℕ) → ((i : ℕ) → get_or y i 0 < 256) → Bytes (mid_of from n y)
bytes-lent y from n h i g =
    let k : i < n = omega (arith, rw length-take at g) in
    omega (arith, get_or-take n (drop from y) i 0 k, get_or-drop from y i 0, h (from + i))

-- what `match_marked` says, and what `matches` says
abbrev Marked : List ℕ → List ℕ → List ℕ → List ℕ → ℕ → Type 0
Marked d t x z a =
    (l : Line)
    → Did x l z l (length z ≡ length x)
    ((s : Separator) (e : Ere Class) → Locates d t e
    → store_of z l s ≡ marked_in (store_of x l s) a (best_of accepts (text_of (slot_at x a)) e))

abbrev Tested : List ℕ → List ℕ → List ℕ → List ℕ → ℕ → Type 0
Tested d t x z a =
    (l : Line)
    → Did x l z l (length z ≡ length x)
    ((s : Separator) (e : Ere Class) → Searches d t e
    → store_of z l s ≡ with_slot (store_of x l s) a (truth_value (is_match (best_of accepts (text_of (slot_at x a)) e))))

-- a table of the ERE by which the answer is right
told-by : (By : List ℕ → List ℕ → Type 0) (Says : List ℕ → Type 0) (d t : List ℕ) → TellsBy By Says d t
    → (e : Ere Class) → SearchesBy By d t e → (u : List ℕ) × (Serves u e) × (Says u)
told-by By Says d t told e s =
    elim (dec_lt 0 (length d)) [
      | yes h ↦ let u = s.0 h in (u.0, u.2, told.0 h u.0 u.1)
      | no h ↦
          let none : length d ≡ 0 = omega arith in
          (t, s.1 none, told.1 none)
    ]

module _ (t x y z : List ℕ) (a n from : ℕ) (o : Shown x y a n) (inside : a < slot_count)
    (place : from ≡ a * slot_bytes + head_size) (bytes : (i : ℕ) → get_or y i 0 < 256) where
  lent : mid_of from (from + n - from) y ≡ text_of (slot_at x a)
  lent = in_lent y a n from place (shown-in x y a n o) ∙ ap text_of o.slotted.value

  pub tested : (d : List ℕ) (b : Bool) → Told d t (mid_of from (from + n - from) y) b → Slotted y z a (truth_value b) Unit
      → Tested d t x z a
  tested d b told q l =
      did_so
      (λ h s e searches.
      let u = told-by Drives (λ (v : List ℕ). Exists v (mid_of from (from + n - from) y) b) d t told e searches in
      h s
      ∙ ap (λ (c : Bool). with_slot (store_of x l s) a (truth_value c))
      (serves-exists u.0 b e (mid_of from (from + n - from) y) u.1 u.2
      (bytes-lent y from (from + n - from) bytes)
      ∙ ap (λ (w : List ℕ). is_match (best_of accepts w e)) lent))
      (did-again x y a o.slotted inside z (λ st. with_slot st a (truth_value b)) l
      (did-slot y z l a (truth_value b) q inside q.outside.size (λ h. tt)))

  module _ (d : List ℕ) (f : Option (ℕ × ℕ)) (finds : FoundBy d t (mid_of from (from + n - from) y) f) where
    best : (m : Match) → match_of f ≡ m → (e : Ere Class) → Locates d t e → m ≡ best_of accepts (text_of (slot_at x a)) e
    unfolding best_of
    best m em e s =
        let text = mid_of from (from + n - from) y in
        let u = told-by Seeks (λ (v : List ℕ). Finds v text 0 0 f) d t finds.finds e s in
        sym em
        ∙ serves-answer u.0 text 0 0 f e text u.1 u.2 (bytes-lent y from (from + n - from) bytes) zero-le refl
        ∙ ap (λ (w : List ℕ). best_from accepts w e 0 0) lent

    -- RSTART and RLENGTH are those of the match m
    matched : (m : Match) (start size : ℕ) → match_of f ≡ m → number (unbias start) ≡ rstart_of m
        → number (unbias size) ≡ rlength_of m → Marks y z a start size → Marked d t x z a
    matched m start size em es en marks l =
        did_so
        (λ h s e located.
        h s ∙ ap₂ (with_mark (store_of x l s) a) es en ∙ ap (marked_in (store_of x l s) a) (best m em e located))
        (did-again x y a o.slotted inside z
        (λ st. with_mark st a (number (unbias start)) (number (unbias size))) l (marks l))

    pub matched-at : (s m : ℕ) → f ≡ Some (s, m) → Marks y z a (number_bound + s + 1) (number_bound + m) → Marked d t x z a
    matched-at s m e marks =
        let g : number_bound + s + 1 ≡ number_bound + suc s = omega arith in
        matched (found s m) (number_bound + s + 1) (number_bound + m) (ap match_of e)
        (ap number (ap unbias g ∙ unbias-plus (suc s))) (ap number (unbias-plus m)) marks

    pub matched-none : f ≡ None → Marks y z a number_bound (number_bound - 1) → Marked d t x z a
    matched-none e marks =
        matched nowhere number_bound (number_bound - 1) (ap match_of e) (ap number (unbias-plus 0))
        (ap number (unbias-minus 1 (omega arith))) marks
