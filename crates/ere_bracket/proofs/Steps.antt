-- Laws on the steps in which the items of a bracket are read.
use mathlib.Core.Path.{◌≡◌, refl, ap, subst, ◌∙◌}
use mathlib.Core.Bool.{Bool, true, false}
use mathlib.Core.List.{List, [], ◌∷◌}
use mathlib.Core.Option as maybe
use Prim.Native.Nat.{ℕ, zero, suc, ◌+◌, ◌-◌, ◌≤◌, ◌<◌}
use native.Mathlib.Numerals.{add-one}
use native.Mathlib.Omega.{arith}
use lib.ListN.{length, drop, get_or, drop_of_length-le}
use borrow.Author.Tests.{eq-eqb, ne_eqb, le-leb, lt-leb}
use Rattle.std.specs.Prelude.{Option, Some, None}
use Rattle.lists.specs.Parsing.{Parsed, parsed}
use Rattle.buffer.proofs.Parts.{drop-next}
use Rattle.ere_meaning.specs.Tree.{Range}
use Rattle.ere_grammar.specs.Grammar.{range}
use Rattle.ere_grammar.specs.Read.{begins, tail, read_member, joins, Items, with_range, last_hyphen, range_to, after_byte}
use Rattle.ere_byte_set.specs.Words.{with_byte, with_bytes, with_span, with_spans}
use Rattle.ere_bracket.specs.Items.{items_of, worded, leads_to, Onward, Further, Leads, Ended}
use Rattle.ere_bracket.specs.declared.brackets.Bracket.{Bracket}
use Rattle.ere_bracket.specs.declared.brackets.Step.{Step}
use Rattle.ere_bracket.specs.declared.brackets.Step.TheVariants.{GoesOn, Closed}
use Rattle.ere_byte_set.proofs.Laws.{bytes_one}
use Rattle.ere_bracket.proofs.Turns.{items-end, items-first, items-later}

-- ---- steps

module _ (l : List ℕ) (at : ℕ) {read : maybe.Option (Parsed (List ℕ))} where
  pub refuses : maybe.none ≡ read → Leads None l at read
  unfolding leads_to
  refuses e = record { same = e; further = tt }

  pub goes_on : (k : ℕ) (c : List ℕ) → (at < k) × (k ≤ length l) → worded c (items_of false (drop k l)) ≡ read
      → Leads (Some (GoesOn (record { next = k; words = c }))) l at read
  unfolding leads_to
  goes_on k c h e = record { same = e; further = h }

  pub closes : (k : ℕ) (c : List ℕ) → (at < k) × (k ≤ length l) → parsed c (drop k l) ≡ read
      → Leads (Some (Closed (record { next = k; words = c }))) l at read
  unfolding leads_to
  closes k c h e = record { same = e; further = h }

further-from : (s : Option Step) (l : List ℕ) (at from : ℕ) → from ≤ at → Further s l at → Further s l from
further-from (Some (GoesOn b)) l at from h f = (omega arith, omega arith)
further-from (Some (Closed b)) l at from h f = (omega arith, omega arith)
further-from None l at from h f = tt

-- a step from an index is one from each index before it
pub leads-from : (s : Option Step) (l : List ℕ) (at from : ℕ) {read whole : maybe.Option (Parsed (List ℕ))}
    → from ≤ at → Leads s l at read → read ≡ whole → Leads s l from whole
leads-from s l at from h w e = record { same = w.same ∙ e; further = further-from s l at from h w.further }

-- ---- the words of one range more

worded-range : (c : List ℕ) (r : Range) (i : Items) → worded (with_span c r) i ≡ worded c (with_range r i)
unfolding worded with_range with_spans
worded-range c r maybe.none = refl
worded-range c r (maybe.some g) = refl

-- ---- a range

module _ (c : List ℕ) (a : ℕ) (o : maybe.Option (Parsed ℕ)) where
  pub up-to-bad : maybe.none ≡ o → maybe.none ≡ worded c (range_to (items_of false) a o)
  unfolding worded range_to
  up-to-bad e = rw (← e)

  pub up-to-back : (b : ℕ) (t : List ℕ) → parsed b t ≡ o → b < a → maybe.none ≡ worded c (range_to (items_of false) a o)
  unfolding worded range_to
  up-to-back b t e h = rw (← e, lt-leb a b h)

  pub up-to-span : (b : ℕ) (t w : List ℕ) → parsed b t ≡ o → a ≤ b → w ≡ with_bytes c a (b + 1 - a)
      → worded w (items_of false t) ≡ worded c (range_to (items_of false) a o)
  unfolding range_to
  up-to-span b t w e h k = rw (← e, le-leb a b h, k) (worded-range c (range a b) (items_of false t))

-- ---- a byte

pub tail-drop : (k : ℕ) (l : List ℕ) → tail (drop k l) ≡ drop (k + 1) l
unfolding tail
tail-drop zero [] = refl
tail-drop zero (x ∷ l) = refl
tail-drop (suc k) [] = rw add-one
tail-drop (suc k) (x ∷ l) = rw add-one (tail-drop k l ∙ ap (λ (n : ℕ). drop n l) (add-one k))

module _ (c : List ℕ) (o : maybe.Option (Parsed ℕ)) where
  pub after-bad : maybe.none ≡ o → maybe.none ≡ worded c (after_byte (items_of false) o)
  unfolding worded after_byte
  after-bad e = rw (← e)

  pub after-joins : (l : List ℕ) (b k : ℕ) → parsed b (drop k l) ≡ o → true ≡ joins (drop k l)
      → worded c (range_to (items_of false) b (read_member (drop (k + 1) l))) ≡ worded c (after_byte (items_of false) o)
  unfolding after_byte
  after-joins l b k e j = rw (← e, ← j, tail-drop k l)

  pub after-byte : (b : ℕ) (t w : List ℕ) → parsed b t ≡ o → false ≡ joins t → w ≡ with_byte c b
      → worded w (items_of false t) ≡ worded c (after_byte (items_of false) o)
  unfolding after_byte
  after-byte b t w e j k = rw (← e, ← j, k, bytes_one c b) (worded-range c (range b b) (items_of false t))

-- ---- a turn

module _ (c l : List ℕ) (at : ℕ) where
  pub hyphen-last : (w : List ℕ) → true ≡ begins (93 ∷ []) (drop at l) → w ≡ with_byte c 45
      → parsed w (drop (at + 1) l) ≡ worded c (last_hyphen (drop at l))
  unfolding worded last_hyphen with_spans
  hyphen-last w e k = rw (← e, tail-drop at l, k) (ap (λ (d : List ℕ). parsed d (drop (at + 1) l)) (bytes_one c 45))

  pub hyphen-bad : false ≡ begins (93 ∷ []) (drop at l) → maybe.none ≡ worded c (last_hyphen (drop at l))
  unfolding worded last_hyphen
  hyphen-bad e = rw (← e)

  pub turn-first : (first : Bool) → first ≡ true
      → worded c (after_byte (items_of false) (read_member (drop at l))) ≡ worded c (items_of first (drop at l))
  turn-first first e = rw (e, items-first (drop at l))

  module _ (first : Bool) (later : first ≡ false) (h : at < length l) where
    pub turn_end : get_or l at 0 ≡ 93 → parsed c (drop (at + 1) l) ≡ worded c (items_of first (drop at l))
    unfolding worded with_spans
    turn_end e = rw (later, drop-next l at h, items-later, eq-eqb (get_or l at 0) 93 e)

    pub turn-hyphen : (get_or l at 0 ≡ 93 → ⊥) → get_or l at 0 ≡ 45 → worded c (last_hyphen (drop (at + 1) l)) ≡ worded c (items_of first (drop at l))
    turn-hyphen n e = rw (later, drop-next l at h, items-later, ne_eqb (get_or l at 0) 93 n, eq-eqb (get_or l at 0) 45 e)

    pub turn-item : (get_or l at 0 ≡ 93 → ⊥) → (get_or l at 0 ≡ 45 → ⊥)
        → worded c (after_byte (items_of false) (read_member (drop at l))) ≡ worded c (items_of first (drop at l))
    turn-item n m = rw (later, drop-next l at h, items-later, ne_eqb (get_or l at 0) 93 n, ne_eqb (get_or l at 0) 45 m)

  -- no bytes are left
  pub turn-none : (first : Bool) → length l ≤ at → maybe.none ≡ worded c (items_of first (drop at l))
  unfolding worded
  turn-none first h = rw (drop_of_length-le l {i = at} h, ← items-end first)

-- ---- what a step tells

module _ {s : Step} {l : List ℕ} {at from : ℕ} {read whole : maybe.Option (Parsed (List ℕ))} {b : Bracket}
    (h : from ≤ at) (w : Leads (Some s) l at read) (e : read ≡ whole) where
  pub goes-same : s ≡ GoesOn b → worded b.words (items_of false (drop b.next l)) ≡ whole
  unfolding leads_to
  goes-same k = (rw k at w.same) ∙ e

  pub goes-further : s ≡ GoesOn b → Onward b l at
  goes-further k = subst (λ (x : Step). Further (Some x) l at) k w.further

  pub closed-ended : s ≡ Closed b → Ended (Some b) l from whole
  unfolding leads_to
  closed-ended k =
      let f : Onward b l at = subst (λ (x : Step). Further (Some x) l at) k w.further in
      ((rw k at w.same) ∙ e, (omega arith, omega arith))
