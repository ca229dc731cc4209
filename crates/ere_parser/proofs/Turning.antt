-- One turn of reading a group: what holds before it holds after it, or the definition refuses.
use mathlib.Core.Path.{◌≡◌, refl, sym, ap, subst, ◌∙◌}
use mathlib.Core.Bool.{Bool, true, false, true≢false, cond, ◌||◌}
use mathlib.Core.Logic.{inl}
use mathlib.Core.List.{List, [], ◌∷◌}
use mathlib.Core.Option.{Option, some, none}
use Prim.Native.Nat.{ℕ, ◌+◌, ◌-◌, ◌≤◌, ◌<◌}
use native.Mathlib.Nat.{le_refl}
use native.Mathlib.Decide.{dec_le}
use native.Mathlib.Omega.{arith}
use lib.ListN.{length, get_or, drop, drop_of_length-le, get_or-eq_default}
use lib.Dec.{eqb}
use borrow.Author.Tests.{ne_eqb}
use Rattle.lists.specs.Elements.{one_of}
use Rattle.edition.specs.Limits.{ere_places}
use Rattle.buffer.proofs.Parts.{drop-next}
use Rattle.ere_meaning.specs.Tree.{Class, Ere, star, plus, opt, places}
use Rattle.ere_grammar.specs.Read.{begins, tail, and_then, or_else, after_bar, repeated}
use Rattle.ere_table.specs.Table.{table_words}
use Rattle.ere_table.specs.Wiring.{after_place}
use Rattle.ere_table.specs.Build.{link_rows, with_class, accept, or_stop}
use Rattle.ere_table.proofs.Rows.{linked-out, row_other, length-linked}
use Rattle.ere_table.proofs.Parts.{Kept}
use Rattle.ere_parser.specs.Reading.{rest_from}
use Rattle.ere_pieces.proofs.Grouping.{inside}
use Rattle.ere_pieces.specs.State.{join_entry, link_entry, stop_entry, no_alts, no_seq, bar_of, pushed_of, pushed_table, piece_of, repeated_of, loop_table, repeated_table, leaf_table}
use Rattle.ere_parser.specs.Built.{Built}
use Rattle.ere_parser.specs.Standing.{size_of, Base, Refuses, unread, AltsOk, SeqOk, Standing, SameBelow}
use Rattle.ere_pieces.specs.declared.rows.Entry.{Entry}
use Rattle.ere_pieces.specs.declared.rows.Piece.{Piece}
use Rattle.ere_pieces.specs.declared.rows.State.{State}
use Rattle.ere_table.proofs.Writes.{class-other, class-row, row-class, linked-class}
use Rattle.ere_parser.proofs.Steps.{rest-bar}
use Rattle.ere_parser.proofs.Grows.{size-then, size-or}
use Rattle.ere_parser.proofs.Built.{built-kept, built-cat, built-star, built-plus, built-opt, built-alt, built-none, built-first}

-- ---- tables that differ further up only

pub below-refl : (lo : ℕ) (t : List ℕ) → SameBelow lo t t
below-refl lo t = record { rows = λ r h. refl; classes = λ p b h k. refl }

pub below-trans : {lo : ℕ} {t u v : List ℕ} → SameBelow lo t u → SameBelow lo u v → SameBelow lo t v
below-trans p q = record { rows = λ r h. q.rows r h ∙ p.rows r h; classes = λ n b h k. q.classes n b h k ∙ p.classes n b h k }

pub below_less : {lo hi : ℕ} {t u : List ℕ} → lo ≤ hi → SameBelow hi t u → SameBelow lo t u
below_less l p = record { rows = λ r h. p.rows r (omega arith); classes = λ n b h k. p.classes n b (omega arith) k }

pub below-linked : (t : List ℕ) (lo n : ℕ) (y : List ℕ) → lo + n ≤ ere_places → SameBelow lo t (link_rows t (lo + 2) n y)
below-linked t lo n y h =
    record { rows = λ r k. linked-out t (lo + 2) y n r (inl (omega arith)); classes = λ p b k m. linked-class t (lo + 2) y n p b (omega arith) }

pub below-leaf : (t : List ℕ) (p : ℕ) (c : List ℕ) → length t ≡ table_words → p < ere_places → SameBelow p t (leaf_table p c t)
below-leaf t p c full h =
    record {
      rows = λ r k. row_other (with_class t p c) (p + 2) accept r (λ e. omega arith) ∙ class-row t p c r (omega arith);
      classes = λ q b k m. row-class (with_class t p c) (p + 2) accept q b (omega arith) ∙ class-other t p c q b (λ e. omega arith) m;
    }

kept-below : {t u : List ℕ} (lo hi : ℕ) → SameBelow hi t u → Kept (after_place t) (after_place u) lo hi
kept-below lo hi s p l g f r = rw (s.rows (p + 2) (omega arith)) ((λ x. x), (λ x. x))

built-below : {t u : List ℕ} {lo hi : ℕ} {x : Entry} {e : Ere Class} → SameBelow hi t u → Built t lo hi x e → Built u lo hi x e
built-below {t} {u} {lo} {hi} s b = built-kept (kept-below lo hi s) (λ p c l h k. s.classes p c h k) b

alts-below : {t u : List ℕ} {hi : ℕ} (lo : ℕ) (x : Entry) (A : Option (Ere Class)) → SameBelow hi t u → AltsOk t lo hi x A → AltsOk u lo hi x A
unfolding AltsOk
alts-below lo x none s p = p
alts-below lo x (some e) s p = built-below s p

seq-below : {t u : List ℕ} {hi : ℕ} (lo : ℕ) (x : Entry) (m : Bool) (S : Option (Ere Class)) → SameBelow hi t u → SeqOk t lo hi x m S → SeqOk u lo hi x m S
unfolding SeqOk
seq-below lo x m none s p = p
seq-below lo x m (some e) s p = (p.0, built-below s p.1)

pub standing-below : {l : List ℕ} {n : ℕ} {b : Base} {t u : List ℕ} {s : State} → s.lo ≤ s.hi → SameBelow s.hi t u → Standing l n b t s → Standing l n b u s
standing-below {b = b} {s = s} o k st =
    record {
      A = st.A;
      S = st.S;
      same = st.same;
      counted = st.counted;
      alts_ok = alts-below b.lo s.alts st.A (below_less o k) st.alts_ok;
      seq_ok = seq-below s.lo s.seq s.some st.S k st.seq_ok;
    }

-- the sequence as one alternative more
pub alts-more : {t : List ℕ} (lo : ℕ) {mid hi : ℕ} (x : Entry) {y : Entry} (A : Option (Ere Class)) (e : Ere Class) → lo ≤ mid → mid ≤ hi → AltsOk t lo mid x A → Built t mid hi y e
    → Built t lo hi (join_entry x y) (or_else A e)
unfolding AltsOk
alts-more {t} lo {mid} {hi} x {y} none e i j p q =
    subst (λ (z : Entry). Built t lo hi (join_entry z y) e) (sym p.1) (subst (λ (k : ℕ). Built t k hi (join_entry no_alts y) e) (sym p.0) (built-none q))
alts-more lo x (some a) e i j p q = built-alt i j p q

-- ---- `|`

module _ {l : List ℕ} {n : ℕ} {b : Base} {t : List ℕ} {s : State} (u : List ℕ) (at : drop s.at l ≡ 124 ∷ u) (st : Standing l n b t s) where
  bar-goal : after_bar rest_from n st.A st.S u ≡ b.goal
  bar-goal = sym (rest-bar n st.A st.S u) ∙ ap (rest_from n st.A st.S) (sym at) ∙ st.same

  no-piece : (S : Option (Ere Class)) → SeqOk t s.lo s.hi s.seq s.some S → s.some ≡ false → after_bar rest_from n st.A S u ≡ none
  unfolding SeqOk after_bar
  no-piece none p e = refl
  no-piece (some x) p e = absurd (true≢false (sym p.0 ∙ e))

  pub bar-refused : s.some ≡ false → Refuses b
  bar-refused e = unread (sym bar-goal ∙ no-piece st.S st.seq_ok e)

  bar-by : (S : Option (Ere Class)) → b.lo ≤ s.lo → s.lo ≤ s.hi → s.some ≡ true → SeqOk t s.lo s.hi s.seq s.some S
      → b.count + (size_of st.A + size_of S) ≡ s.count → after_bar rest_from n st.A S u ≡ b.goal → drop (s.at + 1) l ≡ u → Standing l n b t (bar_of s)
  unfolding SeqOk AltsOk after_bar size_of
  bar-by none i j e p c g d = absurd (true≢false (sym e ∙ p.0))
  bar-by (some x) i j e p c g d =
      record {
        A = some (or_else st.A x);
        S = none;
        same = ap (rest_from n (some (or_else st.A x)) none) d ∙ g;
        counted = omega (arith, size-or st.A x);
        alts_ok = alts-more b.lo s.alts st.A x i j st.alts_ok p.1;
        seq_ok = (refl, refl, refl);
      }

  pub bar-standing : b.lo ≤ s.lo → s.lo ≤ s.hi → s.some ≡ true → drop (s.at + 1) l ≡ u → Standing l n b t (bar_of s)
  bar-standing i j e d = bar-by st.S i j e st.seq_ok st.counted bar-goal d

-- ---- one piece more

module _ {l : List ℕ} {n : ℕ} {b : Base} {t : List ℕ} {s : State} (g : Piece) (e : Ere Class) (full : length t ≡ table_words) (i : b.lo ≤ s.lo) (j : s.lo ≤ s.hi)
    (k : s.hi ≤ g.hi) (m : g.hi ≤ ere_places) (built : Built t s.hi g.hi g.entry e) (st : Standing l n b t s) where
  seq_more : (S : Option (Ere Class)) → SeqOk t s.lo s.hi s.seq s.some S
      → Built (pushed_table s g t) s.lo g.hi (link_entry s.seq g.entry) (and_then S e)
  unfolding SeqOk link_rows
  seq_more none p =
      let z : s.hi - s.lo ≡ 0 = omega (arith, p.1) in
      subst (λ (x : Entry). Built (pushed_table s g t) s.lo g.hi (link_entry x g.entry) e) (sym p.2)
      (subst (λ (q : ℕ). Built (pushed_table s g t) q g.hi (link_entry no_seq g.entry) e) (sym p.1)
      (subst (λ (q : ℕ). Built (link_rows t (s.lo + 2) q g.entry.later) s.hi g.hi (link_entry no_seq g.entry) e) (sym z) (built-first built)))
  seq_more (some x) p = built-cat full j k m p.1 built

  pub push-standing : rest_from n st.A (some (and_then st.S e)) (drop g.at l) ≡ b.goal → s.count + places e ≡ g.count
      → Standing l n b (pushed_table s g t) (pushed_of s g)
  unfolding SeqOk size_of
  push-standing next c =
      record {
        A = st.A;
        S = some (and_then st.S e);
        same = next;
        counted = counts st.S st.counted;
        alts_ok = alts-below b.lo s.alts st.A (below-linked t s.lo (s.hi - s.lo) g.entry.later (omega arith)) st.alts_ok;
        seq_ok = (refl, seq_more st.S st.seq_ok);
      }
    where
      counts : (S : Option (Ere Class)) → b.count + (size_of st.A + size_of S) ≡ s.count → b.count + (size_of st.A + places (and_then S e)) ≡ g.count
      counts S h = omega (arith, size-then S e)

-- ---- a byte that repeats the piece before it

-- what the first byte of the rest is, by its index; past the end there is none, and the index has the byte 0
pub begins-at : (l : List ℕ) (at x : ℕ) → (x ≡ 0 → ⊥) → begins (x ∷ []) (drop at l) ≡ eqb (get_or l at 0) x
unfolding begins one_of
begins-at l at x ne =
    elim (dec_le (at + 1) (length l)) [
      | yes h ↦ ap (begins (x ∷ [])) (drop-next l at (omega arith)) ∙ or-false (eqb (get_or l at 0) x)
      | no h ↦
          ap (begins (x ∷ [])) (drop_of_length-le l {i = at} (omega arith))
          ∙ sym (ap (λ (b : ℕ). eqb b x) (get_or-eq_default l 0 {n = at} (omega arith)) ∙ ne_eqb 0 x (λ e. ne (sym e)))
    ]
  where
    or-false : (b : Bool) → (b || false) ≡ b
    or-false true = refl
    or-false false = refl

pub tail_at : (l : List ℕ) (at : ℕ) → at < length l → tail (drop at l) ≡ drop (at + 1) l
unfolding tail
tail_at l at h = ap tail (drop-next l at h)

-- the tree of a piece with the byte b after it
abbrev pub repeat_tree : ℕ → Ere Class → Ere Class
repeat_tree b e = cond (eqb b 42) (star e) (cond (eqb b 43) (plus e) (cond (eqb b 63) (opt e) e))

module _ (l : List ℕ) (n : ℕ) (A S : Option (Ere Class)) (g : Piece) (e : Ere Class) where
  abbrev mark : ℕ
  mark = get_or l g.at 0

  repeat-by : (x y z : Bool) → eqb mark 42 ≡ x → eqb mark 43 ≡ y → eqb mark 63 ≡ z
      → repeated rest_from n A S e (drop g.at l) ≡ rest_from n A (some (and_then S (repeat_tree mark e))) (drop (repeated_of mark g).at l)
  unfolding repeated
  repeat-by true y z p q r =
      rw (begins-at l g.at 42 (λ w. omega arith), p) (ap (rest_from n A (some (and_then S (star e)))) (tail_at l g.at (inside l g.at 42 (λ w. omega arith) p)))
  repeat-by false true z p q r =
      rw (begins-at l g.at 42 (λ w. omega arith), begins-at l g.at 43 (λ w. omega arith), p, q)
      (ap (rest_from n A (some (and_then S (plus e)))) (tail_at l g.at (inside l g.at 43 (λ w. omega arith) q)))
  repeat-by false false true p q r =
      rw (begins-at l g.at 42 (λ w. omega arith), begins-at l g.at 43 (λ w. omega arith), begins-at l g.at 63 (λ w. omega arith), p, q, r)
      (ap (rest_from n A (some (and_then S (opt e)))) (tail_at l g.at (inside l g.at 63 (λ w. omega arith) r)))
  repeat-by false false false p q r =
      rw (begins-at l g.at 42 (λ w. omega arith), begins-at l g.at 43 (λ w. omega arith), begins-at l g.at 63 (λ w. omega arith), p, q, r)

  pub repeat-rest : repeated rest_from n A S e (drop g.at l) ≡ rest_from n A (some (and_then S (repeat_tree mark e))) (drop (repeated_of mark g).at l)
  repeat-rest = repeat-by (eqb mark 42) (eqb mark 43) (eqb mark 63) refl refl refl

-- by the byte m after the piece
module _ (m : ℕ) (g : Piece) (e : Ere Class) where
  pub repeat-places : places (repeat_tree m e) ≡ places e
  unfolding places
  repeat-places = by (eqb m 42) (eqb m 43) (eqb m 63)
    where
      by : (x y z : Bool) → places (cond x (star e) (cond y (plus e) (cond z (opt e) e))) ≡ places e
      by true y z = refl
      by false true z = refl
      by false false true = refl
      by false false false = refl

  module _ {t : List ℕ} (lo : ℕ) (full : length t ≡ table_words) (i : lo ≤ g.hi) (j : g.hi ≤ ere_places) (built : Built t lo g.hi g.entry e) where
    built-by : (x y z : Bool)
        → Built (cond x (loop_table g lo t) (cond y (loop_table g lo t) t)) lo g.hi
        (cond x (piece_of (g.at + 1) g.hi g.count (stop_entry g.entry)) (cond y (piece_of (g.at + 1) g.hi g.count g.entry) (cond z (piece_of (g.at + 1) g.hi g.count (stop_entry g.entry)) g))).entry
        (cond x (star e) (cond y (plus e) (cond z (opt e) e)))
    built-by true y z = built-star full i j built
    built-by false true z = built-plus full i j built
    built-by false false true = built-opt built
    built-by false false false = built

    pub repeat-built : Built (repeated_table m g lo t) lo g.hi (repeated_of m g).entry (repeat_tree m e)
    repeat-built = built-by (eqb m 42) (eqb m 43) (eqb m 63)

  pub repeat-hi : (repeated_of m g).hi ≡ g.hi
  repeat-hi = by (eqb m 42) (eqb m 43) (eqb m 63)
    where
      by : (x y z : Bool)
          → (cond x (piece_of (g.at + 1) g.hi g.count (stop_entry g.entry)) (cond y (piece_of (g.at + 1) g.hi g.count g.entry) (cond z (piece_of (g.at + 1) g.hi g.count (stop_entry g.entry)) g))).hi ≡ g.hi
      by true y z = refl
      by false true z = refl
      by false false true = refl
      by false false false = refl

  pub repeat-count : (repeated_of m g).count ≡ g.count
  repeat-count = by (eqb m 42) (eqb m 43) (eqb m 63)
    where
      by : (x y z : Bool)
          → (cond x (piece_of (g.at + 1) g.hi g.count (stop_entry g.entry)) (cond y (piece_of (g.at + 1) g.hi g.count g.entry) (cond z (piece_of (g.at + 1) g.hi g.count (stop_entry g.entry)) g))).count ≡ g.count
      by true y z = refl
      by false true z = refl
      by false false true = refl
      by false false false = refl

-- where a repeated piece ends
module _ (l : List ℕ) (g : Piece) (h : g.at ≤ length l) where
  ends_by : (x y z : Bool) → eqb (get_or l g.at 0) 42 ≡ x → eqb (get_or l g.at 0) 43 ≡ y → eqb (get_or l g.at 0) 63 ≡ z
      → (g.at ≤ (repeated_of (get_or l g.at 0) g).at) × ((repeated_of (get_or l g.at 0) g).at ≤ length l)
  ends_by true y z p q r = rw p (omega (arith, inside l g.at 42 (λ w. omega arith) p))
  ends_by false true z p q r = rw (p, q) (omega (arith, inside l g.at 43 (λ w. omega arith) q))
  ends_by false false true p q r = rw (p, q, r) (omega (arith, inside l g.at 63 (λ w. omega arith) r))
  ends_by false false false p q r = rw (p, q, r) (le_refl g.at, h)

  pub repeat-ends : (g.at ≤ (repeated_of (get_or l g.at 0) g).at) × ((repeated_of (get_or l g.at 0) g).at ≤ length l)
  repeat-ends = ends_by (eqb (get_or l g.at 0) 42) (eqb (get_or l g.at 0) 43) (eqb (get_or l g.at 0) 63) refl refl refl

-- what repeating does to the table
module _ (m : ℕ) (g : Piece) (lo : ℕ) (t : List ℕ) (h : lo ≤ g.hi) (k : g.hi ≤ ere_places) where
  pub below-repeated : SameBelow lo t (repeated_table m g lo t)
  below-repeated = by (eqb m 42) (eqb m 43)
    where
      loop : SameBelow lo t (loop_table g lo t)
      loop = below-linked t lo (g.hi - lo) (or_stop g.entry.later) (omega arith)

      by : (x y : Bool) → SameBelow lo t (cond x (loop_table g lo t) (cond y (loop_table g lo t) t))
      by true y = loop
      by false true = loop
      by false false = below-refl lo t

pub length-repeated : (m : ℕ) (g : Piece) (lo : ℕ) (t : List ℕ) → length (repeated_table m g lo t) ≡ length t
length-repeated m g lo t = by (eqb m 42) (eqb m 43)
  where
    loop : length (loop_table g lo t) ≡ length t
    loop = length-linked t (lo + 2) (or_stop g.entry.later) (g.hi - lo)

    by : (x y : Bool) → length (cond x (loop_table g lo t) (cond y (loop_table g lo t) t)) ≡ length t
    by true y = loop
    by false true = loop
    by false false = refl
