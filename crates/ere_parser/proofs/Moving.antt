-- Each kind of turn, as a move from one state to the next.
use mathlib.Core.Path.{◌≡◌, refl, sym, ap, subst, ◌∙◌}
use mathlib.Core.Bool.{Bool, true, false, true≢false, cond}
use mathlib.Core.List.{List, [], ◌∷◌}
use mathlib.Core.Option.{Option, some, none}
use Prim.Native.Nat.{ℕ, suc, ◌+◌, ◌-◌, ◌≤◌, ◌<◌}
use native.Mathlib.Nat.{le_refl}
use native.Mathlib.Omega.{arith}
use lib.ListN.{length, get_or, drop}
use lib.Dec.{eqb, leb}
use borrow.Author.Tests.{leb-true, leb-false}
use Rattle.std.specs.Prelude.{Option as Maybe, Some, None, IfSome}
use Rattle.lists.specs.Parsing.{Parsed, parsed}
use Rattle.edition.specs.Limits.{ere_places}
use Rattle.buffer.proofs.Parts.{drop-next}
use Rattle.ere_meaning.specs.Tree.{Class, Ere, place, bol, eol, places}
use Rattle.ere_grammar.specs.Read.{begins, tail, and_then, Tree, after_group, read_group, repeated, after_atom, read_atom, finished, or_else}
use Rattle.ere_table.specs.Table.{table_words}
use Rattle.ere_table.specs.Build.{with_class, accept}
use Rattle.ere_bracket.specs.declared.brackets.Bracket.{Bracket}
use Rattle.ere_table.proofs.Rows.{length-row}
use Rattle.ere_table.proofs.Writes.{length-class}
use Rattle.ere_parser.specs.Reading.{rest_from}
use Rattle.ere_pieces.specs.State.{bar_of, pushed_of, pushed_table, piece_of, repeated_of, repeated_table, bol_entry, eol_entry, anchor_piece, anchor_of, anchor_table, closed_piece, grouped_of, grouped_table, leaf_table, leaf_piece, atom_table, join_entry, start_of, finish_of}
use Rattle.ere_parser.specs.Built.{Built}
use Rattle.ere_parser.specs.Standing.{size_of, AltsOk, SeqOk, Base, Refuses, unread, many, Standing, Closed, at-end, at_paren, Safe, SameBelow, Moves, Turns, base_of, Under, GroupRead, GroupReads, Begins}
use Rattle.ere_bracket.specs.Answer.{ClassRead}
use Rattle.ere_pieces.specs.declared.rows.Entry.{Entry}
use Rattle.ere_pieces.specs.declared.rows.Piece.{Piece}
use Rattle.ere_pieces.specs.declared.rows.State.{State}
use Rattle.ere_parser.proofs.Steps.{rest-bol, rest-eol, rest-group, rest-atom, rest_end, rest-close}
use Rattle.ere_parser.proofs.Grows.{size-or, Grows, from-grows, more-grows, repeated-grows, atom-grows}
use Rattle.ere_parser.proofs.Built.{built-bol, built-eol, built-leaf}
use Rattle.ere_parser.proofs.Turning.{alts-more, below-leaf, below-refl, below-trans, below_less, below-linked, standing-below, bar-refused, bar-standing, push-standing, begins-at, tail_at, repeat_tree, repeat-rest, repeat-places, repeat-built, repeat-hi, repeat-count, repeat-ends, below-repeated, length-repeated}
use Rattle.ere_pieces.proofs.Grouping.{inside}

-- a goal that reads nothing, or more places than there may be
pub refused-by : {b : Base} (x : Tree) (N : ℕ) → b.goal ≡ x → Grows N x → ere_places < b.count + N → Refuses b
refused-by none N e g h = unread e
refused-by (some x) N e g h = many x e (omega arith)

-- the first byte that is left
pub opened : (l : List ℕ) (at x : ℕ) → at < length l → get_or l at 0 ≡ x → drop at l ≡ x ∷ drop (at + 1) l
opened l at x h e = drop-next l at h ∙ ap (λ (b : ℕ). b ∷ drop (at + 1) l) e

rest-closed : (n : ℕ) {u : List ℕ} → Closed u → (A S : Option (Ere Class)) → rest_from n A S u ≡ finished A S u
rest-closed n at-end A S = rest_end n A S
rest-closed n at_paren A S = rest-close n A S _

module _ {l : List ℕ} (n : ℕ) {t : List ℕ} (s : State) (safe : Safe l s) where
  pub moves-refused : ((b : Base) → Standing l n b t s → Refuses b) → Turns l n t t s None
  moves-refused f = (below-refl s.lo t, f)

  -- where the group ends, what was read stands as it is, and the definition reads that and no more
  pub moves-ended : Closed (drop s.at l)
      → (Safe l s) × (SameBelow s.lo t t)
      × ((b : Base) → b.lo ≤ s.lo → (st : Standing l n b t s) → (Standing l n b t s) × (Closed (drop s.at l)) × (b.goal ≡ finished st.A st.S (drop s.at l)))
  moves-ended c = (safe, below-refl s.lo t, λ b i st. (st, c, sym st.same ∙ rest-closed n c st.A st.S))

  module _ (h : s.at < length l) where
    pub moves-bar : get_or l s.at 0 ≡ 124 → s.some ≡ true → Moves l n t t s (bar_of s)
    moves-bar e k =
        record {
          safe = record { order = le_refl s.hi; fewer = safe.fewer; few = safe.few; inside = omega arith };
          kept = below-refl s.lo t;
          later = safe.order;
          ahead = omega arith;
          means = λ b i st. bar-standing (drop (s.at + 1) l) (opened l s.at 124 h e) st i safe.order k refl;
        }

    pub moves-no-bar : get_or l s.at 0 ≡ 124 → s.some ≡ false → Turns l n t t s None
    moves-no-bar e k = moves-refused (λ b st. bar-refused (drop (s.at + 1) l) (opened l s.at 124 h e) st k)

-- a piece more: u is the table with the piece
module _ {l : List ℕ} (n : ℕ) {t u : List ℕ} (s : State) (g : Piece) (e : Ere Class) (safe : Safe l s) (full : length u ≡ table_words) (k : SameBelow s.hi t u)
    (built : Built u s.hi g.hi g.entry e) (order : s.hi ≤ g.hi) (fewer : g.hi ≤ g.count) (few : g.count ≤ ere_places) (ahead : s.at < g.at)
    (within : g.at ≤ length l) (counted : s.count + places e ≡ g.count)
    (next : (A S : Option (Ere Class)) → rest_from n A S (drop s.at l) ≡ rest_from n A (some (and_then S e)) (drop g.at l)) where
  pub moves-push : Moves l n t (pushed_table s g u) s (pushed_of s g)
  moves-push =
      record {
        safe = record { order = omega (arith, safe.order); fewer = fewer; few = few; inside = within };
        kept = below-trans (below_less safe.order k) (below-linked u s.lo (s.hi - s.lo) g.entry.later (omega (arith, safe.order, safe.fewer, safe.few)));
        later = le_refl s.lo;
        ahead = ahead;
        means = λ b i st.
            let q = standing-below safe.order k st in
            push-standing g e full i safe.order order (omega arith) built q (sym (next q.A q.S) ∙ q.same) counted;
      }

-- an anchor: e, which has one place
module _ {l : List ℕ} (n : ℕ) {t : List ℕ} (s : State) (x : Entry) (e : Ere Class) (safe : Safe l s) (full : length t ≡ table_words) (h : s.at < length l)
    (built : Built t s.hi s.hi x e) (one : places e ≡ 1)
    (next : (A S : Option (Ere Class)) → rest_from n A S (drop s.at l) ≡ rest_from n A (some (and_then S e)) (drop (s.at + 1) l)) where
  anchor-by : (b : Bool) → leb ere_places s.count ≡ b
      → Turns l n t (cond b t (pushed_table s (anchor_piece s x) t)) s (cond b None (Some (pushed_of s (anchor_piece s x))))
  anchor-by true c =
      moves-refused n s safe
      (λ b st. refused-by (rest_from n st.A (some (and_then st.S e)) (drop (s.at + 1) l)) (size_of st.A + size_of st.S + places e)
      (sym st.same ∙ next st.A st.S) (more-grows rest_from from-grows n st.A st.S e (drop (s.at + 1) l))
      (omega (arith, st.counted, leb-true ere_places s.count c)))
  anchor-by false c =
      moves-push n s (anchor_piece s x) e safe full (below-refl s.hi t) built (le_refl s.hi) (omega (arith, safe.fewer)) (omega (arith, leb-false ere_places s.count c))
      (omega arith) (omega arith) (omega arith) next

  pub moves-anchor : Turns l n t (anchor_table s x t) s (anchor_of s x)
  moves-anchor = anchor-by (leb ere_places s.count) refl

module _ {l : List ℕ} (n : ℕ) (t : List ℕ) (s : State) (safe : Safe l s) (full : length t ≡ table_words) (h : s.at < length l) where
  pub moves-bol : get_or l s.at 0 ≡ 94 → Turns l n t (anchor_table s bol_entry t) s (anchor_of s bol_entry)
  unfolding places
  moves-bol e =
      moves-anchor n s bol_entry bol safe full h built-bol refl
      (λ A S. ap (rest_from n A S) (opened l s.at 94 h e) ∙ rest-bol n A S (drop (s.at + 1) l))

  pub moves-eol : get_or l s.at 0 ≡ 36 → Turns l n t (anchor_table s eol_entry t) s (anchor_of s eol_entry)
  unfolding places
  moves-eol e =
      moves-anchor n s eol_entry eol safe full h built-eol refl
      (λ A S. ap (rest_from n A S) (opened l s.at 36 h e) ∙ rest-eol n A S (drop (s.at + 1) l))

-- ---- a group more, after the `(`

module _ {l : List ℕ} (n : ℕ) (s : State) (safe : Safe l s) (h : s.at < length l) (paren : get_or l s.at 0 ≡ 40) where
  abbrev inner : Tree
  inner = rest_from n none none (drop (s.at + 1) l)

  goal-is : {b : Base} {t : List ℕ} (st : Standing l (suc n) b t s) → b.goal ≡ after_group rest_from (suc n) st.A st.S inner
  unfolding read_group
  goal-is st =
      sym st.same ∙ ap (rest_from (suc n) st.A st.S) (opened l s.at 40 h paren) ∙ rest-group (suc n) st.A st.S (drop (s.at + 1) l)

  -- the group is refused
  after-grows : {b : Base} {t : List ℕ} (st : Standing l (suc n) b t s) (x : Parsed (Ere Class)) → Grows (size_of st.A + size_of st.S + places x.value) (after_group rest_from (suc n) st.A st.S (some x))
  unfolding after_group
  after-grows st x = by (begins (41 ∷ []) x.rest)
    where
      by : (c : Bool) → Grows (size_of st.A + size_of st.S + places x.value) (cond c (repeated rest_from (suc n) st.A st.S x.value (tail x.rest)) none)
      by true = repeated-grows rest_from from-grows (suc n) st.A st.S x.value (tail x.rest)
      by false = tt

  inner-refused : {b : Base} {t : List ℕ} → Standing l (suc n) b t s → Refuses (record { lo = s.hi; count = s.count; goal = inner }) → Refuses b
  unfolding after_group
  inner-refused st (unread e) = unread (goal-is st ∙ ap (after_group rest_from (suc n) st.A st.S) e)
  inner-refused st (many x e m) =
      refused-by (after_group rest_from (suc n) st.A st.S (some x)) (size_of st.A + size_of st.S + places x.value)
      (goal-is st ∙ ap (after_group rest_from (suc n) st.A st.S) e) (after-grows st x) (omega (arith, st.counted))

  pub moves-unread : {t u : List ℕ} → GroupReads l n (s.at + 1) s.hi s.count t u None → Turns l (suc n) t u s None
  moves-unread r = (below_less safe.order r.0, λ b st. inner-refused st r.1)

  -- the group g was read
  module _ {t u : List ℕ} (g : Piece) (full : length u ≡ table_words) (reads : GroupRead l n (s.at + 1) s.hi s.count t u g) where
    -- it is not closed
    open-refused : {b : Base} {t : List ℕ} → Standing l (suc n) b t s → (e : Ere Class) → inner ≡ parsed e (drop g.at l) → eqb (get_or l g.at 0) 41 ≡ false → Refuses b
    unfolding after_group
    open-refused st e q c =
        unread (goal-is st ∙ ap (after_group rest_from (suc n) st.A st.S) q
        ∙ ap (λ (x : Bool). cond x (repeated rest_from (suc n) st.A st.S e (tail (drop g.at l))) none) (begins-at l g.at 41 (λ z. omega arith) ∙ c))

    -- it is closed
    abbrev mark : ℕ
    mark = get_or l (g.at + 1) 0

    closed-next : (e : Ere Class) → inner ≡ parsed e (drop g.at l) → eqb (get_or l g.at 0) 41 ≡ true → (A S : Option (Ere Class))
        → rest_from (suc n) A S (drop s.at l) ≡ rest_from (suc n) A (some (and_then S (repeat_tree mark e))) (drop (repeated_of mark (closed_piece g)).at l)
    unfolding read_group after_group
    closed-next e q c A S =
        ap (rest_from (suc n) A S) (opened l s.at 40 h paren)
        ∙ rest-group (suc n) A S (drop (s.at + 1) l)
        ∙ ap (after_group rest_from (suc n) A S) q
        ∙ ap (λ (x : Bool). cond x (repeated rest_from (suc n) A S e (tail (drop g.at l))) none) (begins-at l g.at 41 (λ z. omega arith) ∙ c)
        ∙ ap (repeated rest_from (suc n) A S e) (tail_at l g.at (inside l g.at 41 (λ z. omega arith) c))
        ∙ repeat-rest l (suc n) A S (closed_piece g) e

    closed-moves : eqb (get_or l g.at 0) 41 ≡ true
        → Moves l (suc n) t (pushed_table s (repeated_of mark (closed_piece g)) (repeated_table mark (closed_piece g) s.hi u)) s (pushed_of s (repeated_of mark (closed_piece g)))
    closed-moves c =
        let r = reads.read in
        let q = closed_piece g in
        let i = inside l g.at 41 (λ z. omega arith) c in
        let ends = repeat-ends l q (omega arith) in
        let m : g.hi ≤ ere_places = omega (arith, reads.fewer, reads.few) in
        let eh = repeat-hi mark q r.0 in
        let ec = repeat-count mark q r.0 in
        moves-push (suc n) s (repeated_of mark q) (repeat_tree mark r.0) safe
        (length-repeated mark q s.hi u ∙ full)
        (below-trans reads.kept (below-repeated mark q s.hi u reads.order m))
        (subst (λ (x : ℕ). Built (repeated_table mark q s.hi u) s.hi x (repeated_of mark q).entry (repeat_tree mark r.0)) (sym eh)
        (repeat-built mark q r.0 s.hi full reads.order m r.3))
        (omega (arith, reads.order)) (omega (arith, reads.fewer)) (omega (arith, reads.few)) (omega (arith, reads.from, ends.0)) ends.1
        (omega (arith, repeat-places mark q r.0, r.2)) (closed-next r.0 r.1 c)

    grouped-by : (y : Bool) → eqb (get_or l g.at 0) 41 ≡ y
        → Turns l (suc n) t
        (cond y (pushed_table s (repeated_of mark (closed_piece g)) (repeated_table mark (closed_piece g) s.hi u)) u) s
        (cond y (Some (pushed_of s (repeated_of mark (closed_piece g)))) None)
    grouped-by true q = closed-moves q
    grouped-by false q = (below_less safe.order reads.kept, λ b st. open-refused st reads.read.0 reads.read.1 q)

    moves-read : Turns l (suc n) t (grouped_table l s (Some g) u) s (grouped_of l s (Some g))
    moves-read = grouped-by (eqb (get_or l g.at 0) 41) refl

  -- the group was refused or read
  pub moves-grouped : (t u : List ℕ) (g : Maybe Piece) → length u ≡ table_words → GroupReads l n (s.at + 1) s.hi s.count t u g
      → Turns l (suc n) t (grouped_table l s g u) s (grouped_of l s g)
  moves-grouped t u None full reads = moves-unread reads
  moves-grouped t u (Some g) full reads = moves-read g full reads

  -- the sizes of one that was read
  pub group-sizes : (t u : List ℕ) (g : Maybe Piece) → GroupReads l n (s.at + 1) s.hi s.count t u g
      → IfSome g (λ p. (s.hi ≤ p.hi) × (p.hi ≤ ere_places) × (p.at ≤ length l))
  group-sizes t u None reads = tt
  group-sizes t u (Some g) reads = (reads.order, omega (arith, reads.fewer, reads.few), reads.inside)

-- ---- an atom more that is no group

module _ {l : List ℕ} (n : ℕ) (s : State) (safe : Safe l s) (h : s.at < length l) (b : Begins (get_or l s.at 0)) where
  abbrev read : Option (Parsed Class)
  read = read_atom (get_or l s.at 0) (drop (s.at + 1) l)

  atom-rest : (A S : Option (Ere Class)) → rest_from n A S (drop s.at l) ≡ after_atom rest_from n A S read
  atom-rest A S =
      ap (rest_from n A S) (opened l s.at _ h refl)
      ∙ rest-atom n A S (get_or l s.at 0) (drop (s.at + 1) l) b.no_close b.no_bar b.no_bol b.no_eol b.no_open

  -- there are as many places as there may be
  pub moves-full : {t : List ℕ} → ere_places ≤ s.count → Turns l n t t s None
  moves-full m =
      moves-refused n s safe
      (λ x st. refused-by (after_atom rest_from n st.A st.S read) (size_of st.A + size_of st.S + 1) (sym st.same ∙ atom-rest st.A st.S)
      (atom-grows rest_from from-grows n st.A st.S read) (omega (arith, st.counted)))

  pub moves-bad : {t : List ℕ} → read ≡ none → Turns l n t t s None
  unfolding after_atom
  moves-bad e = moves-refused n s safe (λ x st. unread (sym st.same ∙ atom-rest st.A st.S ∙ ap (after_atom rest_from n st.A st.S) e))

  module _ (t : List ℕ) (full : length t ≡ table_words) (r : Bracket) (q : ClassRead r l s.at read) (few : s.count < ere_places) where
    abbrev leaf : Piece
    leaf = leaf_piece s r.next

    abbrev behind : ℕ
    behind = get_or l r.next 0

    atom-next : (A S : Option (Ere Class))
        → rest_from n A S (drop s.at l) ≡ rest_from n A (some (and_then S (repeat_tree behind (place q.class)))) (drop (repeated_of behind leaf).at l)
    unfolding after_atom
    atom-next A S = atom-rest A S ∙ ap (after_atom rest_from n A S) q.same ∙ repeat-rest l n A S leaf (place q.class)

    pub moves-atom : Moves l n t (atom_table s r.words leaf behind t) s (pushed_of s (repeated_of behind leaf))
    unfolding places
    moves-atom =
        let u = leaf_table s.hi r.words t in
        let small : s.hi < ere_places = omega (arith, safe.fewer) in
        let lu : length u ≡ table_words = length-row (with_class t s.hi r.words) (s.hi + 2) accept ∙ length-class t s.hi r.words ∙ full in
        let ends = repeat-ends l leaf q.inside in
        let e : Ere Class = place q.class in
        let eh = repeat-hi behind leaf e in
        let ec = repeat-count behind leaf e in
        moves-push n s (repeated_of behind leaf) (repeat_tree behind e) safe
        (length-repeated behind leaf s.hi u ∙ lu)
        (below-trans (below-leaf t s.hi r.words full small) (below-repeated behind leaf s.hi u (omega arith) (omega arith)))
        (subst (λ (x : ℕ). Built (repeated_table behind leaf s.hi u) s.hi x (repeated_of behind leaf).entry (repeat_tree behind e)) (sym eh)
        (repeat-built behind leaf e s.hi lu (omega arith) (omega arith) (built-leaf t s.hi r.words full small q.class q.bytes)))
        (omega arith) (omega (arith, safe.fewer)) (omega arith) (omega (arith, q.further, ends.0)) ends.1
        (omega (arith, repeat-places behind leaf e)) atom-next

-- ---- a group from its start to its end

pub started : (l : List ℕ) (n at lo count : ℕ) (t : List ℕ)
    → Standing l n (base_of l n at lo count) t (start_of at lo count)
unfolding AltsOk SeqOk size_of
started l n at lo count t =
    record { A = none; S = none; same = refl; counted = omega arith; alts_ok = (refl, refl); seq_ok = (refl, refl, refl) }

module _ {l : List ℕ} {n at lo count : ℕ} {t₀ t : List ℕ} (s : State) (under : Under l n at lo count t₀ t s) (closed : Closed (drop s.at l)) where
  abbrev safe : Safe l s
  safe = under.safe

  abbrev st : Standing l n (base_of l n at lo count) t s
  st = under.means

  piece : (S : Option (Ere Class)) → s.some ≡ true
      → SeqOk t s.lo s.hi s.seq s.some S → count + (size_of st.A + size_of S) ≡ s.count → rest_from n none none (drop at l) ≡ finished st.A S (drop s.at l)
      → (e : Ere Class) × (rest_from n none none (drop at l) ≡ parsed e (drop s.at l)) × (count + places e ≡ s.count)
      × (Built t lo s.hi (join_entry s.alts s.seq) e) × (Closed (drop s.at l))
  unfolding SeqOk size_of finished
  piece none m p c e = absurd (true≢false (sym m ∙ p.0))
  piece (some x) m p c e =
      (or_else st.A x, e, omega (arith, size-or st.A x), alts-more lo s.alts st.A x under.later safe.order st.alts_ok p.1, closed)

  goal-finished : rest_from n none none (drop at l) ≡ finished st.A st.S (drop s.at l)
  goal-finished = ((moves-ended n s safe closed).2 (base_of l n at lo count) under.later st).2

  no-piece-none : (A S : Option (Ere Class)) → SeqOk t s.lo s.hi s.seq s.some S → s.some ≡ false → finished A S (drop s.at l) ≡ none
  unfolding SeqOk finished
  no-piece-none A none p e = refl
  no-piece-none A (some x) p e = absurd (true≢false (sym p.0 ∙ e))

  finished-by : (y : Bool) → s.some ≡ y
      → GroupReads l n at lo count t₀ t (cond y (Some (piece_of s.at s.hi s.count (join_entry s.alts s.seq))) None)
  finished-by true m =
      record {
        order = omega (arith, under.later, safe.order);
        fewer = safe.fewer;
        few = safe.few;
        from = under.onward;
        inside = safe.inside;
        kept = under.kept;
        read = piece st.S m st.seq_ok st.counted goal-finished;
      }
  finished-by false m = (under.kept, unread (goal-finished ∙ no-piece-none st.A st.S st.seq_ok m))

  pub group-finished : GroupReads l n at lo count t₀ t (finish_of s)
  group-finished = finished-by s.some refl
