-- One word is numbered, then a section's words, then those of all sections.
use mathlib.Core.Path.{◌≡◌, refl, sym, ap, subst, ◌∙◌}
use mathlib.Core.Bool.{Bool, true, false, not, cond, ◌||◌}
use mathlib.Core.Logic.{⊎_elim}
use mathlib.Core.List.{List, [], ◌∷◌, ◌++◌, map, append-nil, append_assoc}
use Prim.Native.Nat.{ℕ, suc, ◌+◌, ◌*◌, ◌/◌, ◌≤◌, ◌<◌}
use native.Mathlib.Numerals.{add-one}
use native.Mathlib.Omega.{arith}
use lib.ListN.{length, get_or, take, drop, set, length-append}
use lib.Seq.{set-get_or, take-suc, drop-cons, take_at, get_or_at, set_at}
use lib.Dec.{eqb, ltb}
use borrow.Author.Tests.{ltb-true, ltb-false, not-true, not-false}
use Rattle.lists.proofs.Tests.{or_cases, or-false}
use Rattle.edition.specs.Limits.{filter_text}
use Rattle.image_format.specs.Image.{Constant}
use Rattle.program_numbering.specs.Names.{with_new, number_of}
use Rattle.program_numbering.specs.Numbering.{same_constant}
use Rattle.program_words.specs.Words.{packed, op_in, depth_in, first_in}
use Rattle.program_tables.specs.declared.tables.Entry.{Entry}
use Rattle.program_tables.specs.Tables.{meant, entries_from, with_entry}
use Rattle.program_entries.specs.Named.{is_named, named, Stands}
use Rattle.program_numberer.specs.Numbered.{Holds, HoldsSome, with_operand, thing_at, things, numbered, numbered_from, Numbers, AllNumbers, WordNumbered, SectionNumbered, list_after, ProgramNumbers}
use Rattle.program_numberer.proofs.Lists.{new-append}
use Rattle.program_numberer.proofs.Operands.{things-append, numbered-append, numbered-all}
use Rattle.program_numberer.proofs.Entering.{full-holds, number_is, number-within, known-holds, new-holds}

-- ---- one word

-- the number that was found, where the table tells whether texts have escapes
pub which-number : (s table : List ℕ) (n : ℕ) (e : Entry) (k : ℕ) (b escapes : Bool) → b ≡ escapes
    → k ≡ number_of same_constant (entries_from s b table 0 n) (meant s b e)
    → k ≡ number_of same_constant (entries_from s escapes table 0 n) (meant s escapes e)
which-number s table n e k b escapes h f =
    subst (λ (x : Bool). k ≡ number_of same_constant (entries_from s x table 0 n) (meant s x e)) h f

module _ (edition : ℕ) (s : List ℕ) (what : ℕ) where
  -- a word that names nothing of the table
  other-things : (w : ℕ) → is_named what (op_in w) ≡ false → things edition s what (w ∷ []) ≡ []
  unfolding things
  other-things w e = rw e

  other_word : (l : List Constant) (w : ℕ) → is_named what (op_in w) ≡ false
      → w ∷ [] ≡ numbered_from edition s what l (w ∷ [])
  unfolding numbered_from numbered
  other_word l w e = rw e

  -- and one that does
  one-thing : (w : ℕ) → is_named what (op_in w) ≡ true
      → things edition s what (w ∷ []) ≡ thing_at edition s what w ∷ []
  unfolding things
  one-thing w e = rw e

  one_word : (l : List Constant) (w k : ℕ) → is_named what (op_in w) ≡ true
      → k ≡ number_of same_constant l (thing_at edition s what w)
      → with_operand w k ∷ [] ≡ numbered_from edition s what l (w ∷ [])
  unfolding numbered_from numbered
  one_word l w k e h = rw (e, h)

  new-nothing : (l : List Constant) → with_new same_constant l [] ≡ l
  unfolding with_new
  new-nothing l = refl

  module _ (section : List ℕ) (i : ℕ) (table : List ℕ) (n : ℕ) where
    abbrev W : ℕ
    W = get_or section i 0

    other-numbers : is_named what (op_in W) ≡ false → AllNumbers edition s what table n (W ∷ []) table n (W ∷ [])
    other-numbers e l h =
        let none : with_new same_constant l (things edition s what (W ∷ [])) ≡ l =
        ap (with_new same_constant l) (other-things W e) ∙ new-nothing l in
        record { holds = subst (Holds s (eqb what 0) table n) (sym none) h; words = λ _. other_word l W e }

    full-numbers : length table < 2 * n → AllNumbers edition s what table n (W ∷ []) table n (W ∷ [])
    full-numbers f l h =
        record {
          holds = full-holds s (eqb what 0) table n l h (things edition s what (W ∷ [])) f;
          words = λ g. absurd (omega (arith, f, g));
        }

    module _ (op : ℕ) (is-op : op ≡ op_in W) (b : Bool) (is-named : b ≡ is_named what op) where
      pub word-skipped : (not b || ltb (length table / 2) n) ≡ true
          → WordNumbered edition s what section i table n section table n
      word-skipped e =
          record {
            one = W;
            stored = sym (set-get_or section i 0);
            grows = omega arith;
            numbers = ⊎_elim
                (λ f. other-numbers (ap (is_named what) (sym is-op) ∙ (sym is-named ∙ not-true b f)))
                (λ f. let full = ltb-true (length table / 2) n f in full-numbers (omega (arith, full)))
                (or_cases (not b) (ltb (length table / 2) n) e);
          }

      pub word-named : (not b || ltb (length table / 2) n) ≡ false
          → (is_named what (op_in W) ≡ true) × (2 * n ≤ length table)
      word-named e =
          let both = or-false (not b) (ltb (length table / 2) n) e in
          let room = ltb-false (length table / 2) n both.1 in
          (ap (is_named what) (sym is-op) ∙ (sym is-named ∙ not-false b both.0), omega (arith, room))

    module _ (is : is_named what (op_in W) ≡ true) (fits : 2 * n ≤ length table) (x : ℕ) (is-first : x ≡ first_in W)
        (e : Entry) (stands : Stands s (eqb what 0) (named edition s what x) e) (k : ℕ)
        (which : k ≡ number_of same_constant (entries_from s (eqb what 0) table 0 n) (meant s (eqb what 0) e)) where
      thing-stands : Stands s (eqb what 0) (thing_at edition s what W) e
      thing-stands = subst (λ (y : ℕ). Stands s (eqb what 0) (named edition s what y) e) is-first stands

      pub number_small : HoldsSome s (eqb what 0) table n → length table ≤ filter_text → k < 1048576
      number_small h short =
          omega (
            arith,
            short,
            number-within s (eqb what 0) table n h.0 h.1 fits (thing_at edition s what W) e thing-stands k which,
          )

      module _ (after : List ℕ) (stores : after ≡ cond (eqb k n) (with_entry table n e) table) (op d v : ℕ)
          (is-op : op ≡ op_in W) (is-depth : d ≡ depth_in W) (is_Is_word : v ≡ packed op d k 0) (section' : List ℕ)
          (stored : section' ≡ set section i v) where
        abbrev T : Constant
        T = thing_at edition s what W

        new_word : v ≡ with_operand W k
        new_word = is_Is_word ∙ rw (is-op, is-depth)

        one-numbers : (r : ℕ)
            → ((l : List Constant) → Holds s (eqb what 0) table n l
            → Holds s (eqb what 0) after r (with_new same_constant l (T ∷ [])))
            → AllNumbers edition s what table n (W ∷ []) after r (v ∷ [])
        one-numbers r f l h =
            record {
              holds = subst (λ (m : List Constant). Holds s (eqb what 0) after r (with_new same_constant l m))
                  (sym (one-thing W is)) (f l h);
              words = λ _. ap (λ (y : ℕ). y ∷ []) new_word
                  ∙ one_word l W k is (number_is s (eqb what 0) table n l h fits T e thing-stands k which);
            }

        pub word-known : k < n → WordNumbered edition s what section i table n section' after n
        word-known h =
            record {
              one = v;
              stored = stored;
              grows = omega arith;
              numbers = one-numbers n
                  (λ l g. known-holds s (eqb what 0) table n l g fits T e thing-stands k which after stores h);
            }

        pub word-new : n ≤ k → WordNumbered edition s what section i table n section' after (n + 1)
        word-new h =
            record {
              one = v;
              stored = stored;
              grows = omega arith;
              numbers = one-numbers (n + 1)
                  (λ l g. new-holds s (eqb what 0) table n l g fits T e thing-stands k which after stores h);
            }

  -- ---- the words of a section

  module _ (section : List ℕ) (table : List ℕ) (n : ℕ) where
    pub section-start : SectionNumbered edition s what section 0 table n section table n
    unfolding things numbered_from with_new
    section-start =
        record {
          words = [];
          stored = refl;
          size = refl;
          grows = omega arith;
          numbers = λ l h. record { holds = h; words = λ _. refl };
        }

    module _ (i : ℕ) (below : i < length section) (section' table' : List ℕ) (m : ℕ)
        (done : SectionNumbered edition s what section i table n section' table' m)
        (same : length table' ≡ length table) where
      -- instruction i is as it was
      kept : section' ≡ done.words ++ (get_or section i 0 ∷ drop (suc i) section)
      kept = done.stored ∙ ap (λ (l : List ℕ). done.words ++ l) (drop-cons section i 0 below)

      word_kept : get_or section' i 0 ≡ get_or section i 0
      word_kept =
          ap (λ (l : List ℕ). get_or l i 0) kept
          ∙ get_or_at done.words (get_or section i 0) (drop (suc i) section) 0 i done.size

      pub section-room : i < length section'
      section-room =
          omega (
            arith,
            ap length kept,
            length-append done.words (get_or section i 0 ∷ drop (suc i) section),
            done.size,
          )

      pub section-some : HoldsSome s (eqb what 0) table n → HoldsSome s (eqb what 0) table' m
      section-some h =
          (with_new same_constant h.0 (things edition s what (take i section)), (done.numbers h.0 h.1).holds)

      module _ (section'' table'' : List ℕ) (r : ℕ)
          (word : WordNumbered edition s what section' i table' m section'' table'' r) where
        abbrev One : List ℕ
        One = get_or section i 0 ∷ []

        one_kept : get_or section' i 0 ∷ [] ≡ One
        one_kept = ap (λ (w : ℕ). w ∷ []) word_kept

        more : take (suc i) section ≡ take i section ++ One
        more = take-suc section i 0 below

        more_numbers : AllNumbers edition s what table n (take i section ++ One) table'' r
            (done.words ++ (word.one ∷ []))
        more_numbers l h =
            let first = done.numbers l h in
            let list : List Constant = with_new same_constant l (things edition s what (take i section)) in
            let next : Numbers edition s what table' m One table'' r (word.one ∷ []) list =
            subst (λ (ws : List ℕ). Numbers edition s what table' m ws table'' r (word.one ∷ []) list) one_kept
            (word.numbers list first.holds) in
            let both : with_new same_constant list (things edition s what One)
            ≡ with_new same_constant l (things edition s what (take i section ++ One)) =
            sym (ap (with_new same_constant l) (things-append edition s what (take i section) One)
            ∙ new-append same_constant (things edition s what (take i section)) (things edition s what One) l) in
            record {
              holds = subst (Holds s (eqb what 0) table'' r) both next.holds;
              words = λ g.
                  let before : done.words ≡ numbered_from edition s what l (take i section) =
                  first.words (omega (arith, g, word.grows)) in
                  let last : word.one ∷ [] ≡ numbered_from edition s what list One =
                  next.words (omega (arith, g, same)) in
                  ap (λ (ws : List ℕ). ws ++ (word.one ∷ [])) before
                  ∙ (ap (λ (ws : List ℕ). numbered_from edition s what l (take i section) ++ ws) last
                  ∙ sym (numbered-append edition s what (take i section) One l));
            }

        section-next : SectionNumbered edition s what section (suc i) table n section'' table'' r
        section-next =
            record {
              words = done.words ++ (word.one ∷ []);
              stored =
                  word.stored ∙ (ap (λ (l : List ℕ). set l i word.one) kept
                  ∙ (set_at done.words (get_or section i 0) (drop (suc i) section) word.one i done.size
                  ∙ sym (append_assoc done.words (word.one ∷ []) (drop (suc i) section))));
              size = omega (arith, length-append done.words (word.one ∷ []), done.size);
              grows = omega (arith, done.grows, word.grows);
              numbers = subst (λ (ws : List ℕ). AllNumbers edition s what table n ws table'' r
                  (done.words ++ (word.one ∷ []))) (sym more) more_numbers;
            }

        pub section-more : SectionNumbered edition s what section (i + 1) table n section'' table'' r
        section-more = rw (add-one i) section-next

    -- the whole of what was asked for
    pub section-done : (i count : ℕ) (section' table' : List ℕ) (r : ℕ) → i ≤ count → count ≤ i
        → SectionNumbered edition s what section i table n section' table' r
        → SectionNumbered edition s what section count table n section' table' r
    section-done i count section' table' r a b h =
        let same : i ≡ count = omega (arith, a, b) in
        subst (λ (k : ℕ). SectionNumbered edition s what section k table n section' table' r) same h

  -- ---- all sections

  pub numbered-some : (section : List ℕ) (count : ℕ) (table : List ℕ) (n : ℕ) (section' table' : List ℕ) (r : ℕ)
      → SectionNumbered edition s what section count table n section' table' r
      → HoldsSome s (eqb what 0) table n → HoldsSome s (eqb what 0) table' r
  numbered-some section count table n section' table' r d h =
      (with_new same_constant h.0 (things edition s what (take count section)), (d.numbers h.0 h.1).holds)

  section-words : (section : List ℕ) (count : ℕ) (table : List ℕ) (n : ℕ) (section' table' : List ℕ) (r : ℕ)
      → (h : SectionNumbered edition s what section count table n section' table' r)
      → take count section' ≡ h.words
  section-words section count table n section' table' r h =
      ap (take count) h.stored ∙ take_at h.words (drop count section) count h.size

  module _ (begin main end : List ℕ) (nb nm nd : ℕ) (begin' main' end' : List ℕ) (t0 t1 t2 t3 : List ℕ) (n b m r : ℕ)
      (first : SectionNumbered edition s what begin nb t0 n begin' t1 b)
      (second : SectionNumbered edition s what main nm t1 b main' t2 m)
      (third : SectionNumbered edition s what end nd t2 m end' t3 r) (same1 : length t1 ≡ length t0)
      (same2 : length t2 ≡ length t0) where
    abbrev B : List ℕ
    B = take nb begin

    abbrev M : List ℕ
    M = take nm main

    abbrev E : List ℕ
    E = take nd end

    pub program-numbers : ProgramNumbers edition s what B M E (take nb begin') (take nm main') (take nd end') t0 n t3 r
    program-numbers l h =
        let tb : List Constant = things edition s what B in
        let tm : List Constant = things edition s what M in
        let te : List Constant = things edition s what E in
        let l1 : List Constant = with_new same_constant l tb in
        let l2 : List Constant = with_new same_constant l1 tm in
        let one = first.numbers l h in
        let two = second.numbers l1 one.holds in
        let three = third.numbers l2 two.holds in
        let last : List Constant = list_after edition s what l B M E in
        let from1 : with_new same_constant l1 (tm ++ te) ≡ last = sym (new-append same_constant tb (tm ++ te) l) in
        let from2 : with_new same_constant l2 (te ++ []) ≡ last =
        ap (with_new same_constant l2) (append-nil te) ∙ (sym (new-append same_constant tm te l1) ∙ from1) in
        record {
          holds = subst (Holds s (eqb what 0) t3 r) (sym (new-append same_constant tm te l1) ∙ from1) three.holds;
          begin-words = λ g.
              section-words begin nb t0 n begin' t1 b first
              ∙ (one.words (omega (arith, g, second.grows, third.grows))
              ∙ numbered-all edition s what B l (tm ++ te));
          main_words = λ g.
              section-words main nm t1 b main' t2 m second
              ∙ (two.words (omega (arith, g, third.grows, same1))
              ∙ (numbered-all edition s what M l1 te
              ∙ ap (λ (k : List Constant). map (numbered edition s what k) M) from1));
          end_words = λ g.
              section-words end nd t2 m end' t3 r third
              ∙ (three.words (omega (arith, g, same2))
              ∙ (numbered-all edition s what E l2 []
              ∙ ap (λ (k : List Constant). map (numbered edition s what k) E) from2));
        }
