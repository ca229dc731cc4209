-- Laws of words as their tests are stored.
use mathlib.Core.Path.{◌≡◌, refl, sym, ap, ap₂, subst, ◌∙◌}
use mathlib.Core.Bool.{Bool, true, false, cond}
use mathlib.Core.Logic.{inl, inr, ⊎_elim}
use mathlib.Core.List.{List}
use Prim.Native.Nat.{ℕ, suc, ◌+◌, ◌*◌, ◌/◌, ◌%◌, ◌≤◌, ◌<◌}
use native.Mathlib.Nat.{le_refl}
use native.Mathlib.Omega.{arith}
use native.Mathlib.Decide.{ℕ_discrete, dec_lt}
use lib.ListN.{length, get_or, set, length-set}
use lib.Seq.{get_or-set_same, get_or-set_other}
use lib.Dec.{eqb, leb}
use borrow.Author.Tests.{eq-eqb, ne_eqb, le-leb, lt-leb}
use Rattle.lists.proofs.Tests.{same_test}
use Rattle.std.specs.Prelude.{Some, None}
use Rattle.ere_table.specs.Table.{row, no_place}
use Rattle.ere_search.specs.Walk.{step}
use Rattle.ere_automaton.specs.Layout.{tests_at, test_byte, test_place, test_count, last_place, range_at, shape_word, shape_kind, Testable}
use Rattle.ere_automaton.specs.Words.{allows, closing, fits, Word}
use Rattle.ere_automaton.specs.Automaton.{Shape}
use Rattle.ere_automaton.proofs.Spelling.{each-allows, allows-each}
use Rattle.ere_classes.specs.Frames.{Frame}
use Rattle.ere_classes.proofs.Framed.{frame-none, frame_on, frame-wider, frame-set}
use Rattle.ere_shapes.specs.Leads.{Ended, among, Leads}
use Rattle.ere_shapes.specs.Spelt.{Alike, Tested, Padded, Spelt, Kind, PutWord}
use Rattle.ere_shapes.proofs.Ranges.{among_one, among-any}

-- ---- tests that are the same

module _ (d d' : List ℕ) (n : ℕ) (e : Alike n d d') (k : ℕ) (h : k < n) where
  byte-on : test_byte d' k ≡ test_byte d k
  byte-on = ap (λ (w : ℕ). w % 256) (e k h)

  place-on : test_place d' k ≡ test_place d k
  place-on = ap (λ (w : ℕ). w / 256) (e k h)

-- they allow the same
allows-to : (d d' : List ℕ) (n : ℕ) → Alike n d d' → (q b : ℕ) → allows d n q b ≡ true → allows d' n q b ≡ true
allows-to d d' n e q b h =
    each-allows d' q b n (λ k l is.
    ap (eqb b) (byte-on d d' n e k l) ∙ allows-each d q b n h k l (sym (place-on d d' n e k l) ∙ is))

pub allows-on : (d d' : List ℕ) (n : ℕ) → Alike n d d' → (q b : ℕ) → allows d' n q b ≡ allows d n q b
allows-on d d' n e q b =
    same_test (allows d' n q b) (allows d n q b) (allows-to d' d n (λ k h. sym (e k h)) q b) (allows-to d d' n e q b)

-- ---- the first bytes of a word

-- the first q bytes: e tests tell them, and the set s comes after them
pub record Begun (t d : List ℕ) (e q : ℕ) (s : List ℕ) : Type 0 where
  pub sets : ℕ → List ℕ
  pub begins : sets 0 ≡ row t 0
  pub comes : sets q ≡ s
  pub on : (p b : ℕ) → p < q → b < 256 → allows d e p b ≡ true → step t (sets p) b ≡ sets (suc p)
  pub off : (p b : ℕ) → p < q → b < 256 → allows d e p b ≡ false → step t (sets p) b ≡ no_place
  pub unended : (p : ℕ) → p < q → Ended (sets p) false
  pub places : (k : ℕ) → k < e → test_place d k < q

pub begun-none : (t d s : List ℕ) → s ≡ row t 0 → Begun t d 0 0 s
begun-none t d s is = record {
  sets = λ q. s;
  begins = is;
  comes = refl;
  on = λ p b h. absurd (omega arith);
  off = λ p b h. absurd (omega arith);
  unended = λ p h. absurd (omega arith);
  places = λ k h. absurd (omega arith);
}

-- a byte more
module _ (t d : List ℕ) (e q : ℕ) (s : List ℕ) (B : Begun t d e q s) (range : ℕ) (L : Leads t s range)
    (next : List ℕ) (is : next ≡ step t s (range % 256)) where
  -- the sets up to q, and what comes next
  abbrev nexts : ℕ → List ℕ
  nexts p = cond (leb p q) (B.sets p) next

  old : (p : ℕ) → p ≤ q → nexts p ≡ B.sets p
  old p h = ap (λ (y : Bool). cond y (B.sets p) next) (le-leb p q h)

  new : nexts (suc q) ≡ next
  new = ap (λ (y : Bool). cond y (B.sets (suc q)) next) (lt-leb (suc q) q (le_refl _))

  -- what byte p may be
  module _ (fit : ℕ → ℕ → Bool) (before : (p b : ℕ) → p < q → b < 256 → fit p b ≡ allows d e p b)
      (here : (b : ℕ) → b < 256 → fit q b ≡ among range b) where
    pub more-on : (p b : ℕ) → p ≤ q → b < 256 → fit p b ≡ true → step t (nexts p) b ≡ nexts (suc p)
    more-on p b h l f =
        elim (ℕ_discrete p q) [
          | yes z ↦
              ap (λ (u : List ℕ). step t u b) (old p h ∙ ap B.sets z ∙ B.comes)
              ∙ L.on b l (sym (here b l) ∙ subst (λ (j : ℕ). fit j b ≡ true) z f)
              ∙ sym is ∙ sym new ∙ ap (λ (j : ℕ). nexts (suc j)) (sym z)
          | no z ↦
              ap (λ (u : List ℕ). step t u b) (old p h)
              ∙ B.on p b (omega arith) l (sym (before p b (omega arith) l) ∙ f)
              ∙ sym (old (suc p) (omega arith))
        ]

    pub more-off : (p b : ℕ) → p ≤ q → b < 256 → fit p b ≡ false → step t (nexts p) b ≡ no_place
    more-off p b h l f =
        elim (ℕ_discrete p q) [
          | yes z ↦
              ap (λ (u : List ℕ). step t u b) (old p h ∙ ap B.sets z ∙ B.comes)
              ∙ L.off b l (sym (here b l) ∙ subst (λ (j : ℕ). fit j b ≡ false) z f)
          | no z ↦
              ap (λ (u : List ℕ). step t u b) (old p h)
              ∙ B.off p b (omega arith) l (sym (before p b (omega arith) l) ∙ f)
        ]

  pub more-unended : (p : ℕ) → p ≤ q → Ended (nexts p) false
  more-unended p h =
      elim (ℕ_discrete p q) [
        | yes z ↦ subst (λ (u : List ℕ). Ended u false) (sym (old p h ∙ ap B.sets z ∙ B.comes)) L.unended
        | no z ↦ subst (λ (u : List ℕ). Ended u false) (sym (old p h)) (B.unended p (omega arith))
      ]

  -- with the test that it needs
  module _ (r : ℕ) (d' : List ℕ) (T : Tested d e q range (Some r) d') where
    -- no test of those before is for byte q
    free : (b : ℕ) → allows d' e q b ≡ true
    free b =
        each-allows d' q b e (λ k h z.
        let l = B.places k h in
        let w = place-on d d' e T.kept k h in
        absurd (omega arith))

    -- a test more
    module _ (more : r ≡ suc e) (one : range < 256) (put : get_or d' (tests_at + e) 0 ≡ range + 256 * q) where
      byte-is : test_byte d' e ≡ range
      byte-is = ap (λ (w : ℕ). w % 256) put ∙ omega arith

      place_is : test_place d' e ≡ q
      place_is = ap (λ (w : ℕ). w / 256) put ∙ omega arith

      one-before : (p b : ℕ) → p < q → allows d' (suc e) p b ≡ allows d e p b
      one-before p b h =
          same_test (allows d' (suc e) p b) (allows d e p b)
          (λ f. allows-to d' d e (λ k l. sym (T.kept k l)) p b
          (each-allows d' p b e (λ k l z. allows-each d' p b (suc e) f k (omega arith) z)))
          (λ f. each-allows d' p b (suc e) (λ k l z. elim (ℕ_discrete k e) [
            | yes g ↦ absurd (omega (arith, place_is, z, ap (test_place d') g))
            | no g ↦ allows-each d' p b e (allows-to d d' e T.kept p b f) k (omega arith) z
          ]))

      one-here : (b : ℕ) → b < 256 → allows d' (suc e) q b ≡ among range b
      one-here b l =
          same_test (allows d' (suc e) q b) (eqb b range)
          (λ f. sym (ap (eqb b) byte-is) ∙ allows-each d' q b (suc e) f e (le_refl _) place_is)
          (λ f. each-allows d' q b (suc e) (λ k h z. elim (ℕ_discrete k e) [
            | yes g ↦ ap (λ (j : ℕ). eqb b (test_byte d' j)) g ∙ ap (eqb b) byte-is ∙ f
            | no g ↦ allows-each d' q b e (free b) k (omega arith) z
          ]))
          ∙ sym (among_one range b one l)

      one-places : (k : ℕ) → k < suc e → test_place d' k < suc q
      one-places k h =
          elim (ℕ_discrete k e) [
            | yes g ↦ omega (arith, place_is, ap (test_place d') g)
            | no g ↦
                let w = place-on d d' e T.kept k (omega arith) in
                let l = B.places k (omega arith) in
                omega arith
          ]

      one_more : Begun t d' (suc e) (suc q) next
      one_more = record {
        sets = nexts;
        begins = old 0 (omega arith) ∙ B.begins;
        comes = new;
        on = λ p b h. more-on (allows d' (suc e)) (λ p b h l. one-before p b h) one-here p b (omega arith);
        off = λ p b h. more-off (allows d' (suc e)) (λ p b h l. one-before p b h) one-here p b (omega arith);
        unended = λ p h. more-unended p (omega arith);
        places = one-places;
      }

    -- none
    module _ (any : range / 256 ≡ 255) where
      any-before : (p b : ℕ) → p < q → b < 256 → allows d' e p b ≡ allows d e p b
      any-before p b h l = allows-on d d' e T.kept p b

      any_here : (b : ℕ) → b < 256 → allows d' e q b ≡ among range b
      any_here b l = free b ∙ sym (among-any range b any)

      any-more : Begun t d' e (suc q) next
      any-more = record {
        sets = nexts;
        begins = old 0 (omega arith) ∙ B.begins;
        comes = new;
        on = λ p b h. more-on (allows d' e) any-before any_here p b (omega arith);
        off = λ p b h. more-off (allows d' e) any-before any_here p b (omega arith);
        unended = λ p h. more-unended p (omega arith);
        places = λ k h.
            let w = place-on d d' e T.kept k h in
            let l = B.places k h in
            omega arith;
      }

    pub begun_more : Begun t d' r (q + 1) next
    begun_more =
        let z : suc q ≡ q + 1 = omega arith in
        subst (λ (j : ℕ). Begun t d' r j next) z
        (⊎_elim
        (λ w. subst (λ (j : ℕ). Begun t d' j (suc q) next) (sym w.0) (any-more w.1))
        (λ w. subst (λ (j : ℕ). Begun t d' j (suc q) next) (sym w.0) (one_more w.0 w.1 w.2))
        T.new.1)

  -- the last byte
  module _ (some : 0 < e) (low : e ≤ 7) (short : q < 16) (small : range < 65536) (d' : List ℕ) (P : Padded e d d')
      (room : 24 ≤ length d) (ends : Ended next true) (w : ℕ) (says : w % 256 ≡ 16 * e + q) where
    abbrev D : List ℕ
    D = set (set d' range_at range) 15 w

    size_is : length d' ≡ length d
    size_is = P.frame.size

    shape_is : shape_word D ≡ w
    shape_is = get_or-set_same (set d' range_at range) 15 w 0 (simp length-set (omega (arith, size_is, room)))

    last-is : last_place D ≡ q
    last-is = ap (λ (n : ℕ). n % 16) shape_is ∙ omega (arith, says, low, short)

    count-is : test_count D ≡ e
    count-is = ap (λ (n : ℕ). n / 16 % 16) shape_is ∙ omega (arith, says, low, short)

    range-is : get_or D range_at 0 ≡ range
    range-is =
        get_or-set_other (set d' range_at range) 15 range_at w 0 (omega arith)
        ∙ get_or-set_same d' range_at range 0 (omega (arith, size_is, room))

    test-is : (k : ℕ) → k < 7 → get_or D (tests_at + k) 0 ≡ get_or d' (tests_at + k) 0
    test-is k h =
        get_or-set_other (set d' range_at range) 15 (tests_at + k) w 0 (omega arith)
        ∙ get_or-set_other d' range_at (tests_at + k) range 0 (omega arith)

    kept : Alike e d D
    kept k h = test-is k (omega arith) ∙ P.kept k h

    again : (k : ℕ) → e ≤ k → k < 7 → get_or D (tests_at + k) 0 ≡ get_or D tests_at 0
    again k h l = test-is k l ∙ P.again k h l ∙ sym (kept 0 some)

    padded : (p b : ℕ) → allows D 7 p b ≡ allows d e p b
    padded p b =
        same_test (allows D 7 p b) (allows d e p b)
        (λ f. allows-to D d e (λ k h. sym (kept k h)) p b
        (each-allows D p b e (λ k h z. allows-each D p b 7 f k (omega arith) z)))
        (λ f.
        let g = allows-each D p b e (allows-to d D e kept p b f) in
        each-allows D p b 7 (λ k h z. elim (dec_lt k e) [
          | yes l ↦ g k l z
          | no l ↦
              let same = again k (omega arith) h in
              ap (λ (n : ℕ). eqb b (n % 256)) same ∙ g 0 some (sym (ap (λ (n : ℕ). n / 256) same) ∙ z)
        ]))

    before : (p b : ℕ) → p < q → b < 256 → fits D p b ≡ allows d e p b
    before p b h l =
        let apart : p ≡ last_place D → ⊥ = λ z. omega (arith, last-is) in
        ap (λ (y : Bool). cond y (closing D b) (allows D 7 p b)) (ne_eqb p (last_place D) apart) ∙ padded p b

    here : (b : ℕ) → b < 256 → fits D q b ≡ among range b
    here b l =
        ap (λ (y : Bool). cond y (closing D b) (allows D 7 q b)) (eq-eqb q (last_place D) (sym last-is))
        ∙ ap (λ (n : ℕ). among n b) range-is

    places : (k : ℕ) → k < 7 → test_place D k < last_place D
    places k h =
        elim (dec_lt k e) [
          | yes l ↦ omega (arith, B.places k l, place-on d D e kept k l, last-is)
          | no l ↦
              let same = ap (λ (n : ℕ). n / 256) (again k (omega arith) h) in
              omega (arith, same, B.places 0 some, place-on d D e kept 0 some, last-is)
        ]

    pub word-is : Word t D
    word-is = record {
      sets = nexts;
      begins = old 0 (omega arith) ∙ B.begins;
      on = λ p b h. more-on (fits D) before here p b (omega (arith, last-is));
      off = λ p b h. more-off (fits D) before here p b (omega (arith, last-is));
      unended = λ p h. more-unended p (omega (arith, last-is));
      ends = subst (λ (u : List ℕ). Ended u true) (sym (ap (λ (j : ℕ). nexts (suc j)) last-is ∙ new)) ends;
      places = places;
      again = λ k h. again k (omega (arith, count-is));
    }

-- ---- what is stored

pub tested-any : (d : List ℕ) (e q range : ℕ) → e ≤ 7 → range / 256 ≡ 255 → Tested d e q range (Some e) d
tested-any d e q range h any = record { frame = frame-none 16 24 d; kept = λ k l. refl; new = (h, inl (refl, any)) }

pub tested-none : (d : List ℕ) (e q range : ℕ) → Tested d e q range None d
tested-none d e q range = record { frame = frame-none 16 24 d; kept = λ k l. refl; new = tt }

pub tested-one : (d : List ℕ) (e q range : ℕ) → 24 ≤ length d → e < 7 → range < 256
    → Tested d e q range (Some (e + 1)) (set d (tests_at + e) (range + 256 * q))
tested-one d e q range room h one = record {
  frame = frame-wider (omega arith) (omega arith) (frame-set d (tests_at + e) (range + 256 * q));
  kept = λ k l. get_or-set_other d (tests_at + e) (tests_at + k) (range + 256 * q) 0 (omega arith);
  new = (omega arith, inr (omega arith, one, get_or-set_same d (tests_at + e) (range + 256 * q) 0 (omega arith)));
}

-- the first test again for those from e up to k
pub record Pads (e k : ℕ) (d d' : List ℕ) : Type 0 where
  pub frame : Frame 16 24 d d'
  pub kept : Alike e d d'
  pub again : (j : ℕ) → e ≤ j → j < k → get_or d' (tests_at + j) 0 ≡ get_or d tests_at 0

pub pads-none : (e : ℕ) (d : List ℕ) → Pads e e d d
pads-none e d = record { frame = frame-none 16 24 d; kept = λ k l. refl; again = λ j h l. absurd (omega arith) }

pub pads-more : (e k : ℕ) (d₀ d : List ℕ) → 24 ≤ length d₀ → 0 < e → e ≤ k → k < 7 → Pads e k d₀ d
    → Pads e (k + 1) d₀ (set d (tests_at + k) (get_or d tests_at 0))
pads-more e k d₀ d room some h l P = record {
  frame = frame_on P.frame (frame-wider (omega arith) (omega arith) (frame-set d (tests_at + k) (get_or d tests_at 0)));
  kept = λ j m. get_or-set_other d (tests_at + k) (tests_at + j) (get_or d tests_at 0) 0 (omega arith) ∙ P.kept j m;
  again = λ j m n. elim (ℕ_discrete j k) [
    | yes z ↦
        ap (λ (i : ℕ). get_or (set d (tests_at + k) (get_or d tests_at 0)) (tests_at + i) 0) z
        ∙ get_or-set_same d (tests_at + k) (get_or d tests_at 0) 0 (omega (arith, P.frame.size))
        ∙ P.kept 0 some
    | no z ↦
        get_or-set_other d (tests_at + k) (tests_at + j) (get_or d tests_at 0) 0 (omega arith) ∙ P.again j m (omega arith)
  ];
}

pub pads-all : (e k : ℕ) (d d' : List ℕ) → 7 ≤ k → Pads e k d d' → Padded e d d'
pads-all e k d d' h P = record { frame = P.frame; kept = P.kept; again = λ j m n. P.again j m (omega arith) }

pub put-none : (t d d' : List ℕ) → Frame 16 24 d d' → shape_word d ≡ 0 → PutWord t d d'
put-none t d d' F e = record {
  frame = frame-wider (omega arith) (omega arith) F;
  shape = record { word = λ h. absurd (omega (arith, none)); first = λ h. absurd (omega (arith, none)) };
  tests = λ h. absurd (omega (arith, none));
}
  where
    none : shape_word d' ≡ 0
    none = F.below 15 (omega arith) ∙ e

pub kind-few : (t : List ℕ) (kind : ℕ) → Kind t kind → kind ≤ 512
kind-few t kind K = ⊎_elim (λ z. omega (arith, z.0)) (λ z. omega (arith, z.0)) K.is

-- the kind is stored
pub word-put : (t d d' : List ℕ) (kind n : ℕ) → 24 ≤ length d → Kind t kind → Spelt t d (Some n) d'
    → PutWord t d (set d' 15 (kind + n))
word-put t d d' kind n room K S = record {
  frame = frame_on (frame-wider (omega arith) (omega arith) S.frame) (frame-wider (omega arith) (omega arith) (frame-set d' 15 (kind + n)));
  shape = record {
    word = λ h. (W, ⊎_elim (λ z. z.1) (λ z. absurd (omega (arith, z.0, kinds, h))) K.is);
    first = λ h. (W, ⊎_elim (λ z. absurd (omega (arith, z.0, kinds, h))) (λ z. z.1) K.is);
  };
  tests = λ h l k m. omega (arith, W.places k m);
}
  where
    rest : kind % 256 ≡ 0
    rest = ⊎_elim (λ z. omega (arith, z.0)) (λ z. omega (arith, z.0)) K.is

    W : Word t (set d' 15 (kind + n))
    W = S.word.1 (kind + n) (omega (arith, rest, S.word.0))

    kinds : shape_kind (set d' 15 (kind + n)) ≡ kind / 256
    kinds =
        ap (λ (w : ℕ). w / 256) (get_or-set_same d' 15 (kind + n) 0 (omega (arith, S.frame.size, room)))
        ∙ omega (arith, rest, S.word.0)

-- words that are kept
module _ (t d d' : List ℕ) (e : (i : ℕ) → 15 ≤ i → i < 24 → get_or d' i 0 ≡ get_or d i 0) where
  shape-word : shape_word d' ≡ shape_word d
  shape-word = e 15 (omega arith) (omega arith)

  tests-kept : Alike 7 d d'
  tests-kept k h = e (16 + k) (omega arith) (omega arith)

  fits_kept : (q b : ℕ) → fits d' q b ≡ fits d q b
  fits_kept q b =
      ap₂ (λ (w r : ℕ). cond (eqb q (w % 16)) (among r b) (allows d' 7 q b)) shape-word (e 23 (omega arith) (omega arith))
      ∙ ap (λ (z : Bool). cond (eqb q (last_place d)) (closing d b) z) (allows-on d d' 7 tests-kept q b)

  last-kept : last_place d' ≡ last_place d
  last-kept = ap (λ (w : ℕ). w % 16) shape-word

  word_on : Word t d → Word t d'
  word_on W = record {
    sets = W.sets;
    begins = W.begins;
    on = λ q b h l f. W.on q b (omega (arith, last-kept)) l (sym (fits_kept q b) ∙ f);
    off = λ q b h l f. W.off q b (omega (arith, last-kept)) l (sym (fits_kept q b) ∙ f);
    unended = λ q h. W.unended q (omega (arith, last-kept));
    ends = subst (λ (n : ℕ). Ended (W.sets (suc n)) true) (sym last-kept) W.ends;
    places = λ k h. omega (arith, last-kept, W.places k h, place-on d d' 7 tests-kept k h);
    again = λ k h l.
        tests-kept k l
        ∙ W.again k (subst (λ (w : ℕ). w / 16 % 16 ≤ k) shape-word h) l
        ∙ sym (tests-kept 0 (omega arith));
  }

  pub shape_on : Shape t d → Shape t d'
  shape_on S = record {
    word = λ h. let w = S.word (sym (ap (λ (n : ℕ). n / 256) shape-word) ∙ h) in (word_on w.0, w.1);
    first = λ h. let w = S.first (sym (ap (λ (n : ℕ). n / 256) shape-word) ∙ h) in (word_on w.0, w.1);
  }

  pub testable-on : Testable d → Testable d'
  testable-on T h l k m =
      omega (
        arith,
        shape-word,
        place-on d d' 7 tests-kept k m,
        T (omega (arith, shape-word)) (omega (arith, shape-word)) k m,
      )
