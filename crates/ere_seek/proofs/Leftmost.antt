-- The leftmost match: the first start that has one, and an empty one where none of at least a byte is before it.
use mathlib.Core.Path.{◌≡◌, refl, sym, ap, ap₂, subst, ◌∙◌}
use mathlib.Core.Bool.{Bool, true, false, cond}
use mathlib.Core.Logic.{◌⊎◌, inl, inr, ⊎_elim}
use mathlib.Core.List.{List}
use Rattle.std.specs.Prelude.{Option, Some, None}
use Prim.Native.Nat.{ℕ, zero, suc, ◌+◌, ◌-◌, ◌≤◌, ◌<◌}
use native.Mathlib.Nat.{add-zero, le_refl}
use native.Mathlib.Decide.{dec_lt}
use native.Mathlib.Omega.{arith}
use lib.ListN.{length, take}
use lib.Dec.{eqb}
use lib.Seq.{get_or-take, length-take-le}
use borrow.Author.Tests.{eq-eqb, ne_eqb, eqb-true, eqb-false, le-leb}
use Rattle.lists.proofs.Tests.{clash}
use Rattle.ere_table.specs.Table.{row, no_place}
use Rattle.ere_table.specs.Wiring.{stop_in}
use Rattle.ere_search.specs.Walk.{live_at, longest_to, longest_of, entry_row}
use Rattle.ere_search.specs.Find.{Inside, Finds}
use Rattle.ere_search.proofs.Meets.{Told, told}
use Rattle.ere_search.proofs.Answers.{Seen, finds}
use Rattle.ere_automaton.specs.Layout.{later_state, accepted_state}
use Rattle.ere_automaton.specs.Follows.{FollowsOne, one_length, one_in, pending_in, Seeks}
use Rattle.ere_seek.specs.Starts.{Bare, Bares, Hulled, Candidate}
use Rattle.ere_seek.specs.One.{accepts, end_of, Longest}
use Rattle.ere_seek.specs.Pending.{Cleared}
use Rattle.ere_seek.specs.Seeking.{empty_at, Sought, SoughtFrom, Both, SoughtBoth, FindsBoth}
use Rattle.ere_seek.proofs.Bareness.{bare-end, bare-nothing, bares-both, row-later}
use Rattle.ere_seek.proofs.Following.{bits-stop}

-- ---- the longest match from a start, by its end

module _ (t x : List ℕ) (at s : ℕ) where
  -- it has at least a byte
  pub no_one : longest_of t x at 1 s ≤ 1 → Bare t x at s
  no_one h = by (longest_of t x at 1 s) (told t x at 1 s (suc (length x - s))) h
    where
      by : (o : ℕ) → Told t x at 1 s (suc (length x - s)) o → o ≤ 1 → o ≡ 0
      by zero p l = refl
      by (suc k) p l = absurd (omega (arith, p.1))

  pub end_none : (e : ℕ) → e ≡ end_of t x at s → e ≤ s → Bare t x at s
  end_none e z h = no_one (omega arith)

  pub end-some : (e : ℕ) → e ≡ end_of t x at s → s < e → longest_of t x at 1 s ≡ suc (e - s)
  end-some e z h = omega arith

-- what `longest` gives
module _ (t d x : List ℕ) (at s : ℕ) (first : Bool) (D : FollowsOne t d) (f : first ≡ eqb (at + s) 0) (until e : ℕ)
    (L : Longest d x s first until e) where
  pub longest-some : s < e → longest_of t x at 1 s ≡ suc (e - s)
  longest-some h =
      ⊎_elim (λ z. end-some t x at s e z h) (λ w. absurd (omega (arith, w.0))) (L.ends t at D f)

  pub longest-end : length x ≤ until → e ≡ end_of t x at s
  longest-end l = ⊎_elim (λ z. z) (λ w. absurd (omega (arith, w.1))) (L.ends t at D f)

  pub longest-none : length x ≤ until → e ≤ s → Bare t x at s
  longest-none l h = end_none t x at s e (longest-end l) h

-- ---- start after start

-- at the start s, a match of e - s bytes
pub found_from : (d x : List ℕ) (at from s until e : ℕ) → s ≤ length x → s < e
    → Longest d x s (eqb (at + s) 0) until e
    → ((t : List ℕ) → FollowsOne t d → Hulled t d → Bares t x at 0 from → Bares t x at 0 s)
    → SoughtFrom d x at from (Some (at + s, e - s))
found_from d x at from s until e h l L B =
    record {
      inside = (omega arith, omega (arith, L.inside), omega arith);
      sought = λ t D H b.
          (s, refl, h, longest-some t d x at s (eqb (at + s) 0) D refl until e L l, B t D H b);
    }

pub none_from : (d x : List ℕ) (at from s : ℕ) → length x ≤ s
    → ((t : List ℕ) → FollowsOne t d → Hulled t d → Bares t x at 0 from → Bares t x at 0 s)
    → SoughtFrom d x at from None
none_from d x at from s h B =
    record {
      inside = tt;
      sought = λ t D H b. bares-both t x at 0 s (length x + 1) (B t D H b) (λ k l m. bare-end t x at k (omega arith));
    }

-- past a start that has none
pub bares-one : (t x : List ℕ) (at s : ℕ) → Bares t x at 0 s → Bare t x at s → Bares t x at 0 (s + 1)
bares-one t x at s B b k l m = elim (dec_lt k s) [
  | yes y ↦ B k l y
  | no y ↦ let z : s ≡ k = omega arith in subst (Bare t x at) z b
]

-- to the next candidate
pub bares-to : (t d x : List ℕ) (at i s : ℕ) → FollowsOne t d → Hulled t d → Bares t x at 0 i
    → Candidate d x i (eqb (at + i) 0) s → Bares t x at 0 s
bares-to t d x at i s D H B C = bares-both t x at 0 i s B (C.none t at D H refl)

-- ---- by both automata

-- the first candidate
pub bares-first : (t d x : List ℕ) (at s : ℕ) → FollowsOne t d → Hulled t d → Candidate d x 0 (eqb at 0) s
    → Bares t x at 0 s
bares-first t d x at s D H C =
    let z : at ≡ at + 0 = omega arith in C.none t at D H (ap (λ (j : ℕ). eqb j 0) z)

module _ (d p x : List ℕ) (at s : ℕ) (C : Candidate d x 0 (eqb at 0) s) where
  pub both-none : length x ≤ s → SoughtBoth d p x at None
  both-none h =
      record {
        inside = tt;
        sought = λ t B.
            (none_from d x at 0 s h (λ u D H b. bares-first u d x at s D H C)).sought t B.one B.one_hull
            (λ k l m. absurd (omega arith));
      }

  pub both_some : (until e : ℕ) → s ≤ length x → s < e → Longest d x s (eqb (at + s) 0) until e
      → SoughtBoth d p x at (Some (at + s, e - s))
  both_some until e h l L =
      let F = found_from d x at 0 s until e h l L (λ u D H b. bares-first u d x at s D H C) in
      record {
        inside = F.inside;
        sought = λ t B. F.sought t B.one B.one_hull (λ k l m. absurd (omega arith));
      }

  -- none from the first candidate, and none starts elsewhere than at the text's start
  pub both-only : (far until e : ℕ) → eqb (later_state d) (accepted_state d) ≡ true
      → until ≡ cond (eqb (later_state d) (accepted_state d)) (length x) far → e ≤ s
      → Longest d x s (eqb (at + s) 0) until e → SoughtBoth d p x at None
  both-only far until e z u l L =
      record {
        inside = tt;
        sought = λ t B k a b.
            let D = B.one in
            let none : row t 1 ≡ no_place =
            sym D.elsewhere ∙ ap D.sets (eqb-true (later_state d) (accepted_state d) z) ∙ D.stays in
            let h : until ≡ length x = u ∙ ap (λ (y : Bool). cond y (length x) far) z in
            let here = longest-none t d x at s (eqb (at + s) 0) D refl until e L (omega arith) l in
            elim (dec_lt k s) [
              | yes y ↦ bares-first t d x at s D B.one_hull C k a y
              | no y ↦ elim (dec_lt s k) [
                | yes w ↦ bare-nothing t x at k (omega arith) (row-later t (at + k) (omega arith) ∙ none)
                | no w ↦ let same : s ≡ k = omega arith in subst (Bare t x at) same here
              ]
            ];
      }

  -- from where nothing is pending
  pub both-from : (f : ℕ) (r : Option (ℕ × ℕ)) → Cleared p x s (eqb (at + s) 0) f → SoughtFrom d x at f r
      → SoughtBoth d p x at r
  both-from f r P F =
      record {
        inside = F.inside;
        sought = λ t B.
            F.sought t B.one B.one_hull
            (bares-both t x at 0 s f (bares-first t d x at s B.one B.one_hull C)
            (P.none t at B.pending B.pending_hull refl));
      }

-- ---- the empty match

-- there is one at k
abbrev empty_here : List ℕ → List ℕ → ℕ → ℕ → Bool
empty_here t x at k = stop_in (row t (entry_row (at + k))) (eqb k (length x))

module _ (t x : List ℕ) (at k : ℕ) where
  -- with an empty match, the longest is what it is without, if that is one
  abbrev with_empty : ℕ → ℕ
  with_empty o = cond (eqb o 0) (cond (empty_here t x at k) 1 0) o

  to-empty : (n : ℕ) → longest_to t x at 0 k (suc n) ≡ with_empty (longest_to t x at 1 k (suc n))
  unfolding longest_to live_at
  to-empty zero =
      ap (λ (j : ℕ). cond (stop_in (row t (entry_row (at + k))) (eqb j (length x))) 1 0) (add-zero k)
  to-empty (suc n) =
      ap₂ (λ (o : ℕ) (y : Bool). cond y (cond st (suc (suc n)) o) o) (to-empty n) (le-leb 0 (suc n) (omega arith))
      ∙ by (stop_in (live_at t x at k (suc n)) (eqb (k + suc n) (length x)))
      ∙ ap (λ (y : Bool). with_empty (cond y (cond st (suc (suc n)) some) some))
      (sym (le-leb 1 (suc n) (omega arith)))
    where
      some : ℕ
      some = longest_to t x at 1 k (suc n)

      st : Bool
      st = stop_in (live_at t x at k (suc n)) (eqb (k + suc n) (length x))

      by : (y : Bool) → cond y (suc (suc n)) (with_empty (longest_to t x at 1 k (suc n)))
          ≡ with_empty (cond y (suc (suc n)) (longest_to t x at 1 k (suc n)))
      by true =
          ap (λ (y : Bool). cond y (cond (empty_here t x at k) 1 0) (suc (suc n)))
          (sym (ne_eqb (suc (suc n)) 0 (omega arith)))
      by false = refl

  -- one of at least a byte
  pub empty-some : (n : ℕ) → longest_of t x at 1 k ≡ suc n → longest_of t x at 0 k ≡ suc n
  empty-some n e =
      to-empty (length x - k)
      ∙ ap with_empty e
      ∙ ap (λ (y : Bool). cond y (cond (empty_here t x at k) 1 0) (suc n)) (ne_eqb (suc n) 0 (omega arith))

  -- none
  pub empty-only : (y : Bool) → Bare t x at k → empty_here t x at k ≡ y → longest_of t x at 0 k ≡ cond y 1 0
  empty-only y e h =
      to-empty (length x - k)
      ∙ ap with_empty e
      ∙ ap (λ (z : Bool). cond z 1 0) h

-- ---- by the accept bits

eqb_swap : (n : ℕ) → eqb 0 n ≡ eqb n 0
eqb_swap zero = refl
eqb_swap (suc n) = ne_eqb 0 (suc n) (omega arith) ∙ sym (ne_eqb (suc n) 0 (omega arith))

module _ (t d p x : List ℕ) (at : ℕ) (B : Both t d p) where
  pub empty-is : (first last : Bool) → empty_at d first last ≡ stop_in (row t (cond first 0 1)) last
  empty-is true last = ap (λ (y : ℕ). accepts y last) B.empty_first ∙ bits-stop (row t 0) last
  empty-is false last = ap (λ (y : ℕ). accepts y last) B.empty_later ∙ bits-stop (row t 1) last

  -- none where the search starts, so none before the text's end
  later-none : (first : Bool) → stop_in (row t (cond first 0 1)) false ≡ false → (other : Bool)
      → (first ≡ false → other ≡ false) → stop_in (row t (cond other 0 1)) false ≡ false
  later-none true h true e = h
  later-none true h false e = by (stop_in (row t 1) false) refl
    where
      by : (y : Bool) → stop_in (row t 1) false ≡ y → y ≡ false
      by true z = absurd (clash (sym (B.sooner z) ∙ h))
      by false z = refl
  later-none false h true e = absurd (clash (e refl))
  later-none false h false e = h

  pub none_before : empty_at d (eqb at 0) (eqb (length x) 0) ≡ false → (k : ℕ) → k < length x
      → empty_here t x at k ≡ false
  none_before h k l =
      let some : eqb (length x) 0 ≡ false = ne_eqb (length x) 0 (omega arith) in
      let off : stop_in (row t (cond (eqb at 0) 0 1)) false ≡ false =
      sym (empty-is (eqb at 0) false) ∙ ap (empty_at d (eqb at 0)) (sym some) ∙ h in
      ap (stop_in (row t (entry_row (at + k)))) (ne_eqb k (length x) (omega arith))
      ∙ later-none (eqb at 0) off (eqb (at + k) 0) (λ z. ne_eqb (at + k) 0 (λ w. eqb-false at 0 z (omega arith)))

  -- ---- what is found

  -- an empty match where the search starts, or a longer one there
  pub seen_first : (e : ℕ) → empty_at d (eqb at 0) (eqb (length x) 0) ≡ true → e ≡ end_of t x at 0
      → Seen t x at 0 (Some (at, e))
  seen_first e h z =
      (0, omega arith, omega arith, by (longest_of t x at 1 0) refl, λ k l. absurd (omega arith))
    where
      here : empty_here t x at 0 ≡ true
      here =
          ap₂ (λ (j : ℕ) (y : Bool). stop_in (row t (entry_row j)) y) (add-zero at) (eqb_swap (length x))
          ∙ sym (empty-is (eqb at 0) (eqb (length x) 0))
          ∙ h

      by : (o : ℕ) → longest_of t x at 1 0 ≡ o → longest_of t x at 0 0 ≡ suc e
      by zero w =
          let n : 1 ≡ suc e = omega arith in
          empty-only t x at 0 true w here ∙ n
      by (suc n) w =
          let m : suc n ≡ suc e = omega arith in
          empty-some t x at 0 n w ∙ m

  module _ (h : empty_at d (eqb at 0) (eqb (length x) 0) ≡ false) where
    none-all : (s : ℕ) → s ≤ length x → Bares t x at 0 s → (k : ℕ) → k < s → longest_of t x at 0 k ≡ 0
    none-all s l b k m = empty-only t x at k false (b k (omega arith) m) (none_before h k (omega arith))

    -- one of at least a byte
    pub seen-some : (a n : ℕ) → Sought t x at (Some (a, n)) → Seen t x at 0 (Some (a, n))
    seen-some a n S =
        (S.0, S.1, S.2, empty-some t x at S.0 n S.3, λ k l e. none-all S.0 S.2 S.4 k l)

    module _ (S : Sought t x at None) where
      last-is : empty_here t x at (length x) ≡ empty_at d (eqb (at + length x) 0) true
      last-is =
          ap (stop_in (row t (entry_row (at + length x)))) (eq-eqb (length x) (length x) refl)
          ∙ sym (empty-is (eqb (at + length x) 0) true)

      last-bare : Bare t x at (length x)
      last-bare = S (length x) (omega arith) (omega arith)

      pub seen_last : empty_at d (eqb (at + length x) 0) true ≡ true → Seen t x at 0 (Some (at + length x, 0))
      seen_last e = (
        length x,
        refl,
        le_refl (length x),
        empty-only t x at (length x) true last-bare (last-is ∙ e),
        λ k l z. none-all (length x) (le_refl (length x)) (λ j a b. S j a (omega arith)) k l,
      )

      pub seen_none : empty_at d (eqb (at + length x) 0) true ≡ false → Seen t x at 0 None
      seen_none e k l z = elim (dec_lt k (length x)) [
        | yes y ↦ none-all (length x) (le_refl (length x)) (λ j a b. S j a (omega arith)) k y
        | no y ↦
            let w : length x ≡ k = omega arith in
            subst (λ (j : ℕ). longest_of t x at 0 j ≡ 0) w
            (empty-only t x at (length x) false last-bare (last-is ∙ e))
      ]

-- ---- of at least a byte

pub seen_one : (t x : List ℕ) (at : ℕ) (r : Option (ℕ × ℕ)) → Sought t x at r → Seen t x at 1 r
seen_one t x at (Some (a, n)) S = (S.0, S.1, S.2, S.3, λ k l z. S.4 k (omega arith) l)
seen_one t x at None S = λ k l z. S k (omega arith) l

-- ---- of at least `least` bytes

-- fewer than one byte are asked for, and no empty match is where the search starts; or one is
abbrev pub Missing : List ℕ → List ℕ → ℕ → ℕ → Type 0
Missing d x at least = ((least ≡ 0) × (empty_at d (eqb at 0) (eqb (length x) 0) ≡ false)) ⊎ (least ≡ 1)

inside-least : (at least len a n : ℕ) → least ≤ 1 → Inside at 1 len (Some (a, n)) → Inside at least len (Some (a, n))
inside-least at least len a n h i = (i.0, i.1, omega (arith, i.2))

module _ (d p x : List ℕ) (at least : ℕ) where
  pub finds-first : (e : ℕ) → least ≡ 0 → empty_at d (eqb at 0) (eqb (length x) 0) ≡ true
      → Longest d x 0 (eqb at 0) (length x) e → FindsBoth d p x at least (Some (at, e))
  finds-first e z h L =
      record {
        inside = (le_refl at, omega (arith, L.inside), omega arith);
        finds = λ t B.
            let f : eqb at 0 ≡ eqb (at + 0) 0 = ap (λ (j : ℕ). eqb j 0) (sym (add-zero at)) in
            let end = longest-end t d x at 0 (eqb at 0) B.one f (length x) e L (le_refl (length x)) in
            subst (λ (l : ℕ). Finds t x at l (Some (at, e))) (sym z)
            (finds t x at 0 (Some (at, e)) (seen_first t d p x at B e h end));
      }

  pub finds-some : (f : Option (ℕ × ℕ)) (a n : ℕ) → f ≡ Some (a, n) → Missing d x at least → SoughtBoth d p x at f
      → FindsBoth d p x at least (Some (a, n))
  finds-some f a n e M S = by (subst (SoughtBoth d p x at) e S) M
    where
      by : SoughtBoth d p x at (Some (a, n)) → Missing d x at least → FindsBoth d p x at least (Some (a, n))
      by S (inl m) =
          record {
            inside = inside-least at least (length x) a n (omega (arith, m.0)) S.inside;
            finds = λ t B.
                subst (λ (l : ℕ). Finds t x at l (Some (a, n))) (sym m.0)
                (finds t x at 0 (Some (a, n)) (seen-some t d p x at B m.1 a n (S.sought t B)));
          }
      by S (inr m) =
          record {
            inside = inside-least at least (length x) a n (omega arith) S.inside;
            finds = λ t B.
                subst (λ (l : ℕ). Finds t x at l (Some (a, n))) (sym m)
                (finds t x at 1 (Some (a, n)) (seen_one t x at (Some (a, n)) (S.sought t B)));
          }

  -- the empty match at the text's end
  pub finds-last : (f : Option (ℕ × ℕ)) → f ≡ None → least ≡ 0 → Missing d x at least
      → empty_at d (eqb (at + length x) 0) true ≡ true → SoughtBoth d p x at f
      → FindsBoth d p x at least (Some (at + length x, 0))
  finds-last f e z (inl m) h S =
      record {
        inside = (omega arith, omega arith, omega arith);
        finds = λ t B.
            subst (λ (l : ℕ). Finds t x at l (Some (at + length x, 0))) (sym z)
            (finds t x at 0 (Some (at + length x, 0))
            (seen_last t d p x at B m.1 (subst (Sought t x at) e (S.sought t B)) h));
      }
  finds-last f e z (inr m) h S = absurd (omega arith)

  -- none
  pub finds-none : (f : Option (ℕ × ℕ)) → f ≡ None → Missing d x at least
      → (least ≡ 0 → empty_at d (eqb (at + length x) 0) true ≡ false) → SoughtBoth d p x at f
      → FindsBoth d p x at least None
  finds-none f e (inl m) h S =
      record {
        inside = tt;
        finds = λ t B.
            subst (λ (l : ℕ). Finds t x at l None) (sym m.0)
            (finds t x at 0 None
            (seen_none t d p x at B m.1 (subst (Sought t x at) e (S.sought t B)) (h m.0)));
      }
  finds-none f e (inr m) h S =
      record {
        inside = tt;
        finds = λ t B.
            subst (λ (l : ℕ). Finds t x at l None) (sym m)
            (finds t x at 1 None (seen_one t x at None (subst (Sought t x at) e (S.sought t B))));
      }

-- ---- both, of one list of words

pub both_of : (t d : List ℕ) → Seeks t d → Both t (one_in d) (pending_in d)
both_of t d S =
    let n = one_length d in
    let h = S.one.ranged.head in
    let l : length (take n d) ≡ n = length-take-le n d S.inside in
    record {
      one = S.one;
      pending = S.pending;
      one_hull = S.one_hull;
      pending_hull = S.pending_hull;
      sooner = S.sooner;
      empty_first = get_or-take n d 11 0 (omega arith) ∙ S.empty_first;
      empty_later = get_or-take n d 12 0 (omega arith) ∙ S.empty_later;
    }
