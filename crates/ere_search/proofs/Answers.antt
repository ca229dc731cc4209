-- What the walk from each start finds is the best of the ERE's spans.
use mathlib.Core.Path.{◌≡◌, refl, sym, ap, ap₂, subst, ◌∙◌}
use mathlib.Core.Bool.{Bool, true, false}
use mathlib.Core.List.{List}
use Rattle.std.specs.Prelude.{Option, Some, None}
use Prim.Native.Nat.{ℕ, zero, suc, ◌+◌, ◌-◌, ◌≤◌, ◌<◌}
use native.Mathlib.Omega.{arith}
use native.Mathlib.Nat.{zero-add, add_assoc, lt_of_not-le, le_of_suc-le-suc}
use lib.ListN.{length, get_or, drop, length-drop}
use lib.Seq.{get_or-drop}
use lib.Dec.{eqb}
use borrow.Author.Tests.{eq-eqb, ne_eqb, eqb-true, eqb-false}
use Rattle.ere_meaning.specs.Tree.{Ere}
use Rattle.ere_meaning.specs.Meaning.{Spans, BestFrom}
use Rattle.ere_meaning.specs.Search.{best_from}
use Rattle.ere_meaning.proofs.Answers.{best-is}
use Rattle.ere_table.specs.Table.{row, accepts_at}
use Rattle.ere_search.specs.Walk.{step, live_at, longest_to, longest_of, entry_row, note}
use Rattle.ere_table.specs.Wiring.{Tabled, Sealed}
use Rattle.ere_search.specs.Find.{Finds, Inside, match_of}
use Rattle.ere_search.proofs.Meets.{Told, told, stop-leads, leads-stop}

-- ---- the walk over the rest of a text is that over the whole

same_test : (a x y : ℕ) → eqb x y ≡ eqb (a + x) (a + y)
same_test a x y = by (eqb x y) refl
  where
    by : (b : Bool) → eqb x y ≡ b → b ≡ eqb (a + x) (a + y)
    by true e = let z = eqb-true x y e in sym (eq-eqb (a + x) (a + y) (omega arith))
    by false e = sym (ne_eqb (a + x) (a + y) (λ z. eqb-false x y e (omega arith)))

module _ (t rest w : List ℕ) (at : ℕ) (hl : at ≤ length w) (hd : drop at w ≡ rest) where
  whole : length w ≡ at + length rest
  whole = let z = sym (ap length hd) ∙ length-drop at w in omega arith

  byte : (s n : ℕ) → get_or rest (s + n) 0 ≡ get_or w (at + s + n) 0
  byte s n = ap (λ (l : List ℕ). get_or l (s + n) 0) (sym hd) ∙ get_or-drop at w (s + n) 0 ∙ ap (λ (i : ℕ). get_or w i 0) (sym (add_assoc at s n))

  live-whole : (s n : ℕ) → live_at t rest at s n ≡ live_at t w 0 (at + s) n
  unfolding live_at
  live-whole s zero = ap (λ (i : ℕ). row t (entry_row i)) (sym (zero-add (at + s)))
  live-whole s (suc n) = ap₂ (step t) (live-whole s n) (byte s n)

  at-end : (s n : ℕ) → eqb (s + n) (length rest) ≡ eqb (at + s + n) (length w)
  at-end s n = same_test at (s + n) (length rest) ∙ ap₂ eqb (sym (add_assoc at s n)) (sym whole)

  to_whole : (least s n : ℕ) → longest_to t rest at least s n ≡ longest_to t w 0 least (at + s) n
  unfolding longest_to
  to_whole least s zero = refl
  to_whole least s (suc n) =
      ap (λ (l : List ℕ). note (longest_to t rest at least s n) l (eqb (s + n) (length rest)) least n) (live-whole s n)
      ∙ ap (λ (f : Bool). note (longest_to t rest at least s n) (live_at t w 0 (at + s) n) f least n) (at-end s n)
      ∙ ap (λ (o : ℕ). note o (live_at t w 0 (at + s) n) (eqb (at + s + n) (length w)) least n) (to_whole least s n)

  pub of-whole : (least s : ℕ) → longest_of t rest at least s ≡ longest_of t w 0 least (at + s)
  of-whole least s =
      let k = whole in
      let z : length rest - s ≡ length w - (at + s) = omega arith in
      to_whole least s (suc (length rest - s)) ∙ ap (λ (n : ℕ). longest_to t w 0 least (at + s) (suc n)) z

-- ---- the leftmost start

-- what the search saw on its way to r
abbrev pub Seen : List ℕ → List ℕ → ℕ → ℕ → Option (ℕ × ℕ) → Type 0
Seen t rest at least (Some (a, n)) =
    (s : ℕ) × (a ≡ at + s) × (s ≤ length rest) × (longest_of t rest at least s ≡ suc n)
    × ((k : ℕ) → k < s → Sealed t → longest_of t rest at least k ≡ 0)
Seen t rest at least None = (k : ℕ) → k < length rest + 1 → Sealed t → longest_of t rest at least k ≡ 0

of-longest : (t rest : List ℕ) (at least s o : ℕ) → longest_of t rest at least s ≡ o → Told t rest at least s (suc (length rest - s)) o
of-longest t rest at least s o q = subst (Told t rest at least s (suc (length rest - s))) q (told t rest at least s (suc (length rest - s)))

module _ (t w : List ℕ) (e : Ere ℕ) (T : Tabled t e) (least : ℕ) where
  never : (s j : ℕ) → longest_of t w 0 least s ≡ 0 → s + least ≤ j → Spans (accepts_at t) w e s j → ⊥
  never s j q g h =
      let m = leads-stop t w e T s j h.1 in
      of-longest t w 0 least s 0 q m.0 (omega (arith, h.0, m.1)) (omega (arith, m.1)) m.2

  longest : (s n : ℕ) → s ≤ length w → longest_of t w 0 least s ≡ suc n
      → (Spans (accepts_at t) w e s (s + n)) × (least ≤ n) × ((j : ℕ) → s + least ≤ j → Spans (accepts_at t) w e s j → j ≤ s + n)
  longest s n hs q =
      let o = of-longest t w 0 least s (suc n) q in
      let b : s + n ≤ length w = omega (arith, o.0) in (
        (b, stop-leads t w e T s n b o.2),
        o.1,
        (λ j g h.
            let m = leads-stop t w e T s j h.1 in
            let l = o.3 m.0 (omega (arith, h.0, m.1)) (omega (arith, m.1)) m.2 in
            omega (arith, m.1, l)),
      )

module _ (t rest : List ℕ) (at least : ℕ) where
  inside : (r : Option (ℕ × ℕ)) → Seen t rest at least r → Inside at least (length rest) r
  inside (Some (a, n)) f =
      let o = of-longest t rest at least f.0 (suc n) f.3 in
      (omega (arith, f.1), omega (arith, f.1, f.2, o.0), o.1)
  inside None f = tt

  best : (r : Option (ℕ × ℕ)) → Seen t rest at least r → (e : Ere ℕ) (w : List ℕ) → Tabled t e → at ≤ length w → drop at w ≡ rest
      → BestFrom (accepts_at t) w e at least (match_of r)
  best (Some (a, n)) f e w T hl hd =
      let k = whole t rest w at hl hd in
      let q : longest_of t w 0 least a ≡ suc n = rw f.1 (sym (of-whole t rest w at hl hd least f.0) ∙ f.3) in
      let o = longest t w e T least a n (omega (arith, f.1, f.2)) q in
      (o.0, omega (arith, f.1), o.1, (λ x j g i h. le_of_suc-le-suc (lt_of_not-le (λ l. before x j g i l h))), o.2)
    where
      before : (x j : ℕ) → at ≤ x → x + least ≤ j → x < a → Spans (accepts_at t) w e x j → ⊥
      before x j g i l h =
          let z : at + (x - at) ≡ x = omega arith in
          never t w e T least x j
          (rw z at (sym (of-whole t rest w at hl hd least (x - at)) ∙ f.4 (x - at) (omega (arith, f.1)) T.shut)) i h
  best None f e w T hl hd = λ x j g i h.
      let k = whole t rest w at hl hd in
      let z : at + (x - at) ≡ x = omega arith in
      never t w e T least x j
      (rw z at (sym (of-whole t rest w at hl hd least (x - at)) ∙ f (x - at) (omega (arith, h.0, (leads-stop t w e T x j h.1).1)) T.shut)) i h

  pub finds : (r : Option (ℕ × ℕ)) → Seen t rest at least r → Finds t rest at least r
  finds r f = record { inside = inside r f; best = best r f }

-- so the code's answer is what the definition computes
pub answer : (t rest : List ℕ) (at least : ℕ) (r : Option (ℕ × ℕ)) → Finds t rest at least r → (e : Ere ℕ) (w : List ℕ) → Tabled t e → at ≤ length w → drop at w ≡ rest
    → match_of r ≡ best_from (accepts_at t) w e at least
answer t rest at least r f e w T hl hd = sym (best-is (accepts_at t) w e at least (match_of r) (f.best e w T hl hd))
