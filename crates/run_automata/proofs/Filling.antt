-- The pool of automata: one more is stored, after those that are there.
use mathlib.Core.Path.{◌≡◌, refl, sym, ap, ap₂, subst, ◌∙◌}
use mathlib.Core.Bool.{Bool, true, false}
use mathlib.Core.List.{List, [], ◌∷◌}
use Prim.Native.Nat.{ℕ, ◌+◌, ◌-◌, ◌%◌, ◌≤◌, ◌<◌}
use native.Mathlib.Omega.{arith}
use lib.ListN.{length, take, set, length-set, length-take, length-drop}
use borrow.Rule.Slice.PartMut.{put_mid, mid_of}
use lib.Seq.{get_or-set_same, get_or-set_other}
use lib.Dec.{eqb}
use borrow.Author.Tests.{eqb-true, eqb-false}
use Rattle.edition.specs.Limits.{ere_count}
use Rattle.buffer.specs.Parts.{part, put}
use Rattle.buffer.proofs.Lent.{front-lent, part-came}
use Rattle.buffer.proofs.Parts.{length-put, get_d-put-below, part-put-same, part-put-below, part-put-above, part-part}
use Rattle.buffer.proofs.Parts.{put_one}
use Rattle.ere_meaning.specs.Tree.{Class, Ere}
use Rattle.ere_automaton.specs.Automaton.{Ranged}
use Rattle.ere_automaton.specs.Follows.{SeekRanged}
use Rattle.ere.specs.Answer.{Serves}
use Rattle.semantics.proofs.Tables.{nth-some}
use Rattle.run_image.specs.Table.{Readable, IsEre}
use Rattle.run_automata.specs.Automata.{pool_slots, bound_count, bound_in, automaton_in, Bounded, Suits, SuitsEre}
use Rattle.run_automata.specs.Automata.{MadeOf, Pooled, Filled}
use Rattle.run_image.proofs.Compiling.{ere-below}

-- ---- an automaton is stored at a place, and its end as bound n + 1

module _ (old d : List ℕ) (n at r : ℕ) (few : n < pool_slots) (from : bound_count ≤ at) (fits : at + length d ≡ length old)
    (room : r ≤ length d) where
  abbrev stored : List ℕ
  stored = set (put old at d) (n + 1) (at + r)

  inside : at + length d ≤ length old
  inside = omega arith

  size : length (put old at d) ≡ length old
  size = length-put old at d inside

  stored-size : length stored ≡ length old
  stored-size = simp length-set size

  stored-end : bound_in stored (n + 1) ≡ at + r
  stored-end = get_or-set_same (put old at d) (n + 1) (at + r) 0 (omega (arith, size))

  stored-bound : (j : ℕ) → j ≤ n → bound_in stored j ≡ bound_in old j
  stored-bound j h =
      get_or-set_other (put old at d) (n + 1) j (at + r) 0 (omega arith)
      ∙ get_d-put-below old at d inside j (omega arith)

  -- words after the bounds
  stored-part : (i m : ℕ) → bound_count ≤ i → part i m stored ≡ part i m (put old at d)
  stored-part i m h =
      let one : n + 1 < length (put old at d) = omega (arith, size) in
      ap (part i m) (put_one (put old at d) (n + 1) (at + r) one)
      ∙ part-put-above (put old at d) (n + 1) ((at + r) ∷ []) (omega arith) i m (omega arith)

  stored-below : (i m : ℕ) → bound_count ≤ i → i + m ≤ at → part i m stored ≡ part i m old
  stored-below i m h g = stored-part i m h ∙ part-put-below old at d inside i m g

  stored-new : part at r stored ≡ take r d
  stored-new =
      let zero : at + 0 ≡ at = omega arith in
      stored-part at r from
      ∙ subst (λ (k : ℕ). part k r (put old at d) ≡ take r d) zero
      (sym (part-part (put old at d) at (length d) 0 r (omega arith))
      ∙ ap (part 0 r) (part-put-same old at d inside)
      ∙ sym (front-lent d r))

-- ---- the pool is filled for one more

module _ (edition : ℕ) (xs : List (List ℕ)) (old d : List ℕ) (n r : ℕ) (few : n < pool_slots)
    (filled : Filled edition xs old n) (fits : bound_in old n + length d ≡ length old) (room : r ≤ length d) where
  abbrev at : ℕ
  at = bound_in old n

  abbrev new : List ℕ
  new = set (put old at d) (n + 1) (at + r)

  from : bound_count ≤ at
  from = filled.low n (omega arith)

  size-new : length new ≡ length old
  size-new = stored-size old d n at r few from fits room

  end-new : bound_in new (n + 1) ≡ at + r
  end-new = stored-end old d n at r few from fits room

  bound-kept : (j : ℕ) → j ≤ n → bound_in new j ≡ bound_in old j
  bound-kept = stored-bound old d n at r few from fits room

  -- those that were there
  automaton-kept : (j : ℕ) → j < n → automaton_in new j ≡ automaton_in old j
  automaton-kept j h =
      let lo = bound-kept j (omega arith) in
      let hi = bound-kept (j + 1) (omega arith) in
      let low = filled.low j (omega arith) in
      let high = filled.high (j + 1) (omega arith) in
      let order = (filled.automata.bounded j h).order in
      ap₂ (λ (a b : ℕ). part a (b - a) new) lo hi
      ∙ stored-below old d n at r few from fits room (bound_in old j) (bound_in old (j + 1) - bound_in old j) low
      (omega arith)

  -- the new one
  automaton-new : automaton_in new n ≡ take r d
  automaton-new =
      let back : at + r - at ≡ r = omega arith in
      ap₂ (λ (a b : ℕ). part a (b - a) new) (bound-kept n (omega arith)) end-new
      ∙ ap (λ (m : ℕ). part at m new) back
      ∙ stored-new old d n at r few from fits room

  bounded-new : (j : ℕ) → j < n + 1 → (b : Bool) → eqb j n ≡ b → Bounded new j
  bounded-new j h true g =
      let same = eqb-true j n g in
      let lo = bound-kept n (omega arith) in
      subst (Bounded new) (sym same)
      (record {
        few = few;
        order = omega (arith, end-new, lo);
        inside = omega (arith, end-new, size-new);
        room = omega (arith, size-new, from);
      })
  bounded-new j h false g =
      let less : j < n = omega (arith, eqb-false j n g) in
      let lo = bound-kept j (omega arith) in
      let hi = bound-kept (j + 1) (omega arith) in
      let b = filled.automata.bounded j less in
      record {
        few = b.few;
        order = omega (arith, b.order, lo, hi);
        inside = omega (arith, b.inside, hi, size-new);
        room = omega (arith, b.room, size-new);
      }

  module _ (new-one : 0 < r → SuitsEre edition xs n (take r d)) where
    fits-new : (j : ℕ) → j < n + 1 → 0 < length (automaton_in new j) → (b : Bool) → eqb j n ≡ b
        → SuitsEre edition xs j (automaton_in new j)
    fits-new j h long true g =
        let same = eqb-true j n g in
        subst (λ (k : ℕ). SuitsEre edition xs k (automaton_in new k)) (sym same)
        (rw automaton-new
        (new-one (omega (arith, ap length (ap (automaton_in new) same ∙ automaton-new), length-take-most))))
      where
        length-take-most : length (take r d) ≤ r
        length-take-most = rw length-take (omega arith)
    fits-new j h long false g =
        let less : j < n = omega (arith, eqb-false j n g) in
        rw (automaton-kept j less) (filled.automata.fits j less (rw (automaton-kept j less) at long))

    pub filled_more : Filled edition xs new (n + 1)
    filled_more =
        record {
          small = omega (arith, filled.small, size-new);
          automata = record {
            bounded = λ j h. bounded-new j h (eqb j n) refl;
            fits = λ j h long. fits-new j h long (eqb j n) refl;
          };
          low = λ j h. low-new j h (eqb j (n + 1)) refl;
          high = λ j h. high-new j h (eqb j (n + 1)) refl;
          inside = omega (arith, end-new, size-new);
        }
      where
        low-new : (j : ℕ) → j ≤ n + 1 → (b : Bool) → eqb j (n + 1) ≡ b → bound_count ≤ bound_in new j
        low-new j h true g = rw (eqb-true j (n + 1) g) (omega (arith, end-new, from))
        low-new j h false g =
            let less : j ≤ n = omega (arith, eqb-false j (n + 1) g) in
            omega (arith, bound-kept j less, filled.low j less)

        high-new : (j : ℕ) → j ≤ n + 1 → (b : Bool) → eqb j (n + 1) ≡ b → bound_in new j ≤ bound_in new (n + 1)
        high-new j h true g = rw (eqb-true j (n + 1) g) (omega arith)
        high-new j h false g =
            let less : j ≤ n = omega (arith, eqb-false j (n + 1) g) in
            omega (arith, bound-kept j less, filled.high j less, end-new)

-- ---- the ERE of a slot

pub suits-ere : {edition k : ℕ} {xs : List (List ℕ)} {t d : List ℕ} → length xs ≤ ere_count → Suits k t d
    → ((e : Ere Class) → IsEre edition xs (k % ere_count) e → Serves t e) → SuitsEre edition xs k d
suits-ere {edition} {k} {xs} {t} few s serves =
    record {
      drives = λ h e i.
          let same : k ≡ k % ere_count = omega arith in
          (t, s.drives h, serves e (subst (λ (n : ℕ). IsEre edition xs n e) same i));
      seeks = λ n is e i.
          let below = ere-below edition xs n e i in
          let same : n ≡ k % ere_count = omega arith in
          (t, s.seeks (omega arith), serves e (subst (λ (n : ℕ). IsEre edition xs n e) same i));
    }

-- ---- what a slot has is made in what is left of the pool

pub left-size : (old : List ℕ) (at : ℕ) → at ≤ length old → length (mid_of at (length old - at) old) ≡ length old - at
left-size old at inside = simp (length-take, length-drop) (omega arith)

module _ (old d : List ℕ) (at : ℕ) (inside : at ≤ length old)
    (size : length d ≡ length (mid_of at (length old - at) old)) where
  pub left-came : put_mid at (length old - at) old d ≡ put old at d
  left-came = part-came old at (length old - at) d (omega arith) size

  pub left-length : length (put_mid at (length old - at) old d) ≡ length old
  left-length = ap length left-came ∙ length-put old at d (omega (arith, left-size old at inside))

pub filled-made : (edition : ℕ) (xs : List (List ℕ)) (old d : List ℕ) (k r : ℕ) → k < pool_slots
    → Filled edition xs old k
    → MadeOf edition xs k (mid_of (bound_in old k) (length old - bound_in old k) old) r d
    → Filled edition xs
    (set (put_mid (bound_in old k) (length old - bound_in old k) old d) (k + 1) (bound_in old k + r)) (k + 1)
filled-made edition xs old d k r few f m =
    let at = bound_in old k in
    let left = left-size old at f.inside in
    rw (left-came old d at f.inside m.size)
    (filled_more edition xs old d k r few f (omega (arith, f.inside, m.size, left))
    (omega (arith, m.inside, m.size)) m.fits)

-- ---- the start, and the end

-- no ERE yet
pub filled_none : (edition : ℕ) (xs : List (List ℕ)) (pool : List ℕ) → bound_count ≤ length pool → length pool < 65536
    → Filled edition xs (set pool 0 bound_count) 0
filled_none edition xs pool room small =
    let first : bound_in (set pool 0 bound_count) 0 ≡ bound_count = get_or-set_same pool 0 bound_count 0 (omega arith) in
    let size : length (set pool 0 bound_count) ≡ length pool = simp length-set refl in
    record {
      small = omega arith;
      automata = record { bounded = λ n h. absurd (omega arith); fits = λ n h. absurd (omega arith) };
      low = λ n h. subst (λ (k : ℕ). bound_count ≤ bound_in (set pool 0 bound_count) k) (zero n h) (omega arith);
      high = λ n h.
          subst (λ (k : ℕ). bound_in (set pool 0 bound_count) k ≤ bound_in (set pool 0 bound_count) 0) (zero n h)
          (omega arith);
      inside = omega arith;
    }
  where
    zero : (n : ℕ) → n ≤ 0 → 0 ≡ n
    zero n h = omega arith

-- ---- what a run asks of the pool

module _ {edition : ℕ} {image index : List ℕ} {xs : List (List ℕ)} {pool : List ℕ}
    (y : Readable edition image index xs) (p : Pooled edition xs pool) (n : ℕ) (h : n < length xs) where
  -- the ERE
  ere-of : (e : Ere Class) × (IsEre edition xs n e)
  ere-of =
      let l = nth-some xs n h in
      let e = y.reads n l.0 l.1 in
      (e.0, (l.0, l.1, e.1))

  -- an automaton that has words has its states in range
  pub pooled-ranged : 0 < length (automaton_in pool n) → Ranged (automaton_in pool n)
  pooled-ranged long =
      ((p.fits n (omega (arith, y.few)) long).drives (omega (arith, y.few)) ere-of.0 ere-of.1).1.ranged

  -- and so do both of a search
  pub pooled-sought : 0 < length (automaton_in pool (ere_count + n)) → SeekRanged (automaton_in pool (ere_count + n))
  pooled-sought long =
      let s = ((p.fits (ere_count + n) (omega (arith, y.few)) long).seeks n refl ere-of.0 ere-of.1).1 in
      record { inside = s.inside; one = s.one.ranged; pending = s.pending.ranged }
