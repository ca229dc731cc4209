-- One start that is followed: the state stands for what may come next, and its accept bits tell the longest match.
use mathlib.Core.Path.{◌≡◌, refl, sym, ap, ap₂, subst, ◌∙◌}
use mathlib.Core.Bool.{Bool, true, false, cond}
use mathlib.Core.Logic.{inl, inr}
use mathlib.Core.List.{List}
use Prim.Native.Nat.{ℕ, suc, ◌+◌, ◌-◌, ◌/◌, ◌%◌, ◌≤◌, ◌<◌}
use native.Mathlib.Nat.{le_refl}
use native.Mathlib.Omega.{arith}
use lib.ListN.{length, get_or}
use lib.Dec.{eqb, leb}
use borrow.Author.Tests.{eq-eqb, ne_eqb, eqb-true, leb-true, le-leb}
use Rattle.lists.proofs.Tests.{clash, same_test}
use Rattle.ere_table.specs.Table.{row, no_place}
use Rattle.ere_table.specs.Wiring.{stop_in}
use Rattle.ere_search.specs.Walk.{step, live_at, longest_to, longest_of}
use Rattle.ere_search.proofs.Finds.{none-longer}
use Rattle.ere_automaton.specs.Layout.{State, class_count, accepted_state, pairs_word, next_in, pair_in, end_word}
use Rattle.ere_automaton.specs.Automaton.{Ranged}
use Rattle.ere_automaton.specs.Scan.{Ready}
use Rattle.ere_seek.specs.declared.one.Reached.{Reached}
use Rattle.ere_seek.specs.Starts.{entry_state}
use Rattle.ere_seek.specs.One.{accepts, better, stepped, end_to, Means, Ends, Bounds, Paired, Followed}
use Rattle.ere_seek.specs.One.{Longest}
use Rattle.ere_seek.proofs.Bareness.{none-empty}

-- ---- the accept bits

pub bits-stop : (u : List ℕ) (f : Bool) → accepts (get_or u 2 0 % 4) f ≡ stop_in u f
bits-stop u true =
    same_test (leb 2 (get_or u 2 0 % 4)) (stop_in u true)
    (λ h. let l = leb-true 2 (get_or u 2 0 % 4) h in eq-eqb (get_or u 2 0 / 2 % 2) 1 (omega arith))
    (λ h. let l = eqb-true (get_or u 2 0 / 2 % 2) 1 h in le-leb 2 (get_or u 2 0 % 4) (omega arith))
bits-stop u false =
    same_test (eqb (get_or u 2 0 % 4 % 2) 1) (stop_in u false)
    (λ h. let l = eqb-true (get_or u 2 0 % 4 % 2) 1 h in eq-eqb (get_or u 2 0 / 1 % 2) 1 (omega arith))
    (λ h. let l = eqb-true (get_or u 2 0 / 1 % 2) 1 h in eq-eqb (get_or u 2 0 % 4 % 2) 1 (omega arith))

-- ---- the code's step

pub ready-next : (d : List ℕ) (k s b q : ℕ) → Ready d k s → b < 256 → q ≡ next_in d s b → Ready d k q
ready-next d k s b q A h e =
    record {
      ranged = A.ranged;
      state = subst (State d) (sym e) (A.ranged.moves s b A.state h);
      classes = A.classes;
    }

pub pair-two : (d : List ℕ) (k s b c q : ℕ) → Ready d k s → eqb (pairs_word d) 0 ≡ false → b < 256 → c < 256
    → q ≡ pair_in d s b c → q ≡ next_in d (next_in d s b) c
pair-two d k s b c q A h hb hc e = e ∙ A.ranged.pairs s b c A.state hb hc h

abbrev reached : ℕ → ℕ → ℕ → Reached
reached q i best = record { state = q; at = i; best = best }

same : {q q' i i' b b' : ℕ} → q ≡ q' → i ≡ i' → b ≡ b' → reached q i b ≡ reached q' i' b'
same {q} {q'} {i} {i'} {b} {b'} e f g =
    ap (λ (y : ℕ). reached y i b) e ∙ ap (λ (y : ℕ). reached q' y b) f ∙ ap (reached q' i') g

better-is : (d : List ℕ) (f : Bool) (q q' bits i best : ℕ) (end : Bool) → q ≡ q' → bits ≡ end_word d q
    → end ≡ accepts bits f → cond end i best ≡ better d q' f i best
better-is d f q q' bits i best end e h g =
    ap (λ (y : Bool). cond y i best) (g ∙ ap (λ (y : ℕ). accepts y f) (h ∙ ap (end_word d) e))

module _ (d x : List ℕ) (l : Reached) where
  pub stepped-is : (f : Bool) (q bits : ℕ) (end : Bool) (best : ℕ) → q ≡ next_in d l.state (get_or x l.at 0)
      → bits ≡ end_word d q → end ≡ accepts bits f → best ≡ cond end (l.at + 1) l.best
      → reached q (l.at + 1) best ≡ stepped d x f l
  stepped-is f q bits end best e h g z =
      same e refl (z ∙ better-is d f q _ bits (l.at + 1) l.best end e h g)

  pub stepped-two : (m q mbits qbits : ℕ) (mend qend : Bool) (mbest qbest : ℕ)
      → m ≡ next_in d l.state (get_or x l.at 0)
      → q ≡ next_in d (next_in d l.state (get_or x l.at 0)) (get_or x (l.at + 1) 0)
      → mbits ≡ end_word d m → mend ≡ accepts mbits false → mbest ≡ cond mend (l.at + 1) l.best
      → qbits ≡ end_word d q → qend ≡ accepts qbits false → qbest ≡ cond qend (l.at + 2) mbest
      → reached q (l.at + 2) qbest ≡ stepped d x false (stepped d x false l)
  stepped-two m q mbits qbits mend qend mbest qbest em eq hm gm zm hq gq zq =
      let two : l.at + 2 ≡ l.at + 1 + 1 = omega arith in
      let one = ap (λ (r : Reached). r.best) (stepped-is false m mbits mend mbest em hm gm zm) in
      same eq two
      (zq
      ∙ ap₂ (λ (i b : ℕ). cond qend i b) two one
      ∙ better-is d false q _ qbits (l.at + 1 + 1) (stepped d x false l).best qend eq hq gq)

-- ---- a byte more

module _ (t x : List ℕ) (at s : ℕ) where
  end_more : (n i best : ℕ) (f : Bool) → i ≡ s + suc n → f ≡ eqb i (length x) → best ≡ end_to t x at s (suc n)
      → cond (stop_in (live_at t x at s (suc n)) f) i best ≡ end_to t x at s (suc (suc n))
  unfolding longest_to
  end_more n i best f e g h =
      ap₂ (λ (y : Bool) (b : ℕ). cond (stop_in (live_at t x at s (suc n)) y) i b)
      (g ∙ ap (λ (j : ℕ). eqb j (length x)) e) h
      ∙ by (stop_in (live_at t x at s (suc n)) (eqb (s + suc n) (length x))) (leb 1 (suc n))
      (le-leb 1 (suc n) (omega arith))
    where
      by : (y z : Bool) → z ≡ true → cond y i (end_to t x at s (suc n))
          ≡ s + (cond z (cond y (suc (suc n)) (longest_to t x at 1 s (suc n))) (longest_to t x at 1 s (suc n)) - 1)
      by true true k = let w : i ≡ s + (suc (suc n) - 1) = omega arith in w
      by false true k = refl
      by y false k = absurd (clash (sym k))

module _ (d x : List ℕ) (bytes : (k : ℕ) → get_or x k 0 < 256) (s : ℕ) (first : Bool) where
  pub means-start : (l : Reached) → l.state ≡ entry_state d first → l.at ≡ s → l.best ≡ s → Means d x s first l
  unfolding live_at
  means-start l e a b t at D z =
      let n : 0 ≡ l.at - s = omega arith in
      let none : l.best ≡ s + (0 - 1) = omega arith in (
        ap D.sets e ∙ by first ∙ ap (λ (y : Bool). row t (cond y 0 1)) z ∙ ap (live_at t x at s) n,
        none ∙ ap (λ (o : ℕ). s + (o - 1)) (sym (none-empty t x at s)) ∙ ap (λ (m : ℕ). end_to t x at s (suc m)) n,
      )
    where
      by : (y : Bool) → D.sets (entry_state d y) ≡ row t (cond y 0 1)
      by true = D.starts
      by false = D.elsewhere

  pub means-next : (l : Reached) (f : Bool) → State d l.state → s ≤ l.at → f ≡ eqb (l.at + 1) (length x)
      → Means d x s first l → Means d x s first (stepped d x f l)
  unfolding live_at
  means-next l f S h g M t at D z =
      let w = M t at D z in
      let n = l.at - s in
      let b = get_or x l.at 0 in
      let q = next_in d l.state b in
      let m : suc n ≡ l.at + 1 - s = omega arith in
      let i : s + n ≡ l.at = omega arith in
      let e : l.at + 1 ≡ s + suc n = omega arith in
      let live : D.sets q ≡ live_at t x at s (suc n) =
      D.steps l.state b S (bytes l.at)
      ∙ ap₂ (λ (u : List ℕ) (j : ℕ). step t u (get_or x j 0)) w.0 (sym i) in
      let stop : accepts (end_word d q) f ≡ stop_in (live_at t x at s (suc n)) f =
      ap (λ (y : ℕ). accepts y f) (D.marks q (D.ranged.moves l.state b S (bytes l.at)))
      ∙ bits-stop (D.sets q) f
      ∙ ap (λ (u : List ℕ). stop_in u f) live in (
        live ∙ ap (live_at t x at s) m,
        ap (λ (y : Bool). cond y (l.at + 1) l.best) stop
            ∙ end_more t x at s n (l.at + 1) l.best f e g w.1
            ∙ ap (λ (j : ℕ). end_to t x at s (suc j)) m,
      )

  -- ---- the longest

  -- where nothing may come next
  pub means-dead : (l : Reached) (until : ℕ) → l.state ≡ accepted_state d → s ≤ l.at → l.at ≤ length x
      → Means d x s first l → Ends d x s first until l.best
  means-dead l until e h k M t at D z =
      let w = M t at D z in
      let n = l.at - s in
      let none : live_at t x at s n ≡ no_place = sym w.0 ∙ ap D.sets e ∙ D.stays in
      let a : n + 1 ≡ suc n = omega arith in
      let b : n + (length x + 1 - l.at) ≡ suc (length x - s) = omega arith in
      let same : longest_to t x at 1 s (suc n) ≡ longest_of t x at 1 s =
      ap (longest_to t x at 1 s) (sym a)
      ∙ none-longer t x at 1 s n 1 none
      ∙ sym (none-longer t x at 1 s n (length x + 1 - l.at) none)
      ∙ ap (longest_to t x at 1 s) b in
      inl (w.1 ∙ ap (λ (o : ℕ). s + (o - 1)) same)

  -- at the text's end
  pub means-end : (l : Reached) (until : ℕ) → l.at ≡ length x → Means d x s first l → Ends d x s first until l.best
  means-end l until e M t at D z = inl ((M t at D z).1 ∙ ap (λ (j : ℕ). end_to t x at s (suc (j - s))) e)

-- ---- a walk

module _ (d x : List ℕ) (f : Bool) (l r : Reached) (e : r ≡ stepped d x f l) where
  pub at_next : r.at ≡ l.at + 1
  at_next = ap (λ (y : Reached). y.at) e

  pub bounds-next : (s : ℕ) → Bounds x s l → l.at < length x → Bounds x s r
  bounds-next s B h =
      subst (Bounds x s) (sym e)
      (record {
        on = omega (arith, B.on);
        inside = omega arith;
        from = low (accepts (end_word d q) f);
        to = high (accepts (end_word d q) f);
      })
    where
      q : ℕ
      q = next_in d l.state (get_or x l.at 0)

      low : (y : Bool) → s ≤ cond y (l.at + 1) l.best
      low true = omega (arith, B.on)
      low false = B.from

      high : (y : Bool) → cond y (l.at + 1) l.best ≤ l.at + 1
      high true = le_refl (l.at + 1)
      high false = omega (arith, B.to)

  module _ (bytes : (k : ℕ) → get_or x k 0 < 256) where
    pub ready-stepped : (k : ℕ) → Ready d k l.state → Ready d k r.state
    ready-stepped k A =
        ready-next d k l.state (get_or x l.at 0) r.state A (bytes l.at) (ap (λ (y : Reached). y.state) e)

    pub means-stepped : (s : ℕ) (first : Bool) → State d l.state → s ≤ l.at → f ≡ eqb (l.at + 1) (length x)
        → Means d x s first l → Means d x s first r
    means-stepped s first S h g M =
        subst (Means d x s first) (sym e) (means-next d x bytes s first l f S h g M)

-- two bytes, before the text's end
module _ (d x : List ℕ) (bytes : (k : ℕ) → get_or x k 0 < 256) (l r : Reached)
    (e : r ≡ stepped d x false (stepped d x false l)) (s : ℕ) (B : Bounds x s l) (h : l.at + 3 ≤ length x) where
  pub at-two : r.at ≡ l.at + 2
  at-two = let z = at_next d x false (stepped d x false l) r e in omega arith

  pub bounds-two : Bounds x s r
  bounds-two =
      bounds-next d x false (stepped d x false l) r e s
      (bounds-next d x false l (stepped d x false l) refl s B (omega arith)) (omega arith)

  pub ready-two : (k : ℕ) → Ready d k l.state → Ready d k r.state
  ready-two k A =
      ready-stepped d x false (stepped d x false l) r e bytes k
      (ready-stepped d x false l (stepped d x false l) refl bytes k A)

  pub means-two : (k : ℕ) → Ready d k l.state → (first : Bool) → Means d x s first l → Means d x s first r
  means-two k A first M =
      let m = stepped d x false l in
      means-stepped d x false m r e bytes s first
      (ready-stepped d x false l m refl bytes k A).state
      (omega (arith, B.on))
      (sym (ne_eqb (l.at + 1 + 1) (length x) (omega arith)))
      (means-stepped d x false l m refl bytes s first A.state B.on
      (sym (ne_eqb (l.at + 1) (length x) (omega arith))) M)

-- a walk by bytes has come to its end
pub followed : (d x : List ℕ) (l r : Reached) → Bounds x l.best r
    → ((s : ℕ) (first : Bool) (until : ℕ) → s ≤ l.at → Means d x s first l → Ends d x s first until r.best)
    → Followed d x l r.best
followed d x l r B E = record { from = B.from; inside = omega (arith, B.to, B.inside); ends = E }

-- a walk by pairs goes on, or has come to where nothing may come next
pub paired-goes : (d x : List ℕ) (bytes : (k : ℕ) → get_or x k 0 < 256) (s until : ℕ) (l r : Reached)
    → State d r.state → Bounds x s r → ((first : Bool) → Means d x s first l → Means d x s first r)
    → Paired d x s until l r
paired-goes d x bytes s until l r S B M =
    record {
      bounds = B;
      state = λ z. S;
      goes = λ first m z. M first m;
      ends = λ first m z. means-dead d x bytes s first r until (eqb-true _ _ z) B.on B.inside (M first m);
    }

-- or it is given up
pub paired-up : (d x : List ℕ) (s until : ℕ) (l r : Reached) → r.state ≡ accepted_state d → Bounds x s r
    → r.best ≡ s → until < length x → Paired d x s until l r
paired-up d x s until l r e B z h =
    record {
      bounds = B;
      state = λ y. absurd (clash (sym (eq-eqb r.state (accepted_state d) e) ∙ y));
      goes = λ first m y. absurd (clash (sym (eq-eqb r.state (accepted_state d) e) ∙ y));
      ends = λ first m y t at D w. inr (z, h);
    }

-- ---- from the start to the longest match

pub entry_ready : (d : List ℕ) (first : Bool) (q : ℕ) → Ranged d → q ≡ entry_state d first → Ready d (class_count d) q
entry_ready d first q R e =
    record { ranged = R; state = subst (State d) (sym e) (by first); classes = refl }
  where
    by : (y : Bool) → State d (entry_state d y)
    by true = R.first
    by false = R.later

pub bounds-start : (x : List ℕ) (s : ℕ) (l : Reached) → s ≤ length x → l.at ≡ s → l.best ≡ s → Bounds x s l
bounds-start x s l h a b =
    record { on = omega arith; inside = omega arith; from = omega arith; to = omega arith }

-- a start that is followed to l
abbrev pub Going : List ℕ → List ℕ → ℕ → Bool → Reached → Type 0
Going d x s first l = (State d l.state) × (Bounds x s l) × (Means d x s first l)

module _ (d x : List ℕ) (s : ℕ) (first : Bool) (until : ℕ) where
  pub going-paired : (l r : Reached) → Means d x s first l → Paired d x s until l r
      → (r.state ≡ accepted_state d → ⊥) → Going d x s first r
  going-paired l r M P h =
      let z = ne_eqb r.state (accepted_state d) h in (P.state z, P.bounds, P.goes first M z)

  pub longest-paired : (l r : Reached) → Means d x s first l → Paired d x s until l r → r.state ≡ accepted_state d
      → Longest d x s first until r.best
  longest-paired l r M P e =
      let B = P.bounds in
      record {
        from = B.from;
        inside = omega (arith, B.to, B.inside);
        ends = P.ends first M (eq-eqb r.state (accepted_state d) e);
      }

  pub longest-followed : (l : Reached) (e : ℕ) → Going d x s first l → Followed d x l e → Longest d x s first until e
  longest-followed l e G F =
      record {
        from = omega (arith, G.1.from, F.from);
        inside = F.inside;
        ends = F.ends s first until G.1.on G.2;
      }
