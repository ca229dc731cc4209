-- The words of the head from 5 on are no part of the states and rows of an automaton.
use mathlib.Core.Path.{◌≡◌, sym, ap, ap₂, subst, ◌∙◌}
use mathlib.Core.List.{List}
use Prim.Native.Nat.{ℕ, ◌+◌, ◌-◌, ◌*◌, ◌/◌, ◌≤◌, ◌<◌}
use native.Mathlib.Omega.{arith}
use lib.ListN.{get_or}
use lib.Dec.{eqb}
use Rattle.ere_automaton.specs.Layout.{State, class_count, class_in, next_in, pair_in, end_word, rows_at, stride_by, stride_of, state_count}
use Rattle.ere_automaton.specs.Layout.{first_state, later_state, accepted_state, Testable}
use Rattle.ere_automaton.specs.Automaton.{Ranged}
use Rattle.ere_automaton.specs.Follows.{Follows}
use Rattle.ere_classes.specs.Frames.{Frame}

module _ (d d' : List ℕ) (f : Frame 5 24 d d') (tests : Testable d') where
  class-is : (b : ℕ) → class_in d' b ≡ class_in d b
  class-is b = f.above (24 + b) (omega arith)

  count-is : class_count d' ≡ class_count d
  count-is = f.below 0 (omega arith)

  stride-is : stride_of d' ≡ stride_of d
  stride-is = ap₂ stride_by count-is (f.below 4 (omega arith))

  states-is : state_count d' ≡ state_count d
  states-is = ap₂ (λ (x y : ℕ). (x - rows_at) / y) f.size stride-is

  state-of : (q : ℕ) → State d' q → State d q
  state-of q s = record {
    number = s.number;
    low = subst (λ (x : ℕ). s.number < x) states-is s.low;
    is = s.is ∙ ap (λ (x : ℕ). rows_at + x * s.number) stride-is;
  }

  state-in : (q q' : ℕ) → q' ≡ q → State d q → State d' q'
  state-in q q' e s = record {
    number = s.number;
    low = subst (λ (x : ℕ). s.number < x) (sym states-is) s.low;
    is = e ∙ s.is ∙ ap (λ (x : ℕ). rows_at + x * s.number) (sym stride-is);
  }

  word-is : (q : ℕ) → State d q → (c : ℕ) → get_or d' (q + c) 0 ≡ get_or d (q + c) 0
  word-is q s c = let e = s.is in f.above (q + c) (omega arith)

  next-is : (q : ℕ) → State d q → (b : ℕ) → next_in d' q b ≡ next_in d q b
  next-is q s b = ap (λ (x : ℕ). get_or d' (q + x) 0) (class-is b) ∙ word-is q s (class_in d b)

  end_is : (q : ℕ) → State d q → end_word d' q ≡ end_word d q
  end_is q s = ap (λ (x : ℕ). get_or d' (q + x) 0) count-is ∙ word-is q s (class_count d)

  pair_is : (q : ℕ) → State d q → (b c : ℕ) → pair_in d' q b c ≡ pair_in d q b c
  pair_is q s b c =
      ap₂ (λ (x y : ℕ). get_or d' (q + (x + 1 + (y * x + class_in d' c))) 0) count-is (class-is b)
      ∙ ap (λ (x : ℕ). get_or d' (q + (class_count d + 1 + (class_in d b * class_count d + x))) 0) (class-is c)
      ∙ word-is q s (class_count d + 1 + (class_in d b * class_count d + class_in d c))

  ranged-on : Ranged d → Ranged d'
  ranged-on R = record {
    head = subst (λ (x : ℕ). rows_at ≤ x) (sym f.size) R.head;
    classes = λ b h.
        subst (λ (x : ℕ). x < class_count d') (sym (class-is b))
        (subst (λ (x : ℕ). class_in d b < x) (sym count-is) (R.classes b h));
    first = state-in (first_state d) (first_state d') (f.below 1 (omega arith)) R.first;
    later = state-in (later_state d) (later_state d') (f.below 2 (omega arith)) R.later;
    moves = λ q b s h.
        let z = state-of q s in
        state-in (next_in d q b) (next_in d' q b) (next-is q z b) (R.moves q b z h);
    pairs = λ q b c s h l p.
        let z = state-of q s in
        pair_is q z b c ∙ R.pairs q b c z h l (ap (λ (x : ℕ). eqb x 0) (sym (f.below 4 (omega arith))) ∙ p)
        ∙ sym (ap (λ (x : ℕ). next_in d' x c) (next-is q z b) ∙ next-is (next_in d q b) (R.moves q b z h) c);
    tests = tests;
  }

  pub follows_on : {change : List ℕ → ℕ → List ℕ} {first later last : List ℕ}
      → Follows change first later last d → Follows change first later last d'
  follows_on F = record {
    ranged = ranged-on F.ranged;
    sets = F.sets;
    starts = ap F.sets (f.below 1 (omega arith)) ∙ F.starts;
    elsewhere = ap F.sets (f.below 2 (omega arith)) ∙ F.elsewhere;
    lasts = state-in (accepted_state d) (accepted_state d') (f.below 3 (omega arith)) F.lasts;
    stays = ap F.sets (f.below 3 (omega arith)) ∙ F.stays;
    steps = λ q b s h. let z = state-of q s in ap F.sets (next-is q z b) ∙ F.steps q b z h;
    marks = λ q s. let z = state-of q s in end_is q z ∙ F.marks q z;
    fair = λ q s e. let z = state-of q s in F.fair q z (sym (end_is q z) ∙ e);
  }
