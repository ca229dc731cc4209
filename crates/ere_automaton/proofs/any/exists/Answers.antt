-- `exists` meets its contract: a word is where it is, the last bytes tell where the reach says so, and a walk over
-- all else.
use Rattle.std.proofs.Common.{◌≡◌, ℕ, suc, ◌+◌, ◌-◌, ◌<◌, ltb, leb, List, length, get_or, sym, ap, ◌∙◌, subst, arith, ltb-true, leb-true}
use Rattle.lists.proofs.Tests.{and-true}
use Rattle.ere_automaton.specs.Layout.{State, class_count, later_state, reach_word}
use Rattle.ere_automaton.specs.Scan.{runs}
use Rattle.ere_automaton.proofs.States.{end_fits, runs-state}
use Rattle.ere_automaton.proofs.Left.{Left, left-runs, left-none, exists-end}
use Rattle.ere_automaton.proofs.Spent.{reach-left}
use Rattle.ere_automaton.proofs.Spelling.{word-exists, first-exists, first_short}
use Rattle.ere_automaton.proofs.any.exists.Goals as goal
use Rattle.ere_automaton.proofs.any.exists.Goals.{After-to_end-s}

-- after the walk over the last bytes
abbrev words : After-to_end-s → List ℕ
words c = c.args.d.now

abbrev text_of : After-to_end-s → List ℕ
text_of c = c.args.text.now

bytes : (c : After-to_end-s) (n : ℕ) → get_or (text_of c) n 0 < 256
bytes c n = (c.shared_slice_known-2-1.given n).fits

-- the state that it ends in
last-state : (c : After-to_end-s) → State (words c) c.to_end-s.result
last-state c =
    let d = words c in
    let x = text_of c in
    let i = length x + 1 - reach_word d in
    let R = c.requires.0 in
    subst (State d) (sym c.to_end-s.ensures) (runs-state d R x (bytes c) i (later_state d) (length x - i) R.later)

fits : (c : After-to_end-s) → c.to_end-s.result + class_count (words c) < length (words c)
fits c = end_fits (words c) c.to_end-s.result (last-state c)

-- a word
pub is_in-requires : goal.is_in-requires
is_in-requires c =
    let p = c.requires in
    let z = c.if-kind-eq-WORD.true in
    (p.0.head, p.0.tests (omega arith) (omega arith), omega (arith, c.if-last-text.true), p.1)

pub returns-then-last-text : goal.returns-then-last-text
returns-then-last-text c t D =
    let a = c.args in
    let known = c.shared_slice_known-2-1 in
    let seen : (k : ℕ) → get_or a.text.now k 0 < 256 = λ k. (known.given k).fits in
    let W = D.shape.word c.if-kind-eq-WORD.true in
    word-exists t a.d.now a.text.now seen W.0 W.1 c.is_in.result c.is_in.ensures

pub returns-then-text-last : goal.returns-then-text-last
returns-then-text-last c t D =
    let a = c.args in
    let known = c.shared_slice_known-2-1 in
    let seen : (k : ℕ) → get_or a.text.now k 0 < 256 = λ k. (known.given k).fits in
    let W = D.shape.first c.if-kind-eq-FIRST_WORD.true in
    first_short t a.d.now a.text.now seen W.0 W.1 c.if-text-last.true

pub is_first-requires : goal.is_first-requires
is_first-requires c =
    let p = c.requires in
    let z = c.if-kind-eq-FIRST_WORD.true in
    (p.0.head, p.0.tests (omega arith) (omega arith), c.if-text-last.false)

pub returns-then-kind-eq-FIRST_WORD : goal.returns-then-kind-eq-FIRST_WORD
returns-then-kind-eq-FIRST_WORD c t D =
    let a = c.args in
    let known = c.shared_slice_known-2-1 in
    let seen : (k : ℕ) → get_or a.text.now k 0 < 256 = λ k. (known.given k).fits in
    let W = D.shape.first c.if-kind-eq-FIRST_WORD.true in
    first-exists t a.d.now a.text.now seen W.0 W.1 c.is_first.result c.if-text-last.false c.is_first.ensures

pub overflow_cast-reach : goal.overflow_cast-reach
overflow_cast-reach c = omega (arith, c.shared_slice_known-4-1.given 14)

pub overflow_sub-text : goal.overflow_sub-text
overflow_sub-text c =
    let a = c.args in
    let r = reach_word a.d.now in
    let n = length a.text.now in
    let low = leb-true r n (and-true (ltb 0 r) (leb r n) c.if-reach-text.true).1 in
    omega arith

pub to_end-s-requires : goal.to_end-s-requires
to_end-s-requires c =
    let r = reach_word c.args.d.now in
    let n = length c.args.text.now in
    let low = ltb-true 0 r (and-true (ltb 0 r) (leb r n) c.if-reach-text.true).0 in
    (c.requires.0, c.requires.1, omega arith)

pub overflow_cast-result : goal.overflow_cast-result
overflow_cast-result c = omega (arith, c.shared_slice_known-then-reach-text-1.given 0)

pub overflow_add-result : goal.overflow_add-result
overflow_add-result c = omega (arith, fits (goal.at.overflow_add-result c).After-to_end-s)

pub offset_bounds-d-s : goal.offset_bounds-d-s
offset_bounds-d-s c = omega (arith, fits (goal.at.offset_bounds-d-s c).After-to_end-s)

pub bounds-d-s : goal.bounds-d-s
bounds-d-s c = omega (arith, fits (goal.at.bounds-d-s c).After-to_end-s)

pub returns-then-reach-text : goal.returns-then-reach-text
returns-then-reach-text c =
    let d = words (goal.at.returns-then-reach-text c).After-to_end-s in
    let x = text_of (goal.at.returns-then-reach-text c).After-to_end-s in
    let n = length x in
    let r = reach_word d in
    let taken = and-true (ltb 0 r) (leb r n) c.if-reach-text.true in
    let low = ltb-true 0 r taken.0 in
    let high = leb-true r n taken.1 in
    let m = r - 1 in
    let i = n - r in
    let z : n + 1 - r ≡ suc i = omega arith in
    let q = c.to_end-s.result in
    let S = last-state (goal.at.returns-then-reach-text c).After-to_end-s in
    let R = c.requires.0 in
    let L : Left d x (later_state d) (suc i) = reach-left d x (bytes (goal.at.returns-then-reach-text c).After-to_end-s) m i (omega arith) (omega arith) in
    let ran : q ≡ runs d x (suc i) (later_state d) (n - suc i) =
    c.to_end-s.ensures ∙ ap (λ (j : ℕ). runs d x j (later_state d) (n - j)) z in
    let w : suc i + (n - suc i) ≡ n = omega arith in
    exists-end d x (bytes (goal.at.returns-then-reach-text c).After-to_end-s) q S
    (left-none d x (bytes (goal.at.returns-then-reach-text c).After-to_end-s) q S (suc i + (n - suc i)) w
    (subst (λ (u : ℕ). Left d x u (suc i + (n - suc i))) (sym ran)
    (left-runs d x (bytes (goal.at.returns-then-reach-text c).After-to_end-s) (suc i) (later_state d) (n - suc i) R.later (omega arith) L)))
