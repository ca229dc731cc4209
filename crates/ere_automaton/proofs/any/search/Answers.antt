-- `search` meets its contract: what is left of the search from the state s at i is what it was.
use Rattle.std.proofs.Common.{◌≡◌, ℕ, ◌+◌, ◌-◌, ◌<◌, ◌≤◌, true, not, ◌&&◌, eqb, ltb, List, length, get_or, sym, refl, ap, subst, ⊎_elim, arith, ltb-true, eqb-true}
use borrow.Author.Tests.{not-true, eq-eqb, ne_eqb}
use Rattle.lists.proofs.Tests.{and-true}
use Rattle.ere_automaton.specs.Layout.{State, class_count, first_state, later_state, skips_word}
use Rattle.ere_automaton.specs.Scan.{runs, ranges_of, Skipped}
use Rattle.ere_automaton.proofs.Ranging.{skipped-inside}
use Rattle.ere_automaton.proofs.States.{end_fits, runs-state}
use Rattle.ere_automaton.proofs.Left.{Left, left-runs, left-skipped, left-none, left_ended}
use Rattle.ere_automaton.proofs.Left.{exists-end, exists-ended, exists-none}
use Rattle.ere_automaton.proofs.any.search.Goals as goal
use Rattle.ere_automaton.proofs.any.search.Goals.{After-block-s, After-by_bytes-s, At-loop-i, Joined-skips, Joined-skips-s, Left-loop-i}
use Rattle.ere_automaton.proofs.any.search.Lts.View.{up-At-loop-i, up-Joined-skips, up-Left-loop-i}

abbrev words : At-loop-i → List ℕ
words c = c.args.d.now

abbrev text_of : At-loop-i → List ℕ
text_of c = c.args.text.now

bytes : (c : At-loop-i) (n : ℕ) → get_or (text_of c) n 0 < 256
bytes c n = (c.shared_slice_known-2-1.given n).fits

-- what is left from i on, in the state of the turn
abbrev LeftAt : At-loop-i → ℕ → Type 0
LeftAt c i = Left (words c) (text_of c) c.loop-i.s i

-- n bytes from there on
run-state : (c : At-loop-i) (i n q : ℕ) → q ≡ runs (words c) (text_of c) i c.loop-i.s n → State (words c) q
run-state c i n q e =
    let R = c.requires.0 in
    subst (State (words c)) (sym e) (runs-state (words c) R (text_of c) (bytes c) i c.loop-i.s n c.loop-i.invariant.0)

run-left : (c : At-loop-i) (i n q : ℕ) → i + n ≤ length (text_of c) → q ≡ runs (words c) (text_of c) i c.loop-i.s n
    → LeftAt c i → Left (words c) (text_of c) q (i + n)
run-left c i n q h e L =
    subst (λ (r : ℕ). Left (words c) (text_of c) r (i + n)) (sym e)
    (left-runs (words c) (text_of c) (bytes c) i c.loop-i.s n c.loop-i.invariant.0 h L)

-- past places at which no match starts, to j
skip-left : (c : At-loop-i) (i r j : ℕ) → Skipped (ranges_of (words c)) (text_of c) i r → j ≡ r
    → eqb c.loop-i.s (later_state (words c)) ≡ true → not (eqb (skips_word (words c)) 0) ≡ true → LeftAt c i
    → LeftAt c j
skip-left c i r j S e later skips L =
    subst (LeftAt c) (sym e)
    (left-skipped (words c) (text_of c) (bytes c) i c.loop-i.s r (eqb-true _ _ later) (not-true _ skips) S L)

-- where a block is taken
at_block : (c : Joined-skips) → (c.loop-i.i ≤ c.if-skips.i) × (c.if-skips.i + 16 < length (text_of (up-At-loop-i _ _ _ _ _ c.before.before.before))) × (LeftAt (up-At-loop-i _ _ _ _ _ c.before.before.before) c.if-skips.i)
at_block c =
    ⊎_elim
    (λ w. (
      omega (arith, w.i-is, w.next_block-i.ensures.on),
      omega (arith, w.if-text-i.false, w.i-is),
      skip-left (up-At-loop-i _ _ _ _ _ c.before.before.before) c.loop-i.i w.next_block-i.result c.if-skips.i w.next_block-i.ensures w.i-is (eq-eqb _ _ w.if-s-later.true) (ap not (ne_eqb _ _ w.if-skips.true))
          c.loop-i.invariant.2,
    ))
    (λ w. (
      omega (arith, w.i-is),
      omega (arith, w.i-is, c.loop-i-test.true),
      subst (LeftAt (up-At-loop-i _ _ _ _ _ c.before.before.before)) (sym w.i-is) c.loop-i.invariant.2,
    ))
    c.if-skips.branch-raw

-- after it
block-left : (c : After-block-s) → (State (words (up-At-loop-i _ _ _ _ _ c.before.before.before.before)) c.block-s.result) × (Left (words (up-At-loop-i _ _ _ _ _ c.before.before.before.before)) (text_of (up-At-loop-i _ _ _ _ _ c.before.before.before.before)) c.block-s.result (c.if-skips.i + 16))
block-left c =
    let w = at_block (up-Joined-skips _ _ _ _ _ c.before.before) in
    let r = c.block-s in
    let i = c.if-skips.i in
    (run-state (up-At-loop-i _ _ _ _ _ c.before.before.before.before) i 16 r.result r.ensures, run-left (up-At-loop-i _ _ _ _ _ c.before.before.before.before) i 16 r.result (omega arith) r.ensures w.2)

-- ---- the text's end

-- after the loop
at_exit : (c : Left-loop-i) → let i = c.loop-i-test.i in
    (i ≤ length (text_of (up-At-loop-i _ _ _ _ _ c.before.before))) × (length (text_of (up-At-loop-i _ _ _ _ _ c.before.before)) ≤ i + 16) × (LeftAt (up-At-loop-i _ _ _ _ _ c.before.before) i)
at_exit c =
    let g = ranges_of (words (up-At-loop-i _ _ _ _ _ c.before.before)) in
    let i = c.loop-i.i in
    ⊎_elim
    (λ w. (
      omega (arith, w.i-is, c.loop-i.invariant.1),
      omega (arith, w.i-is, w.loop-i-test.false),
      subst (LeftAt (up-At-loop-i _ _ _ _ _ c.before.before)) (sym w.i-is) c.loop-i.invariant.2,
    ))
    (λ w. (
      omega (arith, w.i-is, skipped-inside g (text_of (up-At-loop-i _ _ _ _ _ c.before.before)) i w.next_block-i.result w.next_block-i.ensures c.loop-i.invariant.1),
      omega (arith, w.i-is, w.if-text-i.true),
      skip-left (up-At-loop-i _ _ _ _ _ c.before.before) i w.next_block-i.result c.loop-i-test.i w.next_block-i.ensures w.i-is (eq-eqb _ _ w.if-s-later.true) (ap not (ne_eqb _ _ w.if-skips.true))
          c.loop-i.invariant.2,
    ))
    c.loop-i-test.branch-raw

-- before the rest of the text
at_rest : (c : Joined-skips-s) → (c.if-skips-s.i ≤ length (text_of (up-At-loop-i _ _ _ _ _ c.before.before.before))) × (LeftAt (up-At-loop-i _ _ _ _ _ c.before.before.before) c.if-skips-s.i)
at_rest c =
    let o = at_exit (up-Left-loop-i _ _ _ _ _ c.before.before) in
    let i = c.loop-i-test.i in
    ⊎_elim
    (λ w.
    let m = and-true _ _ (and-true _ _ w.if-skips-s.true).0 in
    let r = w.near_end-i in (
      omega (arith, w.i-is, skipped-inside (ranges_of (words (up-At-loop-i _ _ _ _ _ c.before.before.before))) (text_of (up-At-loop-i _ _ _ _ _ c.before.before.before)) i r.result r.ensures o.0),
      skip-left (up-At-loop-i _ _ _ _ _ c.before.before.before) i r.result c.if-skips-s.i r.ensures w.i-is m.1 m.0 o.2,
    ))
    (λ w. (omega (arith, w.i-is, o.0), subst (LeftAt (up-At-loop-i _ _ _ _ _ c.before.before.before)) (sym w.i-is) o.2))
    c.if-skips-s.branch-raw

-- after it
last-state : (c : After-by_bytes-s) → State (words (up-At-loop-i _ _ _ _ _ c.before.before.before.before)) c.by_bytes-s.result
last-state c =
    let i = c.if-skips-s.i in
    run-state (up-At-loop-i _ _ _ _ _ c.before.before.before.before) i (length (text_of (up-At-loop-i _ _ _ _ _ c.before.before.before.before)) - i) c.by_bytes-s.result c.by_bytes-s.ensures

last_fits : (c : After-by_bytes-s) → let d = words (up-At-loop-i _ _ _ _ _ c.before.before.before.before) in c.by_bytes-s.result + class_count d < length d
last_fits c = end_fits (words (up-At-loop-i _ _ _ _ _ c.before.before.before.before)) c.by_bytes-s.result (last-state c)

-- ---- the words of the head
pub bounds-d-0 : goal.bounds-d-0
bounds-d-0 c = omega (arith, c.requires.0.head)

pub overflow_cast-k : goal.overflow_cast-k
overflow_cast-k c = omega (arith, c.shared_slice_known-3-1.given 0)

pub bounds-d-2 : goal.bounds-d-2
bounds-d-2 c = omega (arith, c.requires.0.head)

pub overflow_cast-later : goal.overflow_cast-later
overflow_cast-later c = omega (arith, c.shared_slice_known-4-1.given 2)

pub bounds-d-3 : goal.bounds-d-3
bounds-d-3 c = omega (arith, c.requires.0.head)

pub overflow_cast-accepted : goal.overflow_cast-accepted
overflow_cast-accepted c = omega (arith, c.shared_slice_known-5-1.given 3)

pub bounds-d-4 : goal.bounds-d-4
bounds-d-4 c = omega (arith, c.requires.0.head)

pub bounds-d-5 : goal.bounds-d-5
bounds-d-5 c = omega (arith, c.requires.0.head)

pub bounds-d-1 : goal.bounds-d-1
bounds-d-1 c = omega (arith, c.requires.0.head)

pub overflow_cast-s : goal.overflow_cast-s
overflow_cast-s c = omega (arith, c.shared_slice_known-8-1.given 1)

-- ---- a match has ended where the text starts
pub overflow_add-result : goal.overflow_add-result
overflow_add-result c =
    let d = c.args.d.now in
    omega (arith, end_fits d (first_state d) c.requires.0.first)

pub offset_bounds-d-s : goal.offset_bounds-d-s
offset_bounds-d-s c =
    let d = c.args.d.now in
    omega (arith, end_fits d (first_state d) c.requires.0.first)

pub bounds-d-s : goal.bounds-d-s
bounds-d-s c =
    let d = c.args.d.now in
    omega (arith, end_fits d (first_state d) c.requires.0.first)

pub returns-then-s-accepted : goal.returns-then-s-accepted
returns-then-s-accepted c =
    let d = c.args.d.now in
    let x = c.args.text.now in
    let known = c.shared_slice_known-2-1 in
    let bytes : (n : ℕ) → get_or x n 0 < 256 = λ n. (known.given n).fits in
    let S = c.requires.0.first in
    exists-end d x bytes (first_state d) S
    (left_ended d x bytes (first_state d) S 0 (λ t D. refl) c.if-s-accepted.true)

-- ---- the loop
pub loop-i-init : goal.loop-i-init
loop-i-init c =
    let p = c.requires in
    (p.0.first, omega arith, λ t D. refl)

pub overflow_add-i : goal.overflow_add-i
overflow_add-i c = omega arith

-- no match can start any more
pub bounds-d-5-then-s-later : goal.bounds-d-5-then-s-later
bounds-d-5-then-s-later c =
    let p = c.requires in
    omega (arith, p.0.head)

pub returns-then-d-eq-FIXED : goal.returns-then-d-eq-FIXED
returns-then-d-eq-FIXED c =
    let v = c.loop-i.invariant in
    exists-none (words (goal.at.returns-then-d-eq-FIXED c).At-loop-i) (text_of (goal.at.returns-then-d-eq-FIXED c).At-loop-i) (bytes (goal.at.returns-then-d-eq-FIXED c).At-loop-i) c.loop-i.s v.0 c.loop-i.i v.2
    c.if-s-later.true c.if-d-eq-FIXED.true

pub next_block-i-requires : goal.next_block-i-requires
next_block-i-requires c =
    let p = c.requires in
    (p.0.head, p.1, c.loop-i.invariant.1)

pub overflow_add-i-then-s-later : goal.overflow_add-i-then-s-later
overflow_add-i-then-s-later c =
    let r = c.next_block-i in
    let g = ranges_of (words (goal.at.overflow_add-i-then-s-later c).At-loop-i) in
    omega (arith, skipped-inside g (text_of (goal.at.overflow_add-i-then-s-later c).At-loop-i) c.loop-i.i r.result r.ensures c.loop-i.invariant.1)

pub block-s-requires : goal.block-s-requires
block-s-requires c =
    let w = at_block c in
    let p = c.requires.0 in
    (record { ranged = p; state = c.loop-i.invariant.0; classes = refl }, refl, omega arith)

pub returns-then-s-accepted-2 : goal.returns-then-s-accepted-2
returns-then-s-accepted-2 c =
    let b = block-left (goal.at.returns-then-s-accepted-2 c).After-block-s in
    let i = c.if-skips.i in
    exists-ended (words (goal.at.returns-then-s-accepted-2 c).At-loop-i) (text_of (goal.at.returns-then-s-accepted-2 c).At-loop-i) (bytes (goal.at.returns-then-s-accepted-2 c).At-loop-i) c.block-s.result b.0 (i + 16) b.1 c.if-s-accepted-2.true

pub overflow_add-i-in-loop-i : goal.overflow_add-i-in-loop-i
overflow_add-i-in-loop-i c = let w = at_block (goal.at.overflow_add-i-in-loop-i c).Joined-skips in omega arith

pub loop-i-smaller : goal.loop-i-smaller
loop-i-smaller c = let w = at_block (goal.at.loop-i-smaller c).Joined-skips in omega arith

pub loop-i-preserved : goal.loop-i-preserved
loop-i-preserved c =
    let w = at_block (goal.at.loop-i-preserved c).Joined-skips in
    let b = block-left (goal.at.loop-i-preserved c).After-block-s in
    (b.0, omega arith, b.1)

pub near_end-i-requires : goal.near_end-i-requires
near_end-i-requires c =
    let o = at_exit (goal.at.near_end-i-requires c).Left-loop-i in
    let p = c.requires in
    let asked = not (eqb (skips_word (words (goal.at.near_end-i-requires c).At-loop-i)) 0) && eqb c.loop-i.s (later_state (words (goal.at.near_end-i-requires c).At-loop-i)) in
    let n = length (text_of (goal.at.near_end-i-requires c).At-loop-i) in
    let more = ltb-true 16 n (and-true asked (ltb 16 n) c.if-skips-s.true).1 in
    (p.0.head, record { small = p.1; long = omega arith; near = omega arith; inside = o.0 })

pub by_bytes-s-requires : goal.by_bytes-s-requires
by_bytes-s-requires c =
    let w = at_rest c in
    let p = c.requires in
    (p.0, c.loop-i.invariant.0, w.0, omega arith)

pub overflow_add-result-2 : goal.overflow_add-result-2
overflow_add-result-2 c = omega (arith, last_fits c)

pub offset_bounds-d-s-2 : goal.offset_bounds-d-s-2
offset_bounds-d-s-2 c = omega (arith, last_fits c)

pub bounds-d-s-2 : goal.bounds-d-s-2
bounds-d-s-2 c = omega (arith, last_fits (goal.at.bounds-d-s-2 c).After-by_bytes-s)

pub returns : goal.returns
returns c =
    let w = at_rest (goal.at.returns c).Joined-skips-s in
    let i = c.if-skips-s.i in
    let n = length (text_of (goal.at.returns c).At-loop-i) in
    let z : i + (n - i) ≡ n = omega (arith, w.0) in
    let q = c.by_bytes-s.result in
    let S = last-state (goal.at.returns c).After-by_bytes-s in
    exists-end (words (goal.at.returns c).At-loop-i) (text_of (goal.at.returns c).At-loop-i) (bytes (goal.at.returns c).At-loop-i) q S
    (left-none (words (goal.at.returns c).At-loop-i) (text_of (goal.at.returns c).At-loop-i) (bytes (goal.at.returns c).At-loop-i) q S (i + (n - i)) z
    (run-left (goal.at.returns c).At-loop-i i (n - i) q (omega arith) c.by_bytes-s.ensures w.1))
