-- `first_start` meets its contract: no start from s to where nothing was pending has a match.
use mathlib.Core.Path.{◌≡◌, refl, sym, subst, ◌∙◌}
use mathlib.Core.Bool.{true}
use mathlib.Core.Logic.{⊎_elim}
use mathlib.Core.List.{List}
use Prim.Native.Nat.{ℕ, ◌+◌, ◌-◌, ◌≤◌, ◌<◌}
use native.Mathlib.Omega.{arith}
use lib.ListN.{length, get_or}
use lib.Dec.{eqb}
use borrow.Author.Tests.{eqb-true}
use Rattle.ere_automaton.specs.Layout.{later_state, skips_word}
use Rattle.ere_automaton.specs.Scan.{ranges_of, Skipped}
use Rattle.ere_automaton.proofs.Ranging.{skipped-inside}
use Rattle.ere_seek.proofs.Waiting.{Kept, kept-start, kept-skipped, kept-ran, kept-cleared, kept-none}
use borrow.Author.Tests.{eq-eqb, ne_eqb}
use Rattle.ere_seek.proofs.pending.first_start.Goals as goal
use Rattle.ere_seek.proofs.pending.first_start.Goals.{After-block_seen-f, After-bytes_seen-f, At-loop-i, Joined-skips, Left-loop-i}
use Rattle.ere_seek.proofs.pending.first_start.Lts.View.{up-At-loop-i, up-Joined-skips, up-Left-loop-i}

abbrev words : At-loop-i → List ℕ
words c = c.args.d.now

abbrev text_of : At-loop-i → List ℕ
text_of c = c.args.x.now

bytes : (c : At-loop-i) (n : ℕ) → get_or (text_of c) n 0 < 256
bytes c n = (c.shared_slice_known-2-1.given n).fits

-- where a turn may be
abbrev KeptAt : At-loop-i → ℕ → Type 0
KeptAt c i =
    let a = c.args in
    Kept (words c) (text_of c) a.s a.first c.loop-i.f.state i c.loop-i.f.seen

-- past blocks, to j
skip-kept : (c : At-loop-i) (r j : ℕ) → Skipped (ranges_of (words c)) (text_of c) c.loop-i.i r → j ≡ r
    → eqb c.loop-i.f.state (later_state (words c)) ≡ true → (skips_word (words c) ≡ 0 → ⊥) → KeptAt c j
skip-kept c r j S e later skips =
    let a = c.args in
    let f = c.loop-i.f in
    kept-skipped (words c) (text_of c) (bytes c) a.s a.first f.state c.loop-i.i f.seen r j
    (eqb-true _ _ later) (ne_eqb _ _ skips) S e c.loop-i.invariant

-- where a block is taken
at_block : (c : Joined-skips) → (c.loop-i.i ≤ c.if-skips.i) × (c.if-skips.i + 16 < length (text_of (up-At-loop-i _ _ _ _ _ c.before.before.before))) × (KeptAt (up-At-loop-i _ _ _ _ _ c.before.before.before) c.if-skips.i)
at_block c =
    ⊎_elim
    (λ w. (
      omega (arith, w.i-is, w.next_block-i.ensures.on),
      omega (arith, w.if-x-i.false, w.i-is),
      skip-kept (up-At-loop-i _ _ _ _ _ c.before.before.before) w.next_block-i.result c.if-skips.i w.next_block-i.ensures w.i-is (eq-eqb _ _ w.if-f-later.true) w.if-skips.true,
    ))
    (λ w. (
      omega (arith, w.i-is),
      omega (arith, w.i-is, c.loop-i-test.true),
      subst (KeptAt (up-At-loop-i _ _ _ _ _ c.before.before.before)) (sym w.i-is) c.loop-i.invariant,
    ))
    c.if-skips.branch-raw

-- after it
block-kept : (c : After-block_seen-f)
    → let a = c.args in
    let r = c.block_seen-f.result in
    Kept (words (up-At-loop-i _ _ _ _ _ c.before.before.before.before)) (text_of (up-At-loop-i _ _ _ _ _ c.before.before.before.before)) a.s a.first r.state (c.if-skips.i + 16) r.seen
block-kept c =
    let a = c.args in
    let f = c.loop-i.f in
    let r = c.block_seen-f.result in
    let w = at_block (up-Joined-skips _ _ _ _ _ c.before.before) in
    kept-ran (words (up-At-loop-i _ _ _ _ _ c.before.before.before.before)) (text_of (up-At-loop-i _ _ _ _ _ c.before.before.before.before)) (bytes (up-At-loop-i _ _ _ _ _ c.before.before.before.before)) a.s a.first c.if-skips.i 16 f.state f.seen r.state
    r.seen
    c.requires.0 (omega arith) c.block_seen-f.ensures w.2

-- ---- the text's end

at_exit : (c : Left-loop-i) → KeptAt (up-At-loop-i _ _ _ _ _ c.before.before) c.loop-i-test.i
at_exit c =
    ⊎_elim (λ w. subst (KeptAt (up-At-loop-i _ _ _ _ _ c.before.before)) (sym w.i-is) c.loop-i.invariant)
    (λ w. skip-kept (up-At-loop-i _ _ _ _ _ c.before.before) w.next_block-i.result c.loop-i-test.i w.next_block-i.ensures w.i-is (eq-eqb _ _ w.if-f-later.true) w.if-skips.true)
    c.loop-i-test.branch-raw

-- after the rest of the text
last-kept : (c : After-bytes_seen-f)
    → let a = c.args in
    let r = c.bytes_seen-f.result in
    Kept (words (up-At-loop-i _ _ _ _ _ c.before.before.before)) (text_of (up-At-loop-i _ _ _ _ _ c.before.before.before)) a.s a.first r.state (length (text_of (up-At-loop-i _ _ _ _ _ c.before.before.before))) r.seen
last-kept c =
    let a = c.args in
    let f = c.loop-i.f in
    let r = c.bytes_seen-f.result in
    let w = at_exit (up-Left-loop-i _ _ _ _ _ c.before.before) in
    let i = c.loop-i-test.i in
    let n = length (text_of (up-At-loop-i _ _ _ _ _ c.before.before.before)) in
    let z : i + (n - i) ≡ n = omega (arith, w.inside) in
    subst (λ (j : ℕ). Kept (words (up-At-loop-i _ _ _ _ _ c.before.before.before)) (text_of (up-At-loop-i _ _ _ _ _ c.before.before.before)) a.s a.first r.state j r.seen) z
    (kept-ran (words (up-At-loop-i _ _ _ _ _ c.before.before.before)) (text_of (up-At-loop-i _ _ _ _ _ c.before.before.before)) (bytes (up-At-loop-i _ _ _ _ _ c.before.before.before)) a.s a.first i (n - i) f.state f.seen r.state r.seen
    c.requires.0 (omega arith) c.bytes_seen-f.ensures w)

pub bounds-d-0 : goal.bounds-d-0
bounds-d-0 c = omega (arith, c.requires.0.head)

pub overflow_cast-k : goal.overflow_cast-k
overflow_cast-k c = omega (arith, c.shared_slice_known-3-1.given 0)

pub bounds-d-2 : goal.bounds-d-2
bounds-d-2 c = omega (arith, c.requires.0.head)

pub overflow_cast-later : goal.overflow_cast-later
overflow_cast-later c = omega (arith, c.shared_slice_known-4-1.given 2)

pub bounds-d-3 : goal.bounds-d-3
bounds-d-3 c = omega (arith, c.requires.0.head)

pub overflow_cast-accepted : goal.overflow_cast-accepted
overflow_cast-accepted c = omega (arith, c.shared_slice_known-5-1.given 3)

pub bounds-d-4 : goal.bounds-d-4
bounds-d-4 c = omega (arith, c.requires.0.head)

pub bounds-d-5 : goal.bounds-d-5
bounds-d-5 c = omega (arith, c.requires.0.head)

pub entered-requires : goal.entered-requires
entered-requires c = c.requires.0

-- ---- the loop
pub loop-i-init : goal.loop-i-init
loop-i-init c =
    let a = c.args in
    let bytes : (n : ℕ) → get_or a.x.now n 0 < 256 = λ n. (c.shared_slice_known-2-1.given n).fits in
    kept-start a.d.now a.x.now bytes a.s a.first _ c.requires.0 c.requires.2 c.entered.ensures

pub overflow_add-i : goal.overflow_add-i
overflow_add-i c = omega (arith, c.loop-i.invariant.inside)

pub next_block-i-requires : goal.next_block-i-requires
next_block-i-requires c =
    (c.requires.0.head, c.requires.1, c.loop-i.invariant.inside)

pub overflow_add-i-then-f-later : goal.overflow_add-i-then-f-later
overflow_add-i-then-f-later c =
    let l = (goal.at.overflow_add-i-then-f-later c).At-loop-i in
    let r = c.next_block-i in
    omega (
      arith,
      skipped-inside (ranges_of (words l)) (text_of l) l.loop-i.i r.result r.ensures
          l.loop-i.invariant.inside,
    )

pub block_seen-f-requires : goal.block_seen-f-requires
block_seen-f-requires c =
    let w = at_block c in
    let R = c.requires.0 in (
      record {
        ready = record { ranged = R; state = c.loop-i.invariant.state; classes = refl };
        inside = omega arith;
        is_later = refl;
      },
      refl,
    )

pub returns-then-f-accepted : goal.returns-then-f-accepted
returns-then-f-accepted c =
    let l = (goal.at.returns-then-f-accepted c).At-loop-i in
    let r = c.block_seen-f.result in
    kept-cleared (words l) (text_of l) (bytes l) c.args.s c.args.first r.state
    (c.if-skips.i + 16) r.seen
    (block-kept (goal.at.returns-then-f-accepted c).After-block_seen-f)

pub overflow_add-i-in-loop-i : goal.overflow_add-i-in-loop-i
overflow_add-i-in-loop-i c = let w = at_block (goal.at.overflow_add-i-in-loop-i c).Joined-skips in omega arith

pub loop-i-smaller : goal.loop-i-smaller
loop-i-smaller c = let w = at_block (goal.at.loop-i-smaller c).Joined-skips in omega arith

pub loop-i-preserved : goal.loop-i-preserved
loop-i-preserved c = block-kept (goal.at.loop-i-preserved c).After-block_seen-f

pub bytes_seen-f-requires : goal.bytes_seen-f-requires
bytes_seen-f-requires c =
    let w = at_exit c in
    let R = c.requires.0 in
    record { ranged = R; state = w.state; order = w.inside; inside = omega arith; is_later = refl }

pub accept_bits-requires : goal.accept_bits-requires
accept_bits-requires c =
    record { ranged = c.requires.0; state = (last-kept c).state; classes = refl }

pub returns-then-accept_bits-ne0 : goal.returns-then-accept_bits-ne0
returns-then-accept_bits-ne0 c =
    let l = (goal.at.returns-then-accept_bits-ne0 c).At-loop-i in
    let r = c.bytes_seen-f.result in
    kept-cleared (words l) (text_of l) (bytes l) c.args.s c.args.first r.state (length (text_of l))
    r.seen
    (last-kept (goal.at.returns-then-accept_bits-ne0 c).After-bytes_seen-f)

pub overflow_add-result : goal.overflow_add-result
overflow_add-result c = omega arith

pub returns : goal.returns
returns c =
    let l = (goal.at.returns c).At-loop-i in
    let r = c.bytes_seen-f.result in
    kept-none (words l) (text_of l) (bytes l) c.args.s c.args.first r.state (length (text_of l))
    r.seen refl
    (sym c.accept_bits.ensures ∙ c.if-accept_bits-ne0.false) (last-kept (goal.at.returns c).After-bytes_seen-f)
