-- `by_bytes` meets its contract: s is the state after the bytes up to i.
use Rattle.std.proofs.Common.{◌≡◌, ℕ, ◌+◌, ◌-◌, ◌<◌, length, get_or, ap, ◌∙◌, arith}
use Rattle.ere_automaton.specs.Layout.{class_in}
use Rattle.ere_automaton.specs.Scan.{runs}
use Rattle.ere_automaton.proofs.States.{next_fits, runs-byte}
use Rattle.ere_automaton.proofs.blocks.by_bytes.Goals as goal
use Rattle.ere_automaton.proofs.blocks.by_bytes.Goals.{After-shared_slice_known-1}

-- where the state after the byte at i is
abbrev byte : After-shared_slice_known-1 → ℕ
byte c = get_or c.args.x.now c.loop-i.i 0

small : (c : After-shared_slice_known-1) → byte c < 256
small c = (c.shared_slice_known-1.given c.loop-i.i).fits

abbrev index : After-shared_slice_known-1 → ℕ
index c = c.loop-i.s + class_in c.args.d.now (byte c)

inside : (c : After-shared_slice_known-1) → index c < length c.args.d.now
inside c =
    let l = c.loop-i in
    next_fits c.args.d.now c.requires.0 l.s (byte c) l.invariant.1 (small c)

pub loop-i-init : goal.loop-i-init
unfolding runs
loop-i-init c =
    let a = c.args in
    let z : 0 ≡ a.from - a.from = omega arith in
    (omega arith, c.requires.1, ap (runs a.d.now a.x.now a.from a.state) z)

pub overflow_cast-s : goal.overflow_cast-s
overflow_cast-s c = omega (arith, small c)

pub overflow_add-s : goal.overflow_add-s
overflow_add-s c = omega (arith, small c)

pub offset_bounds-d-x : goal.offset_bounds-d-x
offset_bounds-d-x c = omega (arith, small c)

pub bounds-d-x : goal.bounds-d-x
bounds-d-x c = omega (arith, c.requires.0.head, small (goal.at.bounds-d-x c).After-shared_slice_known-1)

pub overflow_cast-s-in-loop-i : goal.overflow_cast-s-in-loop-i
overflow_cast-s-in-loop-i c = omega (arith, c.shared_slice_known-in-loop-i-1.given (24 + byte (goal.at.overflow_cast-s-in-loop-i c).After-shared_slice_known-1))

pub overflow_add-s-in-loop-i : goal.overflow_add-s-in-loop-i
overflow_add-s-in-loop-i c = omega (arith, inside (goal.at.overflow_add-s-in-loop-i c).After-shared_slice_known-1)

pub offset_bounds-d-s : goal.offset_bounds-d-s
offset_bounds-d-s c = omega (arith, inside (goal.at.offset_bounds-d-s c).After-shared_slice_known-1)

pub bounds-d-s : goal.bounds-d-s
bounds-d-s c = omega (arith, inside (goal.at.bounds-d-s c).After-shared_slice_known-1)

pub overflow_cast-s-in-loop-i-2 : goal.overflow_cast-s-in-loop-i-2
overflow_cast-s-in-loop-i-2 c = omega (arith, c.shared_slice_known-in-loop-i-2-1.given (index (goal.at.overflow_cast-s-in-loop-i-2 c).After-shared_slice_known-1))

pub loop-i-preserved : goal.loop-i-preserved
loop-i-preserved c =
    let a = c.args in
    let l = c.loop-i in (
      omega arith,
      c.requires.0.moves l.s (byte (goal.at.loop-i-preserved c).After-shared_slice_known-1) l.invariant.1 (small (goal.at.loop-i-preserved c).After-shared_slice_known-1),
      runs-byte a.d.now a.x.now a.from a.state l.i l.s l.invariant.0 l.invariant.2,
    )

pub returns : goal.returns
returns c =
    let a = c.args in
    let l = c.loop-i in
    let z : l.i ≡ a.end = omega arith in
    l.invariant.2 ∙ ap (λ (n : ℕ). runs a.d.now a.x.now a.from a.state (n - a.from)) z
