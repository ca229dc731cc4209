-- `pair` meets its contract: the word lies in the row of s, and its index in the row has 32 bits.
use Prim.Native.Nat.{ℕ, ◌+◌, ◌*◌, ◌≤◌, ◌<◌}
use native.Mathlib.Nat.{mul-le-mul}
use native.Mathlib.Omega.{arith}
use lib.ListN.{length}
use Rattle.ere_automaton.specs.Layout.{class_in}
use Rattle.ere_automaton.proofs.States.{pair_fits, pair_is}
use Rattle.ere_seek.proofs.states.pair.Goals as goal
use Rattle.ere_seek.proofs.states.pair.Goals.{After-shared_slice_known-2-1, Start}
use Rattle.ere_seek.proofs.states.pair.Lts.View.{up-Start}

-- where the word is
abbrev in_row : Start → ℕ
in_row c = let a = c.args in class_in a.d.now a.b * a.k + class_in a.d.now a.c + a.k + 1

abbrev index : Start → ℕ
index c = in_row c + c.args.s

inside : (c : Start) → index c < length c.args.d.now
inside c =
    let a = c.args in
    let p = c.requires.0 in
    pair_fits a.d.now p.ranged a.s a.k a.b a.c p.state p.classes (omega arith) (omega arith)
    c.requires.1

-- a number of classes has 16 bits
small : (c : Start) → c.args.k < 65536 → in_row c < 4294967296
small c h =
    let a = c.args in
    let p = c.requires.0 in
    let b = p.ranged.classes a.b (omega arith) in
    let d = p.ranged.classes a.c (omega arith) in
    let y : class_in a.d.now a.b ≤ 65534 = omega (arith, p.classes) in
    let z : a.k ≤ 65535 = omega arith in
    let m : class_in a.d.now a.b * a.k ≤ 65534 * 65535 = mul-le-mul y z in
    omega (arith, p.classes)

-- the index in the row, where the classes are read
row_small : (c : After-shared_slice_known-2-1) → in_row (up-Start _ _ c.before.before.before) < 4294967296
row_small c = small (up-Start _ _ c.before.before.before) (omega (arith, c.shared_slice_known-2-1.given 0, c.requires.0.classes))

pub overflow_cast-y-2 : goal.overflow_cast-y-2
overflow_cast-y-2 c = omega (arith, c.shared_slice_known-1.given (24 + c.args.b))

pub overflow_cast-z-2 : goal.overflow_cast-z-2
overflow_cast-z-2 c = omega (arith, c.shared_slice_known-2-1.given (24 + c.args.c))

pub overflow_cast-n : goal.overflow_cast-n
overflow_cast-n c = omega (arith, c.shared_slice_known-2-1.given 0, c.requires.0.classes)

pub overflow_mul-result : goal.overflow_mul-result
overflow_mul-result c = omega (arith, row_small c)

pub overflow_add-result : goal.overflow_add-result
overflow_add-result c = omega (arith, row_small c)

pub overflow_add-result-2 : goal.overflow_add-result-2
overflow_add-result-2 c = omega (arith, row_small c)

pub overflow_add-result-3 : goal.overflow_add-result-3
overflow_add-result-3 c = omega (arith, row_small c)

pub overflow_cast-result : goal.overflow_cast-result
overflow_cast-result c = omega (arith, row_small c)

pub overflow_add-result-4 : goal.overflow_add-result-4
overflow_add-result-4 c = let h = inside (goal.at.overflow_add-result-4 c).Start in omega arith

pub offset_bounds-d-y : goal.offset_bounds-d-y
offset_bounds-d-y c = let h = inside (goal.at.offset_bounds-d-y c).Start in omega arith

pub bounds-d-y : goal.bounds-d-y
bounds-d-y c = let h = inside (goal.at.bounds-d-y c).Start in omega arith

pub overflow_cast-result-2 : goal.overflow_cast-result-2
overflow_cast-result-2 c = omega (arith, c.shared_slice_known-3-1.given (index (goal.at.overflow_cast-result-2 c).Start))

pub returns : goal.returns
returns c =
    let a = c.args in
    pair_is a.d.now a.s a.k a.b a.c c.requires.0.classes
