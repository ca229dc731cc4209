-- `pair` meets its contract: the word lies in the row of s.
use Rattle.std.proofs.Common.{ℕ, ◌+◌, ◌*◌, ◌<◌, length, arith}
use Rattle.ere_automaton.specs.Layout.{class_in}
use Rattle.ere_automaton.proofs.States.{pair_fits, pair_is}
use Rattle.ere_automaton.proofs.blocks.pair.Goals as goal
use Rattle.ere_automaton.proofs.blocks.pair.Goals.{Start}

-- where the word is
abbrev index : Start → ℕ
index c = let a = c.args in class_in a.d.now a.b * a.k + class_in a.d.now a.c + a.k + 1 + a.s

inside : (c : Start) → index c < length c.args.d.now
inside c =
    let a = c.args in
    let p = c.requires.0 in
    pair_fits a.d.now p.ranged a.s a.k a.b a.c p.state p.classes (omega arith) (omega arith)
    c.requires.1

pub overflow_cast-y-2 : goal.overflow_cast-y-2
overflow_cast-y-2 c = omega (arith, c.shared_slice_known-1.given (24 + c.args.b))

pub overflow_mul-y : goal.overflow_mul-y
overflow_mul-y c = let h = inside (goal.at.overflow_mul-y c).Start in omega arith

pub overflow_cast-y-4 : goal.overflow_cast-y-4
overflow_cast-y-4 c = omega (arith, c.shared_slice_known-2-1.given (24 + c.args.c))

pub overflow_add-y-3 : goal.overflow_add-y-3
overflow_add-y-3 c = let h = inside (goal.at.overflow_add-y-3 c).Start in omega arith

pub overflow_add-y-4 : goal.overflow_add-y-4
overflow_add-y-4 c = let h = inside (goal.at.overflow_add-y-4 c).Start in omega arith

pub overflow_add-y-5 : goal.overflow_add-y-5
overflow_add-y-5 c = let h = inside (goal.at.overflow_add-y-5 c).Start in omega arith

pub overflow_add-result : goal.overflow_add-result
overflow_add-result c = let h = inside (goal.at.overflow_add-result c).Start in omega arith

pub offset_bounds-d-y : goal.offset_bounds-d-y
offset_bounds-d-y c = let h = inside (goal.at.offset_bounds-d-y c).Start in omega arith

pub bounds-d-y : goal.bounds-d-y
bounds-d-y c = let h = inside (goal.at.bounds-d-y c).Start in omega arith

pub overflow_cast-result : goal.overflow_cast-result
overflow_cast-result c = omega (arith, c.shared_slice_known-3-1.given (index (goal.at.overflow_cast-result c).Start))

pub returns : goal.returns
returns c =
    let a = c.args in
    pair_is a.d.now a.s a.k a.b a.c c.requires.0.classes
