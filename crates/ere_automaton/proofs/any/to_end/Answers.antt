-- `to_end` meets its contract: the bytes by twos, and one that is left.
use Rattle.std.proofs.Common.{◌≡◌, ℕ, ◌+◌, ◌-◌, ◌<◌, ◌≤◌, length, get_or, sym, refl, ap, ◌∙◌, subst, ap₂, ⊎_elim, arith, ne_eqb}
use Rattle.ere_automaton.specs.Layout.{State, later_state}
use Rattle.ere_automaton.specs.Scan.{runs}
use Rattle.ere_automaton.proofs.States.{runs-state, runs-add}
use Rattle.ere_automaton.proofs.any.to_end.Goals as goal
use Rattle.ere_automaton.proofs.any.to_end.Goals.{Joined-d-ne0}

-- before the byte that is left
at_rest : (c : Joined-d-ne0) → let d = c.args.d.now in let x = c.args.x.now in let i = c.args.i in
    (i ≤ c.if-d-ne0.from) × (c.if-d-ne0.from ≤ length x) × (c.if-d-ne0.s ≡ runs d x i (later_state d) (c.if-d-ne0.from - i))
unfolding runs
at_rest c =
    let d = c.args.d.now in
    let x = c.args.x.now in
    let i = c.args.i in
    let from = c.if-d-ne0.from in
    ⊎_elim
    (λ w. (
      omega (arith, w.from-is, c.requires.2),
      omega (arith, w.from-is),
      w.s-is ∙ w.pairs_to-s.ensures ∙ ap (λ (n : ℕ). runs d x i (later_state d) (n - i)) (sym w.from-is),
    ))
    (λ w.
    let z : 0 ≡ from - i = omega (arith, w.from-is) in (
      omega (arith, w.from-is),
      omega (arith, w.from-is, c.requires.2),
      w.s-is ∙ ap (runs d x i (later_state d)) z,
    ))
    c.if-d-ne0.branch-raw

pub overflow_cast-s : goal.overflow_cast-s
overflow_cast-s c = omega (arith, c.shared_slice_known-3-1.given 2)

pub overflow_cast-d : goal.overflow_cast-d
overflow_cast-d c = omega (arith, c.shared_slice_known-then-d-ne0-1.given 0)

pub pairs_to-s-requires : goal.pairs_to-s-requires
pairs_to-s-requires c =
    let p = c.requires in (
      record { ranged = p.0; state = p.0.later; classes = refl },
      ne_eqb _ 0 c.if-d-ne0.true,
      omega (arith, p.2),
      omega (arith, p.2),
      omega arith,
    )

pub by_bytes-requires : goal.by_bytes-requires
by_bytes-requires c =
    let w = at_rest c in
    let d = c.args.d.now in
    let x = c.args.x.now in
    let known = c.shared_slice_known-2-1 in
    let bytes : (n : ℕ) → get_or x n 0 < 256 = λ n. (known.given n).fits in (
      c.requires.0,
      subst (State d) (sym w.2)
          (runs-state d c.requires.0 x bytes c.args.i (later_state d) (c.if-d-ne0.from - c.args.i) c.requires.0.later),
      w.1,
      omega arith,
    )

pub returns : goal.returns
returns c =
    let w = at_rest (goal.at.returns c).Joined-d-ne0 in
    let d = c.args.d.now in
    let x = c.args.x.now in
    let i = c.args.i in
    let from = c.if-d-ne0.from in
    let n = length x in
    let z : from ≡ i + (from - i) = omega (arith, w.0) in
    let y : from - i + (n - from) ≡ n - i = omega (arith, w.0, w.1) in
    c.by_bytes.ensures
    ∙ ap₂ (λ (j q : ℕ). runs d x j q (n - from)) z w.2
    ∙ runs-add d x i (later_state d) (from - i) (n - from)
    ∙ ap (runs d x i (later_state d)) y
