-- `enter_specials`: a number a turn.
use mathlib.Core.Path.{◌≡◌, refl, ap, ◌∙◌}
use mathlib.Core.List.{List}
use Prim.Native.Nat.{ℕ, ◌+◌, ◌*◌}
use native.Mathlib.Omega.{arith}
use lib.ListN.{set, length-set}
use Rattle.program_entries.specs.Variables.{special_count, numbers_in}
use Rattle.program_entries.proofs.Holding.{number_more}
use Rattle.program_entries.proofs.variables.enter_specials.Goals as goal

pub loop-k-init : goal.loop-k-init
unfolding numbers_in
loop-k-init c = (omega arith, (refl, refl))

pub bounds-table-k-in-loop-k : goal.bounds-table-k-in-loop-k
bounds-table-k-in-loop-k c =
    let l = c.loop-k in
    omega (arith, length-set l.table (2 * l.k) l.k, l.invariant.1.1, c.loop-k-test.true, c.requires)

pub loop-k-preserved : goal.loop-k-preserved
loop-k-preserved c =
    let t = c.args.table.now in
    let l = c.loop-k in
    let below = c.loop-k-test.true in (
      omega (arith, below),
      (
        ap (λ (u : List ℕ). set (set u (2 * l.k) l.k) (2 * l.k + 1) 0) l.invariant.1.0
            ∙ number_more l.k t (omega (arith, below, c.requires)),
        length-set (set l.table (2 * l.k) l.k) (2 * l.k + 1) 0
            ∙ (length-set l.table (2 * l.k) l.k ∙ l.invariant.1.1),
      ),
    )

pub returns : goal.returns
returns c =
    let l = c.loop-k in
    let all : l.k ≡ special_count = omega (arith, l.invariant.0, c.loop-k-test.false) in
    l.invariant.1.0 ∙ ap (λ (k : ℕ). numbers_in k c.args.table.now) all
