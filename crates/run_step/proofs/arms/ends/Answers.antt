-- `ends` meets its contract, section by section.
use mathlib.Core.Path.{sym, ap, ◌∙◌}
use Prim.Native.Nat.{◌≤◌}
use native.Mathlib.Omega.{arith}
use Rattle.semantics.specs.Moves.{Section}
use Rattle.run_step.specs.Machine.{section_by, ended_in}
use Rattle.run_step.proofs.Advance.{last-section}
use Rattle.run_step.proofs.arms.ends.Goals as goal

pub returns-then-section-eq-BEGIN : goal.returns-then-section-eq-BEGIN
returns-then-section-eq-BEGIN c =
    let a = c.args in
    c.stop.ensures ∙ ap (λ (s : Section). ended_in s a.m) (sym (ap section_by c.if-section-eq-BEGIN.true))

pub returns-then-section-eq-MAIN : goal.returns-then-section-eq-MAIN
returns-then-section-eq-MAIN c =
    let a = c.args in
    c.go_to.ensures ∙ ap (λ (s : Section). ended_in s a.m) (sym (ap section_by c.if-section-eq-MAIN.true))

pub returns : goal.returns
returns c =
    let a = c.args in
    let h : 2 ≤ a.section = omega (arith, c.if-section-eq-BEGIN.false, c.if-section-eq-MAIN.false) in
    c.stop-2.ensures ∙ ap (λ (s : Section). ended_in s a.m) (sym (last-section a.section h))
