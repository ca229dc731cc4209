-- `value_at`: an escape, or any other byte.
use mathlib.Core.Path.{sym, ap, ◌∙◌}
use mathlib.Core.List.{◌∷◌}
use Prim.Native.Nat.{ℕ, ◌+◌}
use native.Mathlib.Omega.{arith}
use Rattle.program_tables.specs.Texts.{value_in}
use Rattle.program_tables.proofs.Values.{value-escape, value-plain, escape-inside}
use Rattle.program_tables.proofs.texts.value_at.Goals as goal

pub bounds-s-j : goal.bounds-s-j
bounds-s-j c =
    let a = c.args in
    omega (arith, c.requires.1, escape-inside a.s.now a.i a.stop a.escapes c.if-escapes-b.true)

pub returns-then-escapes-b : goal.returns-then-escapes-b
returns-then-escapes-b c =
    let a = c.args in
    let t = c.if-escapes-b.true in
    let inside = escape-inside a.s.now a.i a.stop a.escapes t in
    record {
      further = omega arith;
      within = omega (arith, inside);
      one =
          value-escape a.s.now a.i a.stop c.requires.0 c.requires.1 a.escapes t
          ∙ ap (λ (x : ℕ). x ∷ value_in a.s.now a.escapes (a.i + 1 + 1) a.stop) (sym c.unescaped.ensures);
    }

pub returns : goal.returns
returns c =
    let a = c.args in
    record {
      further = omega arith;
      within = omega (arith, c.requires.0);
      one = value-plain a.s.now a.i a.stop c.requires.0 c.requires.1 a.escapes c.if-escapes-b.false;
    }
