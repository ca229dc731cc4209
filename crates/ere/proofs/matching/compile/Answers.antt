-- `compile`: too long, not read, not read to the end, or a table that serves.
use mathlib.Core.Path.{◌≡◌, sym, ap, subst, ◌∙◌}
use mathlib.Core.Bool.{true}
use mathlib.Core.List.{List}
use Prim.Native.Nat.{ℕ}
use native.Mathlib.Omega.{arith}
use lib.ListN.{length}
use Rattle.ere_table.specs.Table.{table_words}
use Rattle.ere_table.specs.Build.{with_row, sealed}
use Rattle.ere_table.proofs.Tables.{finished}
use Rattle.ere.specs.Answer.{Compiles}
use Rattle.ere.proofs.Whole.{ere-long, group-bad, group-open, group-whole, group-serves, compiles-none, compiles-some}
use Rattle.ere.proofs.matching.compile.Goals as goal

pub returns-then-end-gt-ERE_BYTES : goal.returns-then-end-gt-ERE_BYTES
returns-then-end-gt-ERE_BYTES c = compiles-none (ere-long c.args.edition.number c.args.ere.now c.if-end-gt-ERE_BYTES.true)

pub returns-in_default : goal.returns-in_default
returns-in_default c =
    let a = c.args in
    let q = c.in_default.ensures in
    compiles-none (group-bad a.edition.number a.ere.now c.if-end-gt-ERE_BYTES.false q.1)

pub returns-then-g-end : goal.returns-then-g-end
returns-then-g-end c =
    let a = c.args in
    compiles-none (group-open a.edition.number a.ere.now c.if-end-gt-ERE_BYTES.false a.t.now _ _ c.in-Some.ensures c.if-g-end.true)

pub returns : goal.returns
returns c =
    let a = c.args in
    let l = a.ere.now in
    let d = a.edition.number in
    let g = c.in-Some.g in
    let u : List ℕ = c.read_group.new.t in
    let q = c.in-Some.ensures in
    let full : length u ≡ table_words = omega (arith, c.read_group.auto.t, c.requires) in
    let same : c.put_first_bytes.new.t ≡ finished u g.entry.first g.entry.later =
    c.put_first_bytes.ensures ∙ ap sealed (c.put_row-2.ensures ∙ ap (λ (x : List ℕ). with_row x 1 g.entry.later) c.put_row.ensures) in
    subst (λ (x : List ℕ). Compiles d l x true) (sym same)
    (compiles-some q.read.0 (group-whole d l c.if-end-gt-ERE_BYTES.false a.t.now u g q (omega arith)) (group-serves d l c.if-end-gt-ERE_BYTES.false a.t.now u g q full))
