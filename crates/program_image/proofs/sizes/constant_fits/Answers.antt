-- `constant_fits`: a number, or a text by its length.
use mathlib.Core.Path.{sym, ap, subst, ◌∙◌}
use mathlib.Core.Bool.{true}
use Prim.Native.Nat.{ℕ}
use lib.Dec.{leb}
use Rattle.edition.specs.Limits.{text_bytes}
use Rattle.semantics.specs.Check.{small_constant}
use Rattle.program_tables.specs.declared.tables.Entry.{Entry}
use Rattle.program_tables.specs.Tables.{meant, InsideText}
use Rattle.program_image.proofs.Judged.{number_small, text-small}
use Rattle.program_image.proofs.sizes.constant_fits.Goals as goal

pub returns-then-e-eq0 : goal.returns-then-e-eq0
returns-then-e-eq0 c =
    let s = c.args.s.now in
    let e = c.entry_in-e in
    let same = ap (λ (x : Entry). small_constant (meant s true x)) (sym e.ensures) in
    sym (same ∙ number_small s e.result c.if-e-eq0.true)

pub value_length-requires : goal.value_length-requires
value_length-requires c =
    let p = c.requires in
    let a = c.args in
    subst (InsideText a.s.now) (sym c.entry_in-e.ensures) p.1

pub returns : goal.returns
returns c =
    let s = c.args.s.now in
    let e = c.entry_in-e in
    let same = ap (λ (x : Entry). small_constant (meant s true x)) (sym e.ensures) in
    ap (λ (n : ℕ). leb n text_bytes) c.value_length.ensures
    ∙ sym (same ∙ text-small s e.result c.if-e-eq0.false)
