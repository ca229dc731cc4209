-- `entry_at` meets its contract, by the kind.
use mathlib.Core.Path.{sym, subst}
use Rattle.image_index.specs.Lists.{EntryAt}
use Rattle.image_index.specs.declared.indexes.Kind.{Kind}
use Rattle.image_index.proofs.indexes.entry_at.Goals as goal

pub returns-in-Constants : goal.returns-in-Constants
returns-in-Constants c =
    let a = c.args in
    subst (λ (k : Kind). EntryAt a.edition k a.image.now a.at c.constant_entry.result) (sym c.in-Constants.is) c.constant_entry.ensures

pub returns-in-Eres : goal.returns-in-Eres
returns-in-Eres c =
    let a = c.args in
    subst (λ (k : Kind). EntryAt a.edition k a.image.now a.at c.ere_entry.result) (sym c.in-Eres.is) c.ere_entry.ensures

pub returns-in-Instructions : goal.returns-in-Instructions
returns-in-Instructions c =
    let a = c.args in
    subst (λ (k : Kind). EntryAt a.edition k a.image.now a.at c.instruction_entry.result) (sym c.in-Instructions.is) c.instruction_entry.ensures
