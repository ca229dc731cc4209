-- `word_of` meets its contract: the constant at the entry's place is the one that the index tells.
use mathlib.Core.Path.{subst}
use native.Mathlib.Omega.{arith}
use lib.ListN.{get_or}
use Rattle.semantics.proofs.Tables.{nth-some}
use Rattle.image_items.specs.Stands.{ConstantAt}
use Rattle.run_image.proofs.Decoding.{constant-inside, constant-there, value-small, decoded-number, decoded-text}
use Rattle.run_image.proofs.constants.word_of.Goals as goal

pub constant-requires : goal.constant-requires
constant-requires c =
    let p = c.requires in
    let y = p.1 in
    (p.0, constant-inside y.1 c.args.k p.0 y.2)

pub unwrap-c-requires : goal.unwrap-c-requires
unwrap-c-requires c =
    let a = c.args in
    let p = c.requires in
    let y = p.1 in
    let x = nth-some y.0 a.k y.2 in
    constant-there y.1 a.k p.0 x.0 x.1 _
    (λ e. subst (ConstantAt a.image.now (get_or a.index.now a.k 0)) e c.constant.ensures)

pub overflow_add-result : goal.overflow_add-result
overflow_add-result c =
    let a = c.args in
    let p = c.requires in
    let y = p.1 in
    let x = nth-some y.0 a.k y.2 in
    let r = subst (ConstantAt a.image.now (get_or a.index.now a.k 0)) c.unwrap-c.ensures c.constant.ensures in
    omega (arith, value-small y.1 a.k p.0 x.0 x.1 c.unwrap-c.result r.found _ c.in-Number.is)

pub returns-in-Number : goal.returns-in-Number
returns-in-Number c =
    let a = c.args in
    let r = subst (ConstantAt a.image.now (get_or a.index.now a.k 0)) c.unwrap-c.ensures c.constant.ensures in
    λ xs x y e. decoded-number y a.k c.requires.0 x e c.unwrap-c.result r.found _ c.in-Number.is

pub returns-in-Text : goal.returns-in-Text
returns-in-Text c =
    let a = c.args in
    let r = subst (ConstantAt a.image.now (get_or a.index.now a.k 0)) c.unwrap-c.ensures c.constant.ensures in
    λ xs x y e. decoded-text y a.k c.requires.0 x e c.unwrap-c.result r.found r.inside _ c.in-Text.is
