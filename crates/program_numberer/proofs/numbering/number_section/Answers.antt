-- `number_section`: a word a turn.
use mathlib.Core.Path.{refl}
use Prim.Native.Nat.{◌<◌}
use native.Mathlib.Omega.{arith}
use lib.ListN.{length}
use borrow.Author.Rules.{rules}
use Rattle.program_numberer.proofs.Turns.{section-start, section-room, section-some, section-more, section-done}
use Rattle.program_numberer.proofs.numbering.number_section.Goals as goal

pub loop-i-init : goal.loop-i-init
loop-i-init c =
    let a = c.args in
    (omega arith, refl, refl, section-start a.edition.number a.s.now a.what a.section.now a.table.now a.n)

pub number_word-m-requires : goal.number_word-m-requires
number_word-m-requires c =
    let a = c.args in
    let p = c.requires in
    let l = c.loop-i in
    let below : l.i < length a.section.now = omega (arith, c.loop-i-test.true, p.1) in (
      p.0,
      section-room a.edition.number a.s.now a.what a.section.now a.table.now a.n l.i below
          l.section l.table l.m l.invariant.3 l.invariant.1,
      omega (arith, l.invariant.1, p.2),
      section-some a.edition.number a.s.now a.what a.section.now a.table.now a.n l.i below
          l.section l.table l.m l.invariant.3 l.invariant.1 p.3,
      p.4,
    )

pub loop-i-preserved : goal.loop-i-preserved
loop-i-preserved c =
    let a = c.args in
    let l = c.loop-i in
    let w = c.number_word-m in
    let below : l.i < length a.section.now = omega (arith, c.loop-i-test.true, c.requires.1) in (
      omega (arith, c.loop-i-test.true),
      search rules,
      search rules,
      section-more a.edition.number a.s.now a.what a.section.now a.table.now a.n l.i below
          l.section l.table l.m l.invariant.3 l.invariant.1 _ _ w.result w.ensures,
    )

pub returns : goal.returns
returns c =
    let a = c.args in
    let l = c.loop-i in
    section-done a.edition.number a.s.now a.what a.section.now a.table.now a.n l.i a.count
    l.section l.table l.m l.invariant.0 c.loop-i-test.false l.invariant.3
