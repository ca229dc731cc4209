-- `enter_variables`: a token a turn.
use mathlib.Core.Path.{refl}
use borrow.Author.Rules.{rules}
use Rattle.program_entries.proofs.Turns.{first-ready, turn-first, turn_inside, turn-word, turn-few, turn-done, turn-less, turn_more}
use Rattle.program_entries.proofs.variables.enter_variables.Goals as goal

pub enter_specials-requires : goal.enter_specials-requires
enter_specials-requires c = c.requires.1

pub as_ere-t-requires : goal.as_ere-t-requires
as_ere-t-requires c =
    let a = c.args in
    let u = c.token_at in
    first-ready a.edition.number a.s.now u.result u.ensures c.requires.0

pub loop-t-init : goal.loop-t-init
loop-t-init c =
    let a = c.args in
    let u = c.token_at in
    let t = c.as_ere-t in
    let k = c.enter_specials in (
      turn-first a.edition.number a.s.now u.result u.ensures t.result a.table.now k.new.table
          t.ensures c.requires.1 k.ensures,
      refl,
    )

pub enter_name-n-requires : goal.enter_name-n-requires
enter_name-n-requires c =
    let a = c.args in
    let l = c.loop-t in (
      turn_inside a.edition.number a.s.now l.table l.t l.parens l.n l.invariant.0,
      turn-word a.edition.number a.s.now l.table l.t l.parens l.n l.invariant.0 c.requires.2,
      c.requires.0,
    )

pub next_token-u-requires : goal.next_token-u-requires
next_token-u-requires c =
    let l = c.loop-t in
    (l.invariant.0.known, l.invariant.0.walked, c.requires.0)

pub open_after-parens-requires : goal.open_after-parens-requires
open_after-parens-requires c =
    let a = c.args in
    let l = c.loop-t in
    let small = c.requires.0 in
    (l.invariant.0.known, turn-few a.edition.number a.s.now l.table l.t l.parens l.n l.invariant.0 small)

pub loop-t-smaller : goal.loop-t-smaller
loop-t-smaller c =
    let if1 = c.loop-t-test in
    let a = c.args in
    let l = c.loop-t in
    let n = c.enter_name-n in
    let u = c.next_token-u in
    let p = c.open_after-parens in
    turn-less a.edition.number a.s.now l.table l.t l.parens l.n l.invariant.0 if1.true
    n.new.table n.result n.ensures u.result u.ensures p.result p.ensures

pub loop-t-preserved : goal.loop-t-preserved
loop-t-preserved c =
    let if1 = c.loop-t-test in
    let a = c.args in
    let l = c.loop-t in
    let n = c.enter_name-n in
    let u = c.next_token-u in
    let p = c.open_after-parens in (
      turn_more a.edition.number a.s.now l.table l.t l.parens l.n l.invariant.0 if1.true
          n.new.table n.result n.ensures u.result u.ensures p.result p.ensures,
      search rules,
    )

pub returns : goal.returns
returns c =
    let a = c.args in
    let l = c.loop-t in
    turn-done a.edition.number a.s.now l.table l.t l.parens l.n l.invariant.0 c.loop-t-test.false
