-- `turn`: each kind of turn that reads no group is a move, or a refusal.
use mathlib.Core.Path.{refl, sym}
use native.Mathlib.Omega.{arith}
use Rattle.ere_parser.proofs.Moving.{moves-bol, moves-eol}
use Rattle.ere_parser.proofs.Items.{moves-choice, moved}
use Rattle.ere_parser.proofs.reader.turn.Goals as goal

pub choice-requires : goal.choice-requires
choice-requires c = omega (arith, c.requires.1, c.requires.2)

pub returns-then-b-eq124 : goal.returns-then-b-eq124
returns-then-b-eq124 c =
    let a = c.args in
    let s = a.s in
    λ n. moved a.ere.now n a.t.now s (sym c.choice.ensures) refl (moves-choice a.t.now s c.requires.5 c.requires.2 n c.if-b-eq124.true)

pub anchor-requires : goal.anchor-requires
anchor-requires c =
    (c.requires.0, c.requires.5.order, omega (arith, c.requires.5.fewer, c.requires.5.few), omega (arith, c.requires.2, c.requires.1))

pub returns-then-b-eq94 : goal.returns-then-b-eq94
returns-then-b-eq94 c =
    let a = c.args in
    let s = a.s in
    λ n. moved a.ere.now n a.t.now s (sym c.anchor.ensures.0) (sym c.anchor.ensures.1)
    (moves-bol n a.t.now s c.requires.5 c.requires.0 c.requires.2 c.if-b-eq94.true)

pub anchor-requires-then-b-eq36 : goal.anchor-requires-then-b-eq36
anchor-requires-then-b-eq36 c =
    (c.requires.0, c.requires.5.order, omega (arith, c.requires.5.fewer, c.requires.5.few), omega (arith, c.requires.2, c.requires.1))

pub returns-then-b-eq36 : goal.returns-then-b-eq36
returns-then-b-eq36 c =
    let a = c.args in
    let s = a.s in
    λ n. moved a.ere.now n a.t.now s (sym c.anchor-then-b-eq36.ensures.0) (sym c.anchor-then-b-eq36.ensures.1)
    (moves-eol n a.t.now s c.requires.5 c.requires.0 c.requires.2 c.if-b-eq36.true)

pub atom-requires : goal.atom-requires
atom-requires c = (
  c.requires.0,
  c.requires.1,
  c.requires.2,
  c.requires.5,
  record {
    no_close = λ e. c.requires.3 e;
    no_bar = λ e. c.if-b-eq124.false e;
    no_bol = λ e. c.if-b-eq94.false e;
    no_eol = λ e. c.if-b-eq36.false e;
    no_open = λ e. c.requires.4 e;
  },
)
