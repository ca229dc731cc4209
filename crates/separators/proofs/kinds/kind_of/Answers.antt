-- `kind_of` meets its contract, by the separator's length and its first byte.
use Rattle.separators.proofs.Separating.{of_none, of-blank, of-byte}
use Rattle.splitting.specs.Separator.{blank, blanks, byte}
use native.Mathlib.Omega.{arith}
use mathlib.Core.Path.{refl}
use Rattle.separators.proofs.kinds.kind_of.Goals as goal

pub returns-then-separator-eq0 : goal.returns-then-separator-eq0
returns-then-separator-eq0 c = (of_none c.args.edition.number c.args.separator.now c.if-separator-eq0.true, tt)

pub by_pattern-requires : goal.by_pattern-requires
by_pattern-requires c = (c.if-separator-gt1.true, c.requires c.if-separator-gt1.true)

pub returns-then-b-eq32 : goal.returns-then-b-eq32
returns-then-b-eq32 c =
    let a = c.args in
    ((blank (blanks a.edition.number), of-blank a.edition.number a.separator.now (omega (arith, c.if-separator-eq0.false)) (omega (arith, c.if-separator-gt1.false)) c.if-b-eq32.true, refl), tt)

pub returns : goal.returns
returns c =
    let a = c.args in
    ((byte _, of-byte a.edition.number a.separator.now (omega (arith, c.if-separator-eq0.false)) (omega (arith, c.if-separator-gt1.false)) c.if-b-eq32.false, refl), tt)
