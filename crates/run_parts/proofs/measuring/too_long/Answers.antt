-- `too_long` meets its contract: by the bound, or else by the size.
use native.Mathlib.Omega.{arith}
use mathlib.Core.Bool.{false≢true}
use borrow.Author.Tests.{ltb-true, ltb-false}
use Rattle.edition.specs.Limits.{text_bytes}
use Rattle.run_parts.proofs.measuring.too_long.Goals as goal

pub returns-then-surely_fits : goal.returns-then-surely_fits
returns-then-surely_fits c =
    record { short = λ z b e. c.surely_fits.ensures c.if-surely_fits.true c.args.k b e; long = λ z. absurd (false≢true z) }

pub returns : goal.returns
returns c =
    let m = c.measure.ensures in
    let r = c.measure.result in
    record {
      short = λ z b e. omega (arith, ltb-false text_bytes r z, m.short (ltb-false text_bytes r z) b e);
      long = λ z b e. m.long (ltb-true text_bytes r z) b e;
    }
