-- `search`: by what `compile` and `find_from` answer.
use mathlib.Core.Path.{ap, subst}
use native.Mathlib.Omega.{arith}
use borrow.Author.Tests.{not-true, not-false}
use Rattle.edition.specs.Limits.{first_edition}
use Rattle.ere.specs.Answer.{Compiles}
use Rattle.ere.proofs.Serving.{searched-bad, searched-long, searched-found}
use Rattle.ere.proofs.matching.search.Goals as goal
use mathlib.Core.Bool.{not}

pub returns-then-not-compile : goal.returns-then-not-compile
returns-then-not-compile c =
    let a = c.args in
    let o = not-true _ (ap not c.if-not-compile.true) in
    let r = subst (Compiles first_edition a.ere.now _) o c.compile.ensures in
    searched-bad first_edition a.ere.now a.text.now _ r

pub returns-then-text-gt-TEXT : goal.returns-then-text-gt-TEXT
returns-then-text-gt-TEXT c =
    let a = c.args in
    let o = not-false _ (ap not c.if-not-compile.false) in
    let r = subst (Compiles first_edition a.ere.now _) o c.compile.ensures in
    searched-long first_edition a.ere.now a.text.now _ r (omega (arith, c.if-text-gt-TEXT.true))

pub returns : goal.returns
returns c =
    let a = c.args in
    let o = not-false _ (ap not c.if-not-compile.false) in
    let r = subst (Compiles first_edition a.ere.now _) o c.compile.ensures in
    searched-found first_edition a.ere.now a.text.now _ r (omega (arith, c.if-text-gt-TEXT.false))
    (λ i h. (c.shared_slice_known-2-1.given i).fits) c.find_from.result c.find_from.ensures
