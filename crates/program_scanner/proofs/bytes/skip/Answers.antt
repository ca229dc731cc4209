-- `skip`: what is left to skip is what was.
use mathlib.Core.Path.{refl}
use mathlib.Core.Logic.{⊎_elim}
use lib.ListN.{length}
use Rattle.std.proofs.lemmas.Bool.Decides.{leb_tells}
use native.Mathlib.Omega.{arith}
use Rattle.program_scanner.proofs.Runs.{skipped-newline, skipped-stop, skipped-more, skipped-end}
use Rattle.program_scanner.proofs.bytes.skip.Goals as goal
use mathlib.Core.Path.{ap}
use mathlib.Core.Bool.{false, not}

pub loop-i-init : goal.loop-i-init
loop-i-init c = refl

pub returns-then-b-eq10 : goal.returns-then-b-eq10
returns-then-b-eq10 c =
    let a = c.args in
    let l = c.loop-i in
    omega (arith, l.invariant, skipped-newline a.s.now l.i l.comment (omega arith) c.if-b-eq10.true)

pub returns-then-not-comment-is_blank : goal.returns-then-not-comment-is_blank
returns-then-not-comment-is_blank c =
    let a = c.args in
    let if1 = c.if-b-eq10 in
    let l = c.loop-i in
    let blank = c.is_blank in
    omega (arith, l.invariant, skipped-stop a.s.now l.i l.comment (omega arith) if1.false blank.result blank.ensures (ap not c.if-not-comment-is_blank.true))

pub loop-i-smaller : goal.loop-i-smaller
loop-i-smaller c = omega arith

pub loop-i-preserved : goal.loop-i-preserved
loop-i-preserved c =
    let a = c.args in
    let if1 = c.if-b-eq10 in
    let l = c.loop-i in
    let blank = c.is_blank in
    omega (arith, l.invariant, skipped-more a.s.now l.i l.comment (omega arith) if1.false blank.result blank.ensures (ap not c.if-not-comment-is_blank.false))

pub returns : goal.returns
returns c =
    let a = c.args in
    let l = c.loop-i in
    let none = skipped-end a.s.now l.i l.comment (omega arith) in
    ⊎_elim
    (λ h. omega (arith, l.invariant, none, h.1))
    (λ h. omega (arith, l.invariant, none, h.1, skipped-end a.s.now a.at false (omega (arith, h.1))))
    (leb_tells a.at (length a.s.now))
