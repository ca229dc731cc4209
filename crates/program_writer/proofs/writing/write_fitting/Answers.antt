-- `write_fitting`: one size after the other.
use mathlib.Core.Path.{sym, ◌∙◌}
use native.Mathlib.Omega.{arith}
use borrow.Author.Tests.{not-true, not-false}
use Rattle.program_writer.proofs.Storing.{judged-counts, judged-depths, judged-constants, judged-fits}
use Rattle.program_writer.proofs.writing.write_fitting.Goals as goal
use mathlib.Core.Path.{ap}
use mathlib.Core.Bool.{not}

pub returns-then-not-counts_fit : goal.returns-then-not-counts_fit
returns-then-not-counts_fit c =
    let a = c.args in
    judged-counts a.image.now a.s.now a.edition.number a.counts.variables a.constants.now
    a.counts.constants a.eres.now a.counts.eres a.begin.now a.sections.begin a.main.now
    a.sections.main a.end.now a.sections.end
    (sym c.counts_fit.ensures ∙ not-true c.counts_fit.result (ap not c.if-not-counts_fit.true))

pub returns-then-not-sections_fit : goal.returns-then-not-sections_fit
returns-then-not-sections_fit c =
    let a = c.args in
    let p = c.requires in
    let counts = sym c.counts_fit.ensures ∙ not-false c.counts_fit.result (ap not c.if-not-counts_fit.false) in
    let q = p.2 counts in
    judged-depths a.image.now a.s.now a.edition.number a.counts.variables a.constants.now
    a.counts.constants a.eres.now a.counts.eres a.begin.now a.sections.begin a.main.now
    a.sections.main a.end.now a.sections.end
    q.0 counts p.3 p.4 p.5 (sym c.sections_fit.ensures ∙ not-true c.sections_fit.result (ap not c.if-not-sections_fit.true))

pub constants_fit-requires : goal.constants_fit-requires
constants_fit-requires c =
    let a = c.args in
    let p = c.requires in
    let counts = sym c.counts_fit.ensures ∙ not-false c.counts_fit.result (ap not c.if-not-counts_fit.false) in
    let q = p.2 counts in
    (omega (arith, q.1.room), λ k h. q.1.inside k (omega (arith, h)))

pub returns-then-not-constants_fit : goal.returns-then-not-constants_fit
returns-then-not-constants_fit c =
    let a = c.args in
    let p = c.requires in
    let counts = sym c.counts_fit.ensures ∙ not-false c.counts_fit.result (ap not c.if-not-counts_fit.false) in
    let q = p.2 counts in
    judged-constants a.image.now a.s.now a.edition.number a.counts.variables a.constants.now
    a.counts.constants a.eres.now a.counts.eres a.begin.now a.sections.begin a.main.now
    a.sections.main a.end.now a.sections.end
    q.0 counts p.3 p.4 p.5 (sym c.constants_fit.ensures ∙ not-true c.constants_fit.result (ap not c.if-not-constants_fit.true))

pub write_image-requires : goal.write_image-requires
write_image-requires c =
    let a = c.args in
    let p = c.requires in
    let counts = sym c.counts_fit.ensures ∙ not-false c.counts_fit.result (ap not c.if-not-counts_fit.false) in
    let q = p.2 counts in
    (p.0, p.1, q.0, counts, q.1, q.2, q.3, p.3, p.4, p.5)

pub returns : goal.returns
returns c =
    let a = c.args in
    let p = c.requires in
    let counts = sym c.counts_fit.ensures ∙ not-false c.counts_fit.result (ap not c.if-not-counts_fit.false) in
    let q = p.2 counts in
    judged-fits a.image.now a.s.now a.edition.number a.counts.variables a.constants.now
    a.counts.constants a.eres.now a.counts.eres a.begin.now a.sections.begin a.main.now
    a.sections.main a.end.now a.sections.end
    q.0 counts p.3 p.4 p.5 (sym c.sections_fit.ensures ∙ not-false c.sections_fit.result (ap not c.if-not-sections_fit.false))
    (sym c.constants_fit.ensures ∙ not-false c.constants_fit.result (ap not c.if-not-constants_fit.false)) c.write_image.ensures
