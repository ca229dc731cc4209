-- `ere_at`: what is between the slashes, or nothing.
use mathlib.Core.Path.{sym, ap, subst, ◌∙◌}
use mathlib.Core.Bool.{false}
use Prim.Native.Nat.{◌+◌, ◌-◌, ◌<◌, ◌≤◌}
use native.Mathlib.Omega.{arith}
use Rattle.image_format.specs.Image.{text}
use Rattle.program_lexer.specs.declared.tokens.Token.{Token as Coded}
use Rattle.program_parser.specs.Meaning.{ere_at}
use Rattle.program_entries.specs.Named.{Stands}
use Rattle.program_entries.proofs.Spans.{span-ready, span-coded, starts, ere-none, ere-stands}
use Rattle.program_entries.proofs.entries.ere_at.Goals as goal

pub as_ere-t-requires : goal.as_ere-t-requires
as_ere-t-requires c =
    let a = c.args in
    span-ready a.edition.number a.s.now a.x c.token_of.result c.token_of.ensures c.requires

pub overflow_add-t : goal.overflow_add-t
overflow_add-t c =
    let a = c.args in
    let t = c.token_of in
    let u = c.as_ere-t in
    let q = span-coded a.edition.number a.s.now a.x t.result u.result t.ensures u.ensures in
    let at = ap (λ (u : Coded). u.start) q ∙ starts a.edition.number a.s.now a.x in
    record { fits = omega (arith, at, c.requires) }

pub returns-then-t : goal.returns-then-t
returns-then-t c =
    let a = c.args in
    let t = c.token_of in
    let u = c.as_ere-t in
    let q = span-coded a.edition.number a.s.now a.x t.result u.result t.ensures u.ensures in
    ere-none a.edition.number a.s.now a.x c.requires
    (subst (λ (u : Coded). u.stop < u.start + 2) q c.if-t.true)

pub returns : goal.returns
returns c =
    let a = c.args in
    let t = c.token_of in
    let u = c.as_ere-t in
    let q = span-coded a.edition.number a.s.now a.x t.result u.result t.ensures u.ensures in
    subst (λ (u : Coded).
    Stands a.s.now false (text (ere_at a.edition.number a.s.now a.x))
    (record { value = a.x + 1; stop = u.stop - 1 })) (sym q)
    (ere-stands a.edition.number a.s.now a.x c.requires
    (subst (λ (u : Coded). u.start + 2 ≤ u.stop) q c.if-t.false))
