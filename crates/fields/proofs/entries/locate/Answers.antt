-- `locate` meets its contract, by what `split_record` answers, and by k.
use mathlib.Core.Path.{ap, ◌∙◌}
use Prim.Native.Nat.{ℕ}
use native.Mathlib.Omega.{arith}
use lib.ListN.{length}
use Rattle.std.proofs.lemmas.Result.{err_from_is_err_and}
use Rattle.edition.specs.Limits.{first_edition}
use Rattle.splitting.specs.Splitting.{split_of}
use Rattle.field_spans.specs.Spread.{room_of}
use Rattle.fields.proofs.Inside.{located-whole, located-past, located-field}
use Rattle.fields.proofs.Entering.{no_span}
use Rattle.fields.proofs.entries.locate.Goals as goal

pub returns-in_err-n : goal.returns-in_err-n
returns-in_err-n c =
    let a = c.args in
    let l = a.«record».now in
    let w = c.in_err-n.ensures.0 in
    let p = err_from_is_err_and c.from_residual.result c.from_residual.ensures.1 in
    rw (p.1, p.2) (w, no_span (length l) a.k (split_of first_edition a.separator.now l) c.in_err-n.field-0.0 w)

pub returns-then-k-eq0 : goal.returns-then-k-eq0
returns-then-k-eq0 c =
    let a = c.args in
    let h = c.in_ok-n.ensures.0 in
    (h, located-whole first_edition a.separator.now a.«record».now a.«record».now a.k _ h c.if-k-eq0.true)

pub returns-then-k-n : goal.returns-then-k-n
returns-then-k-n c =
    let a = c.args in
    let w = c.in_ok-n.ensures in
    let h = w.0 in
    let l = a.«record».now in
    let e = w.1 ∙ ap (λ (n : ℕ). room_of first_edition a.separator.now l n _) c.saturating_sub.ensures in
    (h, located-field first_edition a.separator.now l _ a.k _ h _ e (omega arith) c.if-k-eq0.false c.if-k-n.true)

pub returns : goal.returns
returns c =
    let a = c.args in
    let h = c.in_ok-n.ensures.0 in
    (h, located-past first_edition a.separator.now a.«record».now a.«record».now a.k _ h (omega (arith, c.if-k-n.false)))
