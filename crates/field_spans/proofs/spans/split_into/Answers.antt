-- `split_into` meets its contract: n fields are written, and those from `at` on are left.
use mathlib.Core.List.{List}
use mathlib.Core.Path.{◌≡◌, refl, sym, subst}
use Prim.Native.Nat.{ℕ, suc, ◌+◌}
use native.Mathlib.Omega.{arith}
use Rattle.edition.specs.Limits.{field_count}
use Rattle.field_spans.proofs.Spreading.{Held, held_start, held_more, spread_end, spread-many, spread-empty}
use Rattle.splitting.specs.Field.{span}
use Rattle.field_spans.proofs.spans.split_into.Goals as goal

pub returns-then-text-eq0 : goal.returns-then-text-eq0
returns-then-text-eq0 c =
    let a = c.args in
    λ s m. spread-empty a.text.now s a.spans.now a.first c.if-text-eq0.true

pub loop-n-init : goal.loop-n-init
loop-n-init c =
    let a = c.args in
    λ s m. held_start a.text.now s a.spans.now a.first (omega (arith, c.if-text-eq0.false))

pub returns-in_default : goal.returns-in_default
returns-in_default c =
    let a = c.args in
    let l = c.loop-n in
    λ s m.
    spread_end a.text.now s a.spans.now a.first l.at l.n l.spans (sym (c.in_default.ensures.1 s m)) (omega arith)
    (l.invariant s m)

pub loop-n-preserved : goal.loop-n-preserved
loop-n-preserved c =
    let a = c.args in
    let l = c.loop-n in
    let f = c.in-Some.f in
    λ s m.
    subst (λ (r : List ℕ). Held a.text.now s a.spans.now a.first f.after (l.n + 1) r) (sym c.put_span.ensures)
    (held_more a.text.now s a.spans.now a.first l.at l.n l.spans (span f.start f.size) f.after
    (sym (c.in-Some.ensures.1 s m)) (l.invariant s m))

pub returns : goal.returns
returns c =
    let a = c.args in
    let l = c.loop-n in
    let e : l.n ≡ suc field_count = omega arith in
    λ s m. spread-many a.text.now s a.spans.now a.first l.at (suc field_count) l.spans refl (rw e at (l.invariant s m))
