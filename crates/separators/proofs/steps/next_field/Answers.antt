-- `next_field` meets its contract, by the separator's kind.
use Rattle.separators.specs.declared.kinds.Kind.{Kind}
use Rattle.separators.specs.Kinds.{Sized, Means}
use Rattle.splitting.proofs.Turns.{next_past}
use Rattle.splitting.specs.Field.{next_field}
use Rattle.splitting.specs.Separator.{Separator}
use mathlib.Core.Path.{sym, ap, subst, ◌∙◌}
use Rattle.separators.proofs.steps.next_field.Goals as goal

pub returns-then-text-at : goal.returns-then-text-at
returns-then-text-at c = (tt, λ s m. sym (next_past c.args.text.now s c.args.at c.if-text-at.true))

pub next_by_pattern-requires : goal.next_by_pattern-requires
next_by_pattern-requires c = (subst (λ (k : Kind). Sized k c.args.t.now) c.in-Pattern.is c.requires, c.if-text-at.false)

pub returns-in-Blank : goal.returns-in-Blank
returns-in-Blank c =
    let a = c.args in (
      c.next_word.ensures.0,
      λ s m.
          let e = subst (λ (k : Kind). Means a.edition.number a.t.now k s) c.in-Blank.is m in
          c.next_word.ensures.1 ∙ ap (λ (x : Separator). next_field a.text.now x a.at) (sym e),
    )

pub returns-in-Byte : goal.returns-in-Byte
returns-in-Byte c =
    let a = c.args in (
      c.next_by_byte.ensures.0,
      λ s m.
          let e = subst (λ (k : Kind). Means a.edition.number a.t.now k s) c.in-Byte.is m in
          c.next_by_byte.ensures.1 ∙ ap (λ (x : Separator). next_field a.text.now x a.at) (sym e),
    )

pub returns-in-Pattern : goal.returns-in-Pattern
returns-in-Pattern c =
    let a = c.args in (
      c.next_by_pattern.ensures.0,
      λ s m.
          let e = subst (λ (k : Kind). Means a.edition.number a.t.now k s) c.in-Pattern.is m in
          c.next_by_pattern.ensures.1 e.0 e.2 ∙ ap (λ (x : Separator). next_field a.text.now x a.at) (sym e.1),
    )

pub returns-in-Refused : goal.returns-in-Refused
returns-in-Refused c =
    let a = c.args in
    (tt, λ s m. absurd (subst (λ (k : Kind). Means a.edition.number a.t.now k s) c.in-Refused.is m))
