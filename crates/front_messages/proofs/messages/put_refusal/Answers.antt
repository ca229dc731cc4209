-- `put_refusal`: its parts, one after the other.
use native.Mathlib.Omega.{arith}
use mathlib.Core.Path.{ap₂}
use Prim.Native.Nat.{ℕ}
use Rattle.front_lines.specs.Messages.{place_text, refusal_text}
use Rattle.front_lines.proofs.Putting.{follow, puts_of}
use Rattle.front_messages.proofs.messages.put_refusal.Goals as goal

pub put_place-a-requires : goal.put_place-a-requires
put_place-a-requires c = omega (arith, c.requires)

pub put_outcome-b-requires : goal.put_outcome-b-requires
put_outcome-b-requires c = omega (arith, c.requires)

pub put_text-c-requires : goal.put_text-c-requires
put_text-c-requires c = omega (arith, c.requires)

pub put_caret-requires : goal.put_caret-requires
put_caret-requires c =
    (omega (arith, c.requires, c.put_place-a.ensures, c.put_outcome-b.ensures, c.put_text-c.ensures), c.requires.1, c.requires.2)

pub returns : goal.returns
unfolding refusal_text
returns c =
    follow ((puts_of (ap₂ (λ (x y : ℕ). place_text c.args.name.now x y) c.line_at-line.ensures c.column_at-column.ensures) c.put_place-a.ensures.0)) (follow c.put_outcome-b.ensures.0 (follow c.put_text-c.ensures c.put_caret.ensures))
