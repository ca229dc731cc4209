use mathlib.Core.Path.{ap, ◌∙◌}
use Prim.Native.Nat.{ℕ}
use Rattle.program_parser.specs.Reading.{refusal}
use Rattle.program_parser.proofs.Codes.{refused-bad, refused-ere, refused-place}
use Rattle.program_parser.proofs.read.refuse.Goals as goal

pub returns-then-kind-eq-BAD : goal.returns-then-kind-eq-BAD
returns-then-kind-eq-BAD c = c.no.ensures ∙ ap (λ (x : ℕ). refusal x c.args.t.start) (refused-bad c.args.t c.requires c.if-kind-eq-BAD.true)

pub returns-then-kind-eq-BAD_ERE : goal.returns-then-kind-eq-BAD_ERE
returns-then-kind-eq-BAD_ERE c = c.no-then-kind-eq-BAD_ERE.ensures ∙ ap (λ (x : ℕ). refusal x c.args.t.start) (refused-ere c.args.t c.requires c.if-kind-eq-BAD.false c.if-kind-eq-BAD_ERE.true)

pub returns : goal.returns
returns c = c.no-2.ensures ∙ ap (λ (x : ℕ). refusal x c.args.t.start) (refused-place c.args.t c.requires c.if-kind-eq-BAD.false c.if-kind-eq-BAD_ERE.false)
