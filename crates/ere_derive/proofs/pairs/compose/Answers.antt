use mathlib.Core.Path.{sym, subst, ◌∙◌}
use mathlib.Core.Bool.{Bool, cond}
use borrow.Author.Tests.{eq-eqb, ne_eqb}
use Rattle.ere_derive.specs.Layout.{PutPairs}
use Rattle.ere_derive.proofs.Composed.{put-pairs-none}
use Rattle.ere_derive.proofs.Driving.{stride-paired}
use Rattle.ere_derive.proofs.pairs.compose.Goals as goal

pub put_pairs-requires : goal.put_pairs-requires
put_pairs-requires c = let p = c.requires in (p.0 ∙ sym (stride-paired c.args.k c.args.paired c.if-paired-ne0.true), p.1, p.2, p.3)

pub returns-then-paired-ne0 : goal.returns-then-paired-ne0
returns-then-paired-ne0 c = subst (λ (x : Bool). PutPairs c.args.k c.args.n c.args.stride (cond x 0 c.args.n) c.args.d.now c.put_pairs.new.d) (sym (ne_eqb c.args.paired 0 c.if-paired-ne0.true)) c.put_pairs.ensures

pub returns-else-paired-ne0 : goal.returns-else-paired-ne0
returns-else-paired-ne0 c = subst (λ (x : Bool). PutPairs c.args.k c.args.n c.args.stride (cond x 0 c.args.n) c.args.d.now c.args.d.now) (sym (eq-eqb c.args.paired 0 c.if-paired-ne0.false)) (put-pairs-none _ _ _ _)
