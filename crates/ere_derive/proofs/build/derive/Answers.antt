-- `derive` meets its contract: classes and ranges, what is known of the matches' bytes, and then rows.
use mathlib.Core.Path.{◌∙◌}
use Prim.Native.Nat.{◌+◌}
use native.Mathlib.Omega.{arith}
use Rattle.ere_classes.proofs.Bounded.{classified-on, hull-on}
use Rattle.ere_derive.proofs.Driving.{derived-all}
use Rattle.ere_derive.proofs.build.derive.Goals as goal

pub put_word-requires : goal.put_word-requires
put_word-requires c =
    let S = c.in_ok-k.ensures in
    let P = S.prepared in
    let K = P.classified in
    (c.requires.0, omega (arith, K.few, S.byte_size), omega (arith, S.size, P.head), K, P.plain)

pub finish-requires : goal.finish-requires
finish-requires c =
    let p = c.requires in
    let S = c.in_ok-k.ensures in
    let P = S.prepared in
    let K = P.classified in
    let W = c.put_word.ensures in
    let F = W.frame in (
      p.0,
      omega (arith, K.few, S.byte_size),
      omega (arith, F.size, S.size, P.head),
      omega (arith, F.size, S.size, p.1),
      classified-on _ (λ b h. F.above (24 + b) (omega arith)) K,
      hull-on _ (λ i g h. F.below i (omega arith)) (F.below 14 (omega arith)) P.hull,
      W.tests,
    )

pub returns : goal.returns
returns c =
    let a = c.args in
    let W = c.put_word.ensures in
    derived-all a.t.now a.d.now _ _ (W.frame.size ∙ c.in_ok-k.ensures.size) W.shape c.finish.result c.finish.ensures
