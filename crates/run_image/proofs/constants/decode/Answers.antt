-- `decode` meets its contract. The loop's invariant: the first k words are those of the first k constants.
use mathlib.Core.Path.{refl, ◌∙◌}
use native.Mathlib.Omega.{arith}
use lib.ListN.{length-set}
use Rattle.run_image.proofs.Decoding.{words-none, words_more, words-all}
use Rattle.run_image.proofs.constants.decode.Goals as goal

pub loop-k-init : goal.loop-k-init
loop-k-init c =
    let a = c.args in
    (omega arith, refl, λ xs y. words-none a.image.now a.words.now xs)

pub word_of-requires : goal.word_of-requires
word_of-requires c =
    let y = c.requires.2 in
    (omega arith, (y.0, y.1, omega arith))

pub loop-k-preserved : goal.loop-k-preserved
loop-k-preserved c =
    let a = c.args in
    let l = c.loop-k in
    let w = c.word_of in (
      omega arith,
      length-set l.words l.k w.result ∙ l.invariant.1,
      λ xs y.
          words_more a.image.now l.words xs l.k w.result (omega arith) (l.invariant.2 xs y)
          (λ x e. w.ensures xs x y e),
    )

pub returns : goal.returns
returns c =
    let a = c.args in
    let l = c.loop-k in
    (l.invariant.1, λ xs y e. words-all a.image.now l.words xs l.k (omega arith) (l.invariant.2 xs y))
