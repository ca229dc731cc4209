-- `find_word` meets its contract: word k is the word of what is left of k, from where the walk is.
use native.Mathlib.Omega.{arith}
use mathlib.Core.Path.{◌≡◌, ap, ◌∙◌}
use Prim.Native.Nat.{◌+◌, ◌-◌}
use lib.ListN.{drop}
use Rattle.front_words.specs.Words.{words_of, word_in}
use Rattle.front_words.proofs.Walking.{span_none, word_next, span_of}
use Rattle.front_words.proofs.words.find_word.Goals as goal

pub returns-then-block-at : goal.returns-then-block-at
returns-then-block-at c =
    let a = c.args in
    let n = c.loop-passed in
    span_none a.block.now n.at (a.k - n._passed) 0 a.k c.if-block-at.true n.invariant.0 n.invariant.1

pub loop-passed-preserved : goal.loop-passed-preserved
loop-passed-preserved c =
    let a = c.args in
    let n = c.loop-passed in
    let w = c.word_at-w.result in
    let z : a.k - n._passed - 1 ≡ a.k - (n._passed + 1) = omega arith in (
      c.word_at-w.ensures.within,
      n.invariant.1 ∙ word_next a.block.now n.at (a.k - n._passed) _ c.word_at-w.ensures (omega arith)
          ∙ ap (word_in (words_of (drop w.next a.block.now))) z,
    )

pub returns : goal.returns
returns c =
    let a = c.args in
    let b = a.block.now in
    let n = c.loop-passed in
    let z : a.k - n._passed ≡ 0 = omega arith in
    span_of b n.at a.k (n.invariant.1 ∙ ap (word_in (words_of (drop n.at b))) z) c.span_at.ensures
