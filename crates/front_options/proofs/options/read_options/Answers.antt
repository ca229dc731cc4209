-- `read_options`: what is read so far, and the words that are left.
use native.Mathlib.Omega.{arith}
use mathlib.Core.Path.{sym, ap}
use Rattle.front_options.specs.declared.options.Options.{Options}
use Rattle.front_words.specs.Words.{words_of}
use Rattle.front_options.specs.Reading.{read_from}
use Rattle.front_options.proofs.Walking.{read-on, read-end}
use Rattle.front_options.proofs.options.read_options.Goals as goal

pub loop-at-init : goal.loop-at-init
loop-at-init c = (omega arith, omega arith, ap (λ (x : Options). read_from x 0 (words_of c.args.block.now)) (sym c.start-o.ensures))

pub overflow_add-k : goal.overflow_add-k
overflow_add-k c = omega arith

pub slice_bounds-step-count : goal.slice_bounds-step-count
slice_bounds-step-count c = omega arith

pub loop-at-smaller : goal.loop-at-smaller
loop-at-smaller c = omega (arith, c.word_at-w.ensures.further, c.word_at-w.ensures.within)

pub loop-at-preserved : goal.loop-at-preserved
loop-at-preserved c =
    let e = c.word_at-w.ensures in
    (e.within, omega (arith, e.further), read-on c.args.block.now c.loop-at.at c.loop-at.k _ c.loop-at.o e c.loop-at.invariant.2 c.step-o.ensures)

pub returns : goal.returns
returns c = read-end c.args.block.now c.loop-at.at c.loop-at.k c.loop-at.o c.loop-at-test.false c.loop-at.invariant.2
