-- `read_stripped`: the prefix, what comes after it, and the judgement.
use mathlib.Core.Path.{◌≡◌, ap, ap₂, ◌∙◌}
use mathlib.Core.Bool.{cond, false}
use Prim.Native.Nat.{ℕ, ◌+◌}
use native.Mathlib.Omega.{arith}
use lib.Dec.{eqb}
use lib.ListN.{length, drop, length-drop}
use Rattle.lists.proofs.Leading.{leading_le}
use Rattle.lists.specs.Elements.{leading}
use Rattle.buffer.proofs.Lent.{tail-lent}
use Rattle.numeral.specs.Form.{is_blank, prefix_length, blank_after}
use Rattle.numeral.proofs.Prefixes.{prefix-inside}
use Rattle.numeral.proofs.Judging.{prefix-judged}
use Rattle.numeral.proofs.reading.read_stripped.Goals as goal
use Rattle.numeral.proofs.reading.read_stripped.Goals.{After-count_blanks-blanks}

-- the blanks after the prefix
blanks : (c : After-count_blanks-blanks) → c.count_blanks-blanks.result ≡ leading is_blank (drop (prefix_length c.args.t.now) c.args.t.now)
blanks c =
    let t = c.args.t.now in
    c.count_blanks-blanks.ensures
    ∙ ap (leading is_blank) (tail-lent t c.read_prefix-p.result.length)
    ∙ ap (λ (n : ℕ). leading is_blank (drop n t)) c.read_prefix-p.ensures.sized

pub slice_bounds-count_blanks-count : goal.slice_bounds-count_blanks-count
slice_bounds-count_blanks-count c = omega (arith, prefix-inside c.args.t.now)

pub slice_bounds-count_blanks-start : goal.slice_bounds-count_blanks-start
slice_bounds-count_blanks-start c = omega (arith, prefix-inside c.args.t.now)

pub fills-requires : goal.fills-requires
fills-requires c =
    let t = c.args.t.now in
    let n = prefix_length t in
    omega (arith, blanks c, prefix-inside t, leading_le is_blank (drop n t), length-drop n t)

pub returns : goal.returns
unfolding blank_after
returns c =
    let t = c.args.t.now in
    let p = c.read_prefix-p.ensures in
    record {
      prefix = p.sized;
      look =
          c.fills.ensures
          ∙ ap₂ (λ (n b : ℕ). cond (eqb n 0) false (eqb (n + b) (length t))) p.sized (blanks (goal.at.returns c).After-count_blanks-blanks);
      number =
          record {
            answer =
                c.judge.ensures.answer
                ∙ prefix-judged t p.signed p.whole_valued p.fraction_valued;
            bounded = c.judge.ensures.bounded;
          };
    }
