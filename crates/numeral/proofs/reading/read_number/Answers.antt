-- `read_number`: the text after its leading blanks.
use mathlib.Core.Path.{ap, ◌∙◌}
use mathlib.Core.List.{List}
use Prim.Native.Nat.{ℕ}
use native.Mathlib.Omega.{arith}
use lib.ListN.{drop}
use Rattle.lists.proofs.Leading.{leading_le}
use Rattle.buffer.proofs.Lent.{tail-lent}
use Rattle.numeral.specs.Form.{is_blank, after_blanks, prefix_length, blank_after, looks_numeric}
use Rattle.numeral.specs.Judgement.{prefix_number, number_of}
use Rattle.numeral.proofs.reading.read_number.Goals as goal

pub slice_bounds-read_stripped-count : goal.slice_bounds-read_stripped-count
slice_bounds-read_stripped-count c = omega (arith, leading_le is_blank c.args.t.now)

pub slice_bounds-read_stripped-start : goal.slice_bounds-read_stripped-start
slice_bounds-read_stripped-start c = omega (arith, leading_le is_blank c.args.t.now)

pub returns : goal.returns
unfolding after_blanks looks_numeric number_of
returns c =
    let t = c.args.t.now in
    let e = tail-lent t c.count_blanks-from.result ∙ ap (λ (n : ℕ). drop n t) c.count_blanks-from.ensures in
    let r = c.read_stripped.ensures in
    record {
      prefix = r.prefix ∙ ap prefix_length e;
      look = r.look ∙ ap (λ (u : List ℕ). blank_after (prefix_length u) u) e;
      number = record { answer = r.number.answer ∙ ap prefix_number e; bounded = r.number.bounded };
    }
