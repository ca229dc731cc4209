-- `text_order` meets its contract: both texts are shown, and compared where they are.
use mathlib.Core.Path.{ap₂, ◌∙◌}
use Rattle.buffer.specs.Order.{ordering}
use Rattle.run_values.proofs.Wording.{pair, lent-left, lent-right}
use Rattle.run_comparison.proofs.comparing.text_order.Goals as goal

pub returns : goal.returns
returns c =
    let pre = c.requires in
    let a = c.args in
    let n = c.show-n in
    let m = c.show-m in
    let p = pair a.work.now _ _ a.a n.result m.result pre.1 n.ensures m.ensures in (
      c.bytes_order.ensures
          ∙ ap₂ ordering
          (lent-left m.new.work a.a n.result ∙ p.left)
          (lent-right m.new.work a.a m.result ∙ p.right),
      p.same,
    )
