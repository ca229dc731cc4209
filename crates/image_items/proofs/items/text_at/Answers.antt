-- `text_at` meets its contract: a number, and whether as many bytes are left.
use Rattle.lists.proofs.Many.{on}
use Rattle.lists.specs.Parsing.{many}
use Rattle.image_format.specs.Reading.{word_up_to}
use Rattle.image_items.proofs.Standing.{text-short, text-there}
use Rattle.image_items.proofs.items.text_at.Goals as goal

pub returns-in_default : goal.returns-in_default
returns-in_default c = on (many (word_up_to 255)) c.in_default.ensures

pub returns-then-left-n : goal.returns-then-left-n
returns-then-left-n c =
    let a = c.args in
    text-short a.image.now a.at _ _ c.in-Some.ensures (λ i h. (c.type_inv.image i).fits) c.if-left-n.true

pub returns : goal.returns
returns c =
    let a = c.args in
    text-there a.image.now a.at _ _ c.in-Some.ensures (λ i h. (c.type_inv.image i).fits) c.if-left-n.false
