-- `next_by_byte` meets its contract, by what `first_byte_from` answers.
use native.Mathlib.Omega.{arith}
use Rattle.splitting.specs.Separator.{byte}
use Rattle.separators.proofs.Stepping.{byte-within, byte-is, next-goes}
use Rattle.separators.proofs.steps.next_by_byte.Goals as goal

pub overflow_add-result : goal.overflow_add-result
overflow_add-result c =
    let a = c.args in
    let f = c.first_byte_from-end in
    let h = byte-within a.text.now a.at a.b f.result c.requires f.ensures in
    omega (arith, h.1)

pub returns : goal.returns
returns c =
    let a = c.args in
    let f = c.first_byte_from-end in
    let e = byte-is a.text.now a.at a.b f.result c.requires f.ensures in
    (next-goes a.text.now a.at (byte a.b) _ e, e)
