-- `constant_at` meets its contract, by the kind.
use native.Mathlib.Omega.{arith}
use Rattle.lists.proofs.Many.{on}
use Rattle.image_format.specs.Reading.{from_bytes, constant_of}
use Rattle.image_items.proofs.Standing.{kind-unknown, number-missing, number-there, text-missing, text-found}
use Rattle.image_items.proofs.items.constant_at.Goals as goal

pub returns-in_default : goal.returns-in_default
returns-in_default c = on (constant_of from_bytes) c.in_default.ensures

pub returns-in_default-take_number : goal.returns-in_default-take_number
returns-in_default-take_number c =
    let a = c.args in
    number-missing a.image.now a.at _ _ c.in-Some.ensures c.in-0.is c.in_default-take_number.ensures

pub returns-in-Some-take_number : goal.returns-in-Some-take_number
returns-in-Some-take_number c =
    let a = c.args in
    number-there a.image.now a.at _ _ c.in-Some.ensures c.in-0.is _ _ c.in-Some-take_number.ensures

pub returns-in_err-t-in-1 : goal.returns-in_err-t-in-1
returns-in_err-t-in-1 c =
    let a = c.args in
    rw c.from_residual.ensures
    (text-missing a.image.now a.at _ _ c.in-Some.ensures c.in-1.is c.in_err-t-in-1.ensures)

pub returns-in_ok-t-in-1 : goal.returns-in_ok-t-in-1
returns-in_ok-t-in-1 c =
    let a = c.args in
    text-found a.image.now a.at _ _ c.in-Some.ensures c.in-1.is _ c.in_ok-t-in-1.ensures

pub returns-in_default-kind : goal.returns-in_default-kind
returns-in_default-kind c =
    kind-unknown c.args.image.now c.args.at _ _ c.in-Some.ensures (omega arith) (omega arith)
