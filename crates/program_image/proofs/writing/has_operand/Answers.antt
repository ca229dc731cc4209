-- `has_operand`: the eight codes, one by one.
use mathlib.Core.Path.{refl}
use Rattle.program_image.specs.Written.{has_operand}
use Rattle.program_image.proofs.Parts.{operand-none}
use Rattle.program_image.proofs.writing.has_operand.Goals as goal

pub returns-in-1 : goal.returns-in-1
unfolding has_operand
returns-in-1 c = rw c.in-1.is refl

pub returns-in-2 : goal.returns-in-2
unfolding has_operand
returns-in-2 c = rw c.in-2.is refl

pub returns-in-3 : goal.returns-in-3
unfolding has_operand
returns-in-3 c = rw c.in-3.is refl

pub returns-in-22 : goal.returns-in-22
unfolding has_operand
returns-in-22 c = rw c.in-22.is refl

pub returns-in-23 : goal.returns-in-23
unfolding has_operand
returns-in-23 c = rw c.in-23.is refl

pub returns-in-27 : goal.returns-in-27
unfolding has_operand
returns-in-27 c = rw c.in-27.is refl

pub returns-in-28 : goal.returns-in-28
unfolding has_operand
returns-in-28 c = rw c.in-28.is refl

pub returns-in-29 : goal.returns-in-29
unfolding has_operand
returns-in-29 c = rw c.in-29.is refl

pub returns-in_default : goal.returns-in_default
returns-in_default c =
    let r = c.in_default.in_default-own.rest in
    let s = r.0.0.0.0 in
    let op = c.args.op in
    operand-none op s.0.0.0.1 s.0.0.1 s.0.1 s.1 r.0.0.0.1 r.0.0.1 r.0.1 r.1
